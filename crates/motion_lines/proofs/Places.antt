-- Places that lines reach: of a text and a boundary in it, they lie in the text and are boundaries. Assumes nothing.
use mathlib.Core.Path.{◌≡◌, refl, sym, ap, subst, ◌∙◌}
use mathlib.Core.Bool.{Bool, true, false, cond, not}
use mathlib.Core.List.{List}
use Prim.Native.Nat.{ℕ, zero, suc, ◌+◌, ◌-◌, ◌<◌, ◌≤◌}
use native.Mathlib.Omega.{arith}
use lib.Dec.{eqb, ltb}
use lib.ListN.{length, get_or, take, drop, length-take}
use borrow.Author.Tests.{eqb-false, ltb-true}
use Rattle.std.specs.Prelude.{Option, None, Some, unwrap_or}
use Rattle.lists.specs.Lists.{sum, part}
use Rattle.lists.proofs.Bools.{by_less, by_test}
use Rattle.utf8.specs.Utf8.{tail}
use Rattle.utf8.specs.Chars.{valid, boundary, In}
use Rattle.utf8.proofs.Forms.{within-below, first_one, first-drop}
use Rattle.utf8.proofs.Boundary.{boundary_test, boundary-zero, boundary_end, boundary-drop, boundary-take, boundary-next}
use Rattle.repertoire.specs.Repertoire.{Repertoire}
use Rattle.motion.specs.Steps.{sizes}
use Rattle.motion.proofs.Places.{sizes-place, second_at}
use Rattle.motion_lines.specs.Lines.{start_of_line, end_of_line, behind_line, lines_up, lines_down, n_lines_up, n_lines_down, places}
use Rattle.motion_lines.specs.Columns.{nth_cluster, line_above, line_below, width_before, land_up, line_up, land_down, column_of, line_down}
use Rattle.motion_lines.specs.declared.Span.{Span}
use Rattle.motion_lines.proofs.Lines.{start-newline, start-le, end-le, end-newline}

-- ---- a \n is a character of one byte: boundaries stand before it and behind it
pub newline-place : (s : List ℕ) (i : ℕ) → valid s ≡ true → get_or s i 256 ≡ 0x0A → (boundary s i ≡ true) × (boundary s (i + 1) ≡ true)
newline-place s i v e =
    let b : boundary s i ≡ true =
    boundary_test s i v ∙ ap (λ (x : ℕ). not (tail x)) e ∙ ap not (within-below 0x80 0xBF 0x0A (omega arith))
    in
    (b, boundary-next s i (get_or s i 256) 1 b (first-drop s i ∙ first_one (get_or s i 256) _ _ _ (omega arith)))

-- a place that starts a line, with the place before it
start-place : (s : List ℕ) (a : ℕ) → valid s ≡ true → (0 < a → get_or s (a - 1) 256 ≡ 0x0A) → (boundary s a ≡ true) × (boundary s (a - 1) ≡ true)
start-place s a v f =
    by_less _ 0 a
    (λ h.
    let p = newline-place s (a - 1) v (f h) in
    let q : a - 1 + 1 ≡ a = omega arith in
    (rw q at p.1, p.0))
    (λ h.
    let z : 0 ≡ a = omega arith in
    let y : 0 ≡ a - 1 = omega arith in
    (subst (λ (x : ℕ). boundary s x ≡ true) z (boundary-zero s), subst (λ (x : ℕ). boundary s x ≡ true) y (boundary-zero s)))

-- a place that ends a line
pub end-place : (s : List ℕ) (e : ℕ) → valid s ≡ true → e ≤ length s → (e < length s → get_or s e 256 ≡ 0x0A) → boundary s e ≡ true
end-place s e v h f =
    by_less _ e (length s) (λ l. (newline-place s e v (f l)).0)
    (λ l. let q : length s ≡ e = omega arith in subst (λ (x : ℕ). boundary s x ≡ true) q (boundary_end s v))

-- ---- the line that a place lies in
pub start_of_line-place : (s : List ℕ) (pos : ℕ) → valid s ≡ true → pos ≤ length s → (start_of_line s pos ≤ pos) × (boundary s (start_of_line s pos) ≡ true)
start_of_line-place s pos v h = (start-le s pos, (start-place s (start_of_line s pos) v (start-newline s pos)).0)

pub end_of_line-place : (s : List ℕ) (pos : ℕ) → valid s ≡ true → boundary s pos ≡ true → pos ≤ length s →
    (pos ≤ end_of_line s pos) × (end_of_line s pos ≤ length s) × (boundary s (end_of_line s pos) ≡ true)
end_of_line-place s pos v b h =
    let l = end-le s pos h in
    (l.0, l.1, end-place s (end_of_line s pos) v l.1 (end-newline s pos h))

-- behind its \n
behind-place : (s : List ℕ) (pos : ℕ) → valid s ≡ true → pos ≤ length s → end_of_line s pos < length s → boundary s (end_of_line s pos + 1) ≡ true
behind-place s pos v h l = (newline-place s (end_of_line s pos) v (end-newline s pos h l)).1

behind-line-place : (s : List ℕ) (pos : ℕ) → valid s ≡ true → pos ≤ length s →
    (pos ≤ behind_line s pos) × (behind_line s pos ≤ length s) × (boundary s (behind_line s pos) ≡ true)
unfolding behind_line
behind-line-place s pos v h =
    let x = end-le s pos h in
    by_test _ (ltb (end_of_line s pos) (length s))
    (λ t. let l = ltb-true (end_of_line s pos) (length s) t in rw t (omega arith, omega arith, behind-place s pos v h l))
    (λ t. rw t (h, omega arith, boundary_end s v))

-- ---- the n-th line above and below
up_place : (s : List ℕ) (n a : ℕ) → valid s ≡ true → a ≤ length s → boundary s a ≡ true → (lines_up s n a ≤ a) × (boundary s (lines_up s n a) ≡ true)
unfolding lines_up
up_place s zero a v h b = (omega arith, b)
up_place s (suc n) a v h b =
    by_test _ (eqb a 0) (λ t. rw t (omega arith, boundary-zero s))
    (λ t.
    let p = start_of_line-place s (a - 1) v (omega arith) in
    let r = up_place s n (start_of_line s (a - 1)) v (omega arith) p.1 in
    rw t (omega arith, r.1))

down_place : (s : List ℕ) (n e : ℕ) → valid s ≡ true → e ≤ length s → boundary s e ≡ true →
    (e ≤ lines_down s n e) × (lines_down s n e ≤ length s) × (boundary s (lines_down s n e) ≡ true)
unfolding lines_down
down_place s zero e v h b = (omega arith, h, b)
down_place s (suc n) e v h b =
    let x = end-le s e h in
    by_test _ (ltb (end_of_line s e) (length s))
    (λ t.
    let l = ltb-true (end_of_line s e) (length s) t in
    let r = down_place s n (end_of_line s e + 1) v (omega arith) (behind-place s e v h l) in
    rw t (omega arith, r.1, r.2))
    (λ t. rw t (h, omega arith, boundary_end s v))

pub same-places : (x y a b : ℕ) → places x y ≡ places a b → (x ≡ a) × (y ≡ b)
same-places x y a b e = (
  ap (λ (r : Option Span). (unwrap_or r (record { start = 0; end = 0 })).start) e,
  ap (λ (r : Option Span). (unwrap_or r (record { start = 0; end = 0 })).end) e,
)

second-places : (t : Bool) (x y a b : ℕ) → cond t None (places x y) ≡ places a b → (t ≡ false) × (x ≡ a) × (y ≡ b)
second-places true x y a b e = let z : ◌≡◌ {A = ℕ} 0 1 = cc in absurd (omega arith)
second-places false x y a b e = let q = same-places x y a b e in (refl, q.0, q.1)

first-places : (t : Bool) (x y a b : ℕ) → cond t (places x y) None ≡ places a b → (t ≡ true) × (x ≡ a) × (y ≡ b)
first-places true x y a b e = let q = same-places x y a b e in (refl, q.0, q.1)
first-places false x y a b e = let z : ◌≡◌ {A = ℕ} 0 1 = cc in absurd (omega arith)

pub lines_up_place : (s : List ℕ) (pos n a b : ℕ) → valid s ≡ true → boundary s pos ≡ true → pos ≤ length s → n_lines_up s pos n ≡ places a b → In s a b
unfolding n_lines_up
lines_up_place s pos n a b v k h e =
    let c = second-places (eqb (start_of_line s pos) 0) (lines_up s n (start_of_line s pos)) (behind_line s pos) a b e in
    let x = c.1 in
    let y = c.2 in
    let o = start_of_line-place s pos v h in
    let u = up_place s n (start_of_line s pos) v (omega arith) o.1 in
    let d = behind-line-place s pos v h in
    (omega arith, omega arith, rw x at u.1, rw y at d.2)

pub lines_down_place : (s : List ℕ) (pos n a b : ℕ) → valid s ≡ true → boundary s pos ≡ true → pos ≤ length s → n_lines_down s pos n ≡ places a b → In s a b
unfolding n_lines_down
lines_down_place s pos n a b v k h e =
    let c = first-places (ltb (end_of_line s pos) (length s)) (start_of_line s pos - 1) (lines_down s n (end_of_line s pos + 1)) a b e in
    let l = ltb-true (end_of_line s pos) (length s) c.0 in
    let x = c.1 in
    let y = c.2 in
    let o = start-le s pos in
    let z = end-le s pos h in
    let u = start-place s (start_of_line s pos) v (start-newline s pos) in
    let d = down_place s n (end_of_line s pos + 1) v (omega arith) (behind-place s pos v h l) in
    (omega arith, omega arith, rw x at u.1, rw y at d.2)

-- ---- a part cut between two of its clusters
module _ (R : Repertoire) where
  -- where a cluster of the part from a to b starts, or another place
  nth_place : (s : List ℕ) (a b n other : ℕ) → valid s ≡ true → a ≤ b → b ≤ length s → boundary s a ≡ true → boundary s b ≡ true →
      other ≤ length s → boundary s other ≡ true → (nth_cluster R s a b n other ≤ length s) × (boundary s (nth_cluster R s a b n other) ≡ true)
  unfolding nth_cluster
  nth_place s a b n other v h l x y o z =
      let q : a + (b - a) ≡ b = omega arith in
      let w : valid (part s a b) ≡ true = sym (boundary-drop s a (b - a) x) ∙ rw q y in
      let c = sizes-place R (part s a b) n w in
      let j = sum (take n (sizes R (part s a b))) in
      let m : j ≤ b - a = let u = c.0 in omega (arith, length-take (b - a) (drop a s)) in
      let k : boundary s (a + j) ≡ true = boundary-drop s a j x ∙ boundary-take (drop a s) (b - a) j m ∙ c.1 in
      by_test _ (ltb n (length (sizes R (part s a b)))) (λ t. rw t (omega arith, k)) (λ t. rw t (o, z))

-- ---- the line n lines above or below: both ends
record Line (s : List ℕ) (l : Span) : Type 0 where
  order : l.start ≤ l.end
  within : l.end ≤ length s
  from : boundary s l.start ≡ true
  to : boundary s l.end ≡ true

above_place : (s : List ℕ) (n a e : ℕ) → valid s ≡ true → a ≤ e → e ≤ length s → boundary s e ≡ true → (0 < a → get_or s (a - 1) 256 ≡ 0x0A) →
    Line s (line_above s n a e)
unfolding line_above
above_place s zero a e v h l b f = record { order = h; within = l; from = (start-place s a v f).0; to = b }
above_place s (suc n) a e v h l b f =
    let p = start-place s a v f in
    by_test _ (eqb a 0) (λ t. rw t (record { order = h; within = l; from = p.0; to = b }))
    (λ t. rw t (above_place s n (start_of_line s (a - 1)) (a - 1) v (start-le s (a - 1)) (omega arith) p.1 (start-newline s (a - 1))))

below-place : (s : List ℕ) (n a e : ℕ) → valid s ≡ true → a ≤ e → e ≤ length s → boundary s a ≡ true → (e < length s → get_or s e 256 ≡ 0x0A) →
    Line s (line_below s n a e)
unfolding line_below
below-place s zero a e v h l b f = record { order = h; within = l; from = b; to = end-place s e v l f }
below-place s (suc n) a e v h l b f =
    by_test _ (eqb e (length s)) (λ t. rw t (record { order = h; within = l; from = b; to = end-place s e v l f }))
    (λ t.
    let ne = eqb-false e (length s) t in
    let g : e < length s = by_less _ e (length s) (λ x. x) (λ x. absurd (ne (omega arith))) in
    let r = end-le s (e + 1) (omega arith) in
    rw t (below-place s n (e + 1) (end_of_line s (e + 1)) v r.0 r.1 (newline-place s e v (f g)).1 (end-newline s (e + 1) (omega arith))))

first-at : (t : Bool) (x p : ℕ) → cond t (Some x) None ≡ Some p → (t ≡ true) × (x ≡ p)
first-at true x p e = (refl, cc)
first-at false x p e = let z : ◌≡◌ {A = ℕ} 0 1 = cc in absurd (omega arith)

module _ (R : Repertoire) (s : List ℕ) (pos n prompt p : ℕ) (v : valid s ≡ true) (k : boundary s pos ≡ true) (h : pos ≤ length s) where
  pub line_up_place : line_up R s pos n prompt ≡ Some p → (p ≤ length s) × (boundary s p ≡ true)
  unfolding line_up
  line_up_place e =
      let own = start_of_line s pos in
      let l = line_above s (n - 1) (start_of_line s (own - 1)) (own - 1) in
      let c = second_at (eqb own 0) (land_up R s (width_before R s pos 0) (own - 1) prompt l) p e in
      let o = start-le s pos in
      let u = (start-place s own v (start-newline s pos)).1 in
      let z = above_place s (n - 1) (start_of_line s (own - 1)) (own - 1) v (start-le s (own - 1)) (omega arith) u (start-newline s (own - 1)) in
      subst (λ (x : ℕ). (x ≤ length s) × (boundary s x ≡ true)) c.1
      (nth_place R s l.start l.end _ (own - 1) v z.order z.within z.from z.to (omega arith) u)

  pub line_down_place : line_down R s pos n prompt ≡ Some p → (p ≤ length s) × (boundary s p ≡ true)
  unfolding line_down
  line_down_place e =
      let x = end_of_line s pos in
      let l = line_below s (n - 1) (x + 1) (end_of_line s (x + 1)) in
      let c = first-at (ltb x (length s)) (land_down R s (column_of R s pos prompt) l) p e in
      let g = ltb-true x (length s) c.0 in
      let r = end-le s (x + 1) (omega arith) in
      let z = below-place s (n - 1) (x + 1) (end_of_line s (x + 1)) v r.0 r.1 (behind-place s pos v h g) (end-newline s (x + 1) (omega arith)) in
      subst (λ (y : ℕ). (y ≤ length s) × (boundary s y ≡ true)) c.1
      (nth_place R s l.start l.end _ l.end v z.order z.within z.from z.to z.within z.to)
