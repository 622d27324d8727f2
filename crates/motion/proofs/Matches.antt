-- A place that a search finds is a boundary, and so is the place behind the character sought. Assumes nothing.
use mathlib.Core.Path.{◌≡◌, sym, ap, subst, ◌∙◌}
use mathlib.Core.Bool.{true}
use mathlib.Core.List.{List, [], ◌∷◌, ◌++◌, append_assoc}
use Prim.Native.Nat.{ℕ, ◌+◌, ◌-◌, ◌≤◌}
use native.Mathlib.Omega.{arith}
use borrow.Author.Tests.{eqb-true}
use lib.Dec.{eqb}
use lib.ListN.{length, take, drop, length-drop, drop_of_length-le}
use lib.Seq.{length-take-le}
use Rattle.std.specs.Prelude.{Option, None, Some}
use Rattle.lists.proofs.Bools.{by_test, by_less}
use Rattle.lists.proofs.Every.{Every, every_weaken, every_take, every_reverse}
use Rattle.utf8.specs.Chars.{chars_from, chars, valid, boundary}
use Rattle.utf8.specs.Encode.{size}
use Rattle.utf8.proofs.Append.{valid-cut}
use Rattle.utf8.proofs.Boundary.{boundary-take, boundary-drop}
use Rattle.repertoire.specs.Repertoire.{Repertoire}
use Rattle.cluster.specs.Clusters.{clusters, bytes, first_size}
use Rattle.cluster.proofs.Facts.{bytes-append}
use Rattle.cluster.proofs.Parts.{cut_chars, first-cut}
use Rattle.motion.specs.Search.{matches, last_found, nth_match, after_cluster, match_forward, match_backward}

-- c stands at p among the characters cs, the first of which stands at the place at
record Match (c at : ℕ) (cs : List ℕ) (p : ℕ) : Type 0 where
  front : List ℕ
  back : List ℕ
  parts : cs ≡ front ++ (c ∷ back)
  spot : p ≡ at + bytes front

further : (c at d : ℕ) (cs : List ℕ) (p : ℕ) → Match c (at + size d) cs p → Match c at (d ∷ cs) p
further c at d cs p m =
    let q = m.spot in
    record { front = d ∷ m.front; back = m.back; parts = ap (λ (l : List ℕ). d ∷ l) m.parts; spot = omega arith }

matches_every : (c at : ℕ) (cs : List ℕ) → Every (Match c at cs) (matches c at cs)
unfolding matches
matches_every c at [] = tt
matches_every c at (d ∷ cs) =
    let h = every_weaken (Match c (at + size d) cs) (Match c at (d ∷ cs)) (further c at d cs) (matches c (at + size d) cs) (matches_every c (at + size d) cs) in
    by_test _ (eqb d c)
    (λ e.
    let q = eqb-true d c e in
    rw e (record { front = []; back = cs; parts = ap (λ (x : ℕ). x ∷ cs) q; spot = omega arith }, h))
    (λ e. rw e h)

-- what is found is one of the places
every_found : (P : ℕ → Type 0) (f : Option ℕ) (ps : List ℕ) (p : ℕ) → Every P ps → last_found f ps ≡ Some p → (f ≡ Some p → P p) → P p
every_found P f [] p h e k = k e
every_found P f (q ∷ ps) p h e k = every_found P (Some q) ps p h.1 e (λ s. let z : q ≡ p = cc in subst P z h.0)

nth_found : (P : ℕ → Type 0) (n : ℕ) (ps : List ℕ) (p : ℕ) → Every P ps → nth_match n ps ≡ Some p → P p
unfolding nth_match
nth_found P n ps p h e =
    every_found P None (take n ps) p (every_take P n ps h) e (λ s. let o : ◌≡◌ {A = ℕ} 0 1 = cc in absurd (omega arith))

-- as many bytes as the character c has fit at p of s, and both their ends are boundaries
pub record Stands (s : List ℕ) (c p : ℕ) : Type 0 where
  pub fits : p + size c ≤ length s
  pub at-boundary : boundary s p ≡ true
  pub behind : boundary s (p + size c) ≡ true

-- a match in a text
stands : (t : List ℕ) (c p : ℕ) → valid t ≡ true → Match c 0 (chars t) p → Stands t c p
stands t c p v m =
    let k = m.spot in
    let w : p ≡ bytes m.front = omega arith in
    let z = cut_chars t m.front (c ∷ m.back) v m.parts in
    let y = z.whole in
    let x = cut_chars t (m.front ++ (c ∷ [])) m.back v (m.parts ∙ sym (append_assoc m.front (c ∷ []) m.back)) in
    let b : bytes (m.front ++ (c ∷ [])) ≡ p + size c = (let h = bytes-append m.front (c ∷ []) in omega arith) in
    record { fits = omega arith; at-boundary = ap (boundary t) w ∙ z.at-boundary; behind = ap (boundary t) (sym b) ∙ x.at-boundary }

-- ---- backward: among the characters before pos
pub backward_stands : (s : List ℕ) (pos c n p : ℕ) → boundary s pos ≡ true → pos ≤ length s → match_backward s pos c n ≡ Some p →
    (p + size c ≤ pos) × Stands s c p
unfolding match_backward
backward_stands s pos c n p b h e =
    let cs = chars (take pos s) in
    let m = nth_found (Match c 0 cs) n _ p (every_reverse (Match c 0 cs) (matches c 0 cs) (matches_every c 0 cs)) e in
    let z = stands (take pos s) c p b m in
    let l = length-take-le pos s h in
    let f = z.fits in
    let g : p + size c ≤ pos = omega arith in (
      g,
      record {
        fits = omega arith;
        at-boundary = boundary-take s pos p (omega arith) ∙ z.at-boundary;
        behind = boundary-take s pos (p + size c) g ∙ z.behind;
      },
    )

-- behind the cursor's cluster
after-place : (R : Repertoire) (s : List ℕ) (pos : ℕ) → valid s ≡ true → boundary s pos ≡ true → pos ≤ length s →
    (pos ≤ after_cluster R s pos) × (after_cluster R s pos ≤ length s) × (boundary s (after_cluster R s pos) ≡ true)
unfolding after_cluster clusters chars_from
after-place R s pos v b h =
    let w : valid (drop pos s) ≡ true = sym (valid-cut s pos b) ∙ v in
    let l = length-drop pos s in
    by_less _ 0 (length (drop pos s))
    (λ g.
    let z = (first-cut R (drop pos s) w g).cut in
    let f = z.fits in
    (omega arith, omega arith, boundary-drop s pos (first_size R (drop pos s)) b ∙ z.at-boundary))
    (λ g.
    let m : length s ≤ pos = omega arith in
    let n : drop pos s ≡ [] = drop_of_length-le s m in
    let k : pos + first_size R (drop pos s) ≡ pos = ap (λ (t : List ℕ). pos + first_size R t) n ∙ omega arith in
    (omega arith, omega arith, ap (boundary s) k ∙ b))

-- ---- forward: among the characters behind the cursor's cluster
shifted : (c at : ℕ) (cs : List ℕ) (p : ℕ) → Match c at cs p → (at ≤ p) × Match c 0 cs (p - at)
shifted c at cs p m = let k = m.spot in (omega arith, record { front = m.front; back = m.back; parts = m.parts; spot = omega arith })

pub forward-stands : (R : Repertoire) (s : List ℕ) (pos c n p : ℕ) → valid s ≡ true → boundary s pos ≡ true → pos ≤ length s →
    match_forward R s pos c n ≡ Some p → (pos ≤ p) × Stands s c p
unfolding match_forward
forward-stands R s pos c n p v b h e =
    let a = after-place R s pos v b h in
    let at = after_cluster R s pos in
    let m = nth_found (Match c at (chars (drop at s))) n _ p (matches_every c at (chars (drop at s))) e in
    let q = shifted c at (chars (drop at s)) p m in
    let z = stands (drop at s) c (p - at) (sym (valid-cut s at a.2) ∙ v) q.1 in
    let l = length-drop at s in
    let f = z.fits in
    let g = q.0 in
    let k = a.0 in
    let i = a.1 in
    let w : at + (p - at) ≡ p = omega arith in
    let y : at + (p - at + size c) ≡ p + size c = omega arith in (
      omega arith,
      record {
        fits = omega arith;
        at-boundary = ap (boundary s) (sym w) ∙ boundary-drop s at (p - at) a.2 ∙ z.at-boundary;
        behind = ap (boundary s) (sym y) ∙ boundary-drop s at (p - at + size c) a.2 ∙ z.behind;
      },
    )
