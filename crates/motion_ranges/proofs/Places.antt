-- The two places of copy: of a text and a boundary in it, they are in order, lie in the text and are boundaries. Assumes nothing.
use mathlib.Core.Path.{◌≡◌, refl, sym, ap, subst, ◌∙◌}
use mathlib.Core.Bool.{Bool, true, false, cond, ◌&&◌}
use mathlib.Core.List.{List}
use Prim.Native.Nat.{ℕ, ◌+◌, ◌≤◌}
use native.Mathlib.Nat.{add-zero}
use native.Mathlib.Omega.{arith}
use borrow.Author.Tests.{ltb-false}
use lib.Dec.{eqb, ltb}
use lib.ListN.{length}
use Rattle.std.specs.Prelude.{Option, None, Some}
use Rattle.utf8.specs.Chars.{valid, boundary, In}
use Rattle.utf8.specs.Encode.{size}
use Rattle.utf8.proofs.Boundary.{boundary-zero, boundary_end}
use Rattle.repertoire.specs.Repertoire.{Repertoire}
use Rattle.keymap.specs.declared.Word.TheVariants.{Big}
use Rattle.keymap.specs.declared.At.TheVariants.{Start}
use Rattle.keymap.specs.declared.CharSearch.{CharSearch}
use Rattle.keymap.specs.declared.CharSearch.TheVariants.{Forward, ForwardBefore, Backward, BackwardAfter}
use Rattle.keymap.specs.declared.Movement.{Movement}
use Rattle.keymap.specs.declared.Movement.TheVariants as m
use Rattle.motion.specs.Steps.{next_pos, prev_pos}
use Rattle.motion.specs.Search.{match_forward, match_backward}
use Rattle.motion.proofs.Matches.{forward-stands, backward_stands}
use Rattle.motion.proofs.Places.{next_pos_place, prev_pos_place}
use Rattle.motion_words.specs.Words.{prev_word_pos, next_word_pos}
use Rattle.motion_words.proofs.Places.{next-word-place, prev_word-place}
use Rattle.motion_lines.specs.Lines.{start_of_line, end_of_line, places}
use Rattle.motion_lines.proofs.Places.{same-places, start_of_line-place, end_of_line-place, lines_up_place, lines_down_place}
use Rattle.motion_ranges.specs.Ranges.{up_to, back_to, between, search_range, first_print, range_of, copied, is_after, is_first_print}
use Rattle.motion_ranges.specs.Ranges.{starts_after}
use Rattle.motion_lines.specs.declared.Span.{Span}

-- ---- what holds of the places that an answer is made of holds of its two places
module _ (P : ℕ → ℕ → Type 0) (a b : ℕ) where
  of_places : (x y : ℕ) → places x y ≡ places a b → P x y → P a b
  of_places x y e h =
      let q = same-places x y a b e in
      subst (λ (i : ℕ). P i b) q.0 (subst (P x) q.1 h)

  pub of_nowhere : None ≡ places a b → P a b
  of_nowhere e = let z : ◌≡◌ {A = ℕ} 0 1 = cc in absurd (omega arith)

  of_test : (t : Bool) (r : Option Span) → cond t None r ≡ places a b → (r ≡ places a b → P a b) → P a b
  of_test true r e g = of_nowhere e
  of_test false r e g = g e

  pub of_between : (x y : ℕ) → between x y ≡ places a b → P x y → P a b
  of_between x y e h = of_test (eqb x y) (places x y) e (λ q. of_places x y q h)

  module _ (pos k : ℕ) where
    of_up : (f : Option ℕ) → up_to pos k f ≡ places a b → ((p : ℕ) → f ≡ Some p → P pos (p + k)) → P a b
    of_up (Some p) e g = of_places pos (p + k) e (g p refl)
    of_up None e g = of_nowhere e

    of_back : (f : Option ℕ) → back_to pos k f ≡ places a b → ((p : ℕ) → f ≡ Some p → P (p + k) pos) → P a b
    of_back (Some p) e g = of_places (p + k) pos e (g p refl)
    of_back None e g = of_nowhere e

-- from the cursor to a place that is found, and back
module _ (s : List ℕ) (pos a b : ℕ) (k : boundary s pos ≡ true) (h : pos ≤ length s) where
  pub up_in : (f : Option ℕ) → up_to pos 0 f ≡ places a b → ((p : ℕ) → f ≡ Some p → (pos ≤ p) × (p ≤ length s) × (boundary s p ≡ true)) → In s a b
  up_in f e g = of_up (In s) a b pos 0 f e (λ p q. let z = g p q in subst (In s pos) (sym (add-zero p)) (z.0, z.1, k, z.2))

  pub back_in : (f : Option ℕ) → back_to pos 0 f ≡ places a b → ((p : ℕ) → f ≡ Some p → (p ≤ pos) × (boundary s p ≡ true)) → In s a b
  back_in f e g = of_back (In s) a b pos 0 f e (λ p q. let z = g p q in subst (λ (i : ℕ). In s i pos) (sym (add-zero p)) (z.0, h, z.1, k))

module _ (R : Repertoire) (s : List ℕ) (pos a b : ℕ) (v : valid s ≡ true) (k : boundary s pos ≡ true) (h : pos ≤ length s) where
  search_in : (n : ℕ) (cs : CharSearch) → search_range R s pos n cs ≡ places a b → In s a b
  search_in n (Forward c) e =
      of_up (In s) a b pos (size c) (match_forward R s pos c n) e
      (λ p q. let z = forward-stands R s pos c n p v k h q in let o = z.0 in (omega arith, z.1.fits, k, z.1.behind))
  search_in n (ForwardBefore c) e =
      up_in s pos a b k h (match_forward R s pos c n) e
      (λ p q. let z = forward-stands R s pos c n p v k h q in let f = z.1.fits in (z.0, omega arith, z.1.at-boundary))
  search_in n (Backward c) e =
      back_in s pos a b k h (match_backward s pos c n) e
      (λ p q. let z = backward_stands s pos c n p k h q in let o = z.0 in (omega arith, z.1.at-boundary))
  search_in n (BackwardAfter c) e =
      of_back (In s) a b pos (size c) (match_backward s pos c n) e
      (λ p q. let z = backward_stands s pos c n p k h q in (z.0, h, z.1.behind, k))

  -- ViFirstPrint's start lies in the text, and may lie after the cursor
  range_in : (mvt : Movement) → range_of R s pos mvt ≡ places a b → (is_first_print mvt ≡ true → a ≤ pos) → In s a b
  range_in m.WholeLine e f =
      let o = start_of_line-place s pos v h in
      of_test (In s) a b (eqb (start_of_line s pos) (end_of_line s pos)) _ e
      (λ q. of_places (In s) a b (start_of_line s pos) pos q (o.0, h, o.1, k))
  range_in m.BeginningOfLine e f =
      let o = start_of_line-place s pos v h in
      of_between (In s) a b (start_of_line s pos) pos e (o.0, h, o.1, k)
  range_in m.EndOfLine e f =
      let o = end_of_line-place s pos v k h in
      of_between (In s) a b pos (end_of_line s pos) e (o.0, o.1, k, o.2)
  range_in (m.BackwardWord n w) e f = back_in s pos a b k h (prev_word_pos R s pos w n) e (λ p q. prev_word-place R s pos w n p v k h q)
  range_in (m.ForwardWord n at w) e f = up_in s pos a b k h (next_word_pos R s pos at w n) e (λ p q. next-word-place R s pos at w n p v k h q)
  range_in (m.ViCharSearch n cs) e f = search_in n cs e
  range_in m.ViFirstPrint e f =
      let o : a ≤ pos = f refl in
      of_test (In s) a b (eqb pos 0) _ e
      (λ q.
      of_back (λ i j. i ≡ a → In s i j) a b pos 0 (first_print R s) q
      (λ p g y.
      let z = next-word-place R s 0 Start Big 1 p v (boundary-zero s) (omega arith) g in
      let x : p ≤ pos = omega arith in
      subst (λ (i : ℕ). In s i pos) (sym (add-zero p)) (x, h, z.2, k)) refl)
  range_in (m.BackwardChar n) e f = back_in s pos a b k h (prev_pos R s pos n) e (λ p q. prev_pos_place R s pos n p v k h q)
  range_in (m.ForwardChar n) e f = up_in s pos a b k h (next_pos R s pos n) e (λ p q. next_pos_place R s pos n p v k h q)
  range_in (m.LineUp n) e f = lines_up_place s pos n a b v k h e
  range_in (m.LineDown n) e f = lines_down_place s pos n a b v k h e
  range_in m.WholeBuffer e f =
      of_places (In s) a b 0 (length s) e (omega arith, omega arith, boundary-zero s, boundary_end s v)
  range_in m.BeginningOfBuffer e f = of_between (In s) a b 0 pos e (omega arith, h, boundary-zero s, k)
  range_in m.EndOfBuffer e f = of_between (In s) a b pos (length s) e (h, omega arith, k, boundary_end s v)

-- where check 5 passes
pub copied-place : (R : Repertoire) (s : List ℕ) (pos : ℕ) (mvt : Movement) (a b : ℕ) → valid s ≡ true → boundary s pos ≡ true → pos ≤ length s →
    starts_after R s pos mvt ≡ false → copied R s pos mvt ≡ places a b → In s a b
unfolding copied starts_after
copied-place R s pos mvt a b v k h f e =
    of_test (In s) a b (eqb (length s) 0) (range_of R s pos mvt) e
    (λ q.
    range_in R s pos a b v k h mvt q
    (λ t.
    ltb-false pos a
    (sym (ap (λ (x : Bool). x && ltb pos a) t) ∙ ap (λ (r : Option Span). is_first_print mvt && is_after pos r) (sym e) ∙ f)))
