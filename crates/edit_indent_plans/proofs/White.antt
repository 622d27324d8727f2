-- The white space that a line begins with, and how much of it a dedent cuts. Assumes nothing.
use mathlib.Core.Path.{◌≡◌, sym, ap, ◌∙◌}
use mathlib.Core.Bool.{true, false}
use mathlib.Core.List.{List}
use Prim.Native.Nat.{ℕ, ◌+◌, ◌<◌, ◌≤◌}
use native.Mathlib.Omega.{arith}
use lib.Dec.{ltb}
use lib.ListN.{length, drop, length-drop}
use lib.Seq.{drop-drop}
use borrow.Author.Tests.{lt-ltb, le-ltb, ltb-false}
use Rattle.lists.proofs.Bools.{by_test}
use Rattle.utf8.specs.Utf8.{char, bad, first}
use Rattle.utf8.specs.Chars.{chars}
use Rattle.utf8.proofs.Chars.{first-within, chars_step, chars-bad}
use Rattle.utf8.proofs.Append.{by_chars}
use Rattle.repertoire.specs.Repertoire.{Repertoire}
use Rattle.edit_indent_plans.specs.Touched.{leading, deleting}

module _ (R : Repertoire) where
  step_white : (t : List ℕ) (c n : ℕ) → first t ≡ char c n → R.white c ≡ true → leading R (chars t) ≡ n + leading R (chars (drop n t))
  unfolding leading
  step_white t c n e w = ap (leading R) (chars_step t c n e) ∙ rw w (ap (λ (k : ℕ). k + leading R (chars (drop n t))) (sym (first-within t c n e).sized))

  pub step_other : (t : List ℕ) (c n : ℕ) → first t ≡ char c n → R.white c ≡ false → leading R (chars t) ≡ 0
  unfolding leading
  step_other t c n e w = ap (leading R) (chars_step t c n e) ∙ rw w

  step_bad : (t : List ℕ) → first t ≡ bad → leading R (chars t) ≡ 0
  unfolding leading
  step_bad t e = ap (leading R) (chars-bad t e)

  pub leading_in : (x : List ℕ) → leading R (chars x) ≤ length x
  leading_in =
      by_chars (λ (x : List ℕ). leading R (chars x) ≤ length x) (λ t e. let z = step_bad t e in omega arith)
      (λ t c n e r.
      let f = (first-within t c n e).fits in
      by_test _ (R.white c) (λ w. let z = step_white t c n e w in omega (arith, length-drop n t)) (λ w. let z = step_other t c n e w in omega arith))

  -- from the place i of a line on
  module _ (x : List ℕ) (i : ℕ) where
    pub white_on : (c n : ℕ) → i ≤ length x → first (drop i x) ≡ char c n → R.white c ≡ true
        → (0 < n) × (i + n ≤ length x) × (i + leading R (chars (drop i x)) ≡ i + n + leading R (chars (drop (i + n) x)))
    white_on c n h e w =
        let f = first-within (drop i x) c n e in
        let a = f.some in
        let b = f.fits in
        let l = length-drop i x in
        let z = step_white (drop i x) c n e w ∙ ap (λ (y : List ℕ). n + leading R (chars y)) (drop-drop n i x) in
        (a, omega arith, omega arith)

    module _ (m : ℕ) (v : i + leading R (chars (drop i x)) ≡ leading R (chars x)) where
      stops : i < m → leading R (chars (drop i x)) ≡ 0 → i ≡ deleting R m x
      unfolding deleting
      stops h z =
          let l : leading R (chars x) ≡ i = omega arith in
          sym (rw (lt-ltb (leading R (chars x)) m (omega arith)) l)

      pub stops_other : (c n : ℕ) → i < m → first (drop i x) ≡ char c n → R.white c ≡ false → i ≡ deleting R m x
      stops_other c n h e w = stops h (step_other (drop i x) c n e w)

      pub stops-bad : i < m → first (drop i x) ≡ bad → i ≡ deleting R m x
      stops-bad h e = stops h (step_bad (drop i x) e)

      pub stops_enough : m ≤ i → m ≡ deleting R m x
      unfolding deleting
      stops_enough h = sym (rw (le-ltb (leading R (chars x)) m (omega arith)))

  -- no more than the white space
  pub deleting-white : (m : ℕ) (x : List ℕ) → deleting R m x ≤ leading R (chars x)
  unfolding deleting
  deleting-white m x =
      by_test _ (ltb (leading R (chars x)) m)
      (λ t. rw t (omega arith)) (λ t. let h = ltb-false (leading R (chars x)) m t in rw t h)

  pub deleting_in : (m : ℕ) (x : List ℕ) → deleting R m x ≤ length x
  deleting_in m x = let a = deleting-white m x in let b = leading_in x in omega arith
