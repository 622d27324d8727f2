-- The number of a text that is lent without a cursor: over its most bytes, not a text, or neither. Assumes nothing.
use Prim.Native.Nat.{ℕ, ◌≤◌, ◌<◌}
use mathlib.Core.Path.{◌≡◌, refl, sym, ◌∙◌}
use mathlib.Core.Bool.{true, false}
use mathlib.Core.List.{List}
use native.Mathlib.Omega.{arith}
use lib.Dec.{ltb}
use lib.ListN.{length}
use borrow.Author.Tests.{lt-ltb, le-ltb}
use Rattle.lists.proofs.Bools.{by_test, by_less}
use Rattle.formats.specs.declared.Format.{Format}
use Rattle.repertoire.specs.Repertoire.{Repertoire}
use Rattle.repertoire.specs.Text.{is_text}
use Rattle.checks.specs.Checks.{refusal, text_tests}

module _ (R : Repertoire) (F : Format) (s : List ℕ) where
  pub text_over : F.text < length s → 2 ≡ refusal (text_tests R F s)
  unfolding refusal
  text_over h = rw (lt-ltb _ _ h) refl

  pub text-foreign : length s ≤ F.text → is_text R s ≡ false → 4 ≡ refusal (text_tests R F s)
  unfolding refusal
  text-foreign h e = rw (le-ltb _ _ h, e) refl

  pub text-fits : length s ≤ F.text → is_text R s ≡ true → 0 ≡ refusal (text_tests R F s)
  unfolding refusal
  text-fits h e = rw (le-ltb _ _ h, e) refl

  -- the numbers of both tests
  pub text-most : refusal (text_tests R F s) ≤ 4
  unfolding refusal
  text-most =
      by_test _ (ltb F.text (length s)) (λ t. rw t (omega arith))
      (λ t. by_test _ (is_text R s) (λ u. rw (t, u) (omega arith)) (λ u. rw (t, u) (omega arith)))

  -- no number: a text of at most so many bytes
  pub text-passes : 0 ≡ refusal (text_tests R F s) → (length s ≤ F.text) × (is_text R s ≡ true)
  text-passes e =
      by_less _ F.text (length s) (λ h. absurd (omega (arith, e ∙ sym (text_over h))))
      (λ h. by_test _ (is_text R s) (λ t. (h, t)) (λ t. absurd (omega (arith, e ∙ sym (text-foreign h t)))))
