-- The answer of a slip: a text that is turned away, a page that is too short, and a slip on its page. Assumes nothing.
use Prim.Native.Nat.{ℕ, zero, suc, ◌≤◌, ◌<◌}
use mathlib.Core.Path.{◌≡◌, refl, sym, ap, ◌∙◌}
use mathlib.Core.List.{List}
use native.Mathlib.Omega.{arith}
use lib.ListN.{length}
use lib.Seq.{sets}
use borrow.Author.Tests.{lt-ltb, le-ltb}
use Rattle.lists.proofs.Bools.{by_less}
use Rattle.formats.specs.declared.Format.{Format}
use Rattle.repertoire.specs.Repertoire.{Repertoire}
use Rattle.checks.specs.Checks.{lower, refusal, text_tests}
use Rattle.checks.specs.Answers.{value_answer}
use Rattle.checks.specs.declared.ValueAnswer.{ValueAnswer}
use Rattle.checks.proofs.LowerNumbers.{lower_none, first-least}
use Rattle.checks.proofs.Lowest.{refusal-both}
use Rattle.checks.proofs.Texts.{text-most}
use Rattle.slip_model.specs.Slip.{slip}
use Rattle.slip_calls.specs.Answer.{page_test, slip_tests, page_after, Slips}

-- the page's number
page_full : (len page : ℕ) → page < len → refusal (page_test len page) ≡ 14
unfolding refusal
page_full len page h = rw (lt-ltb _ _ h) refl

page_enough : (len page : ℕ) → len ≤ page → refusal (page_test len page) ≡ 0
unfolding refusal
page_enough len page h = rw (le-ltb _ _ h) refl

module _ (R : Repertoire) (F : Format) (text page : List ℕ) where
  abbrev number : ℕ
  number = refusal (slip_tests R F text (length page))

  abbrev len : ℕ
  len = length (slip R text)

  -- by the number
  by_number : (k : ℕ) → number ≡ k → (answer : ValueAnswer) (after : List ℕ) → answer ≡ value_answer k len → after ≡ page_after k page (slip R text) →
      Slips R F text page answer after
  by_number k e answer after a b =
      record {
        whole = a ∙ ap (λ (n : ℕ). value_answer n len) (sym e);
        bytes = b ∙ ap (λ (n : ℕ). page_after n page (slip R text)) (sym e);
      }

  -- the tests of both
  parts : number ≡ lower (refusal (text_tests R F text)) (refusal (page_test len (length page)))
  parts = refusal-both (text_tests R F text) (page_test len (length page))

  passed : refusal (text_tests R F text) ≡ 0 → number ≡ refusal (page_test len (length page))
  passed e = parts ∙ ap (λ (n : ℕ). lower n (refusal (page_test len (length page)))) e

  -- the text is turned away
  pub slip-refused : (n : ℕ) → n ≡ refusal (text_tests R F text) → (n ≡ 0 → ⊥) → Slips R F text page (record { number = n; value = 0 }) page
  slip-refused zero e h = absurd (h refl)
  slip-refused (suc n) e h = by_number (suc n) first (record { number = suc n; value = 0 }) page refl refl
    where
      most : suc n ≤ 4
      most = omega (arith, e, text-most R F text)

      first : number ≡ suc n
      first =
          parts ∙ ap (λ (k : ℕ). lower k (refusal (page_test len (length page)))) (sym e) ∙
          by_less _ (length page) len
          (λ k. ap (lower (suc n)) (page_full len (length page) k) ∙ sym (first-least (suc n) 14 h (omega (arith, most))))
          (λ k. ap (lower (suc n)) (page_enough len (length page) k) ∙ lower_none (suc n))

  -- the page is too short
  pub slip_full : 0 ≡ refusal (text_tests R F text) → length page < len → Slips R F text page (record { number = 14; value = 0 }) page
  slip_full e h = by_number 14 (passed (sym e) ∙ page_full len (length page) h) (record { number = 14; value = 0 }) page refl refl

  -- the slip is on the page
  pub slip-done : (n : ℕ) (after : List ℕ) → 0 ≡ refusal (text_tests R F text) → n ≡ len → len ≤ length page → after ≡ sets page 0 (slip R text) →
      Slips R F text page (record { number = 0; value = n }) after
  slip-done n after e q h a =
      by_number 0 (passed (sym e) ∙ page_enough len (length page) h) (record { number = 0; value = n }) after
      (ap (λ (x : ℕ). value_answer 0 x) q) a
