-- Document 02, order 2: "It refuses with 14, page full, after check 8, a slip longer than the lent page, which then is untouched."
use Rattle.std.specs.Prelude.{ℕ, zero, suc, ◌≡◌, cond, List, ltb, length}
use Rattle.std.proofs.lemmas.List.Edits.{sets}
use Rattle.formats.specs.declared.Format.{Format}
use Rattle.repertoire.specs.Repertoire.{Repertoire}
use Rattle.checks.specs.Checks.{Tests, no_tests, with_later, both, refusal, text_tests}
use Rattle.checks.specs.Answers.{value_answer}
use Rattle.checks.specs.declared.ValueAnswer.{ValueAnswer}
use Rattle.slip_model.specs.Slip.{slip}

-- the page's test, of number 14: a slip longer than the page
abbrev pub page_test : ℕ → ℕ → Tests
page_test len page = with_later (cond (ltb page len) 2 0) no_tests

-- the tests of a slip: of the text, and of the page
abbrev pub slip_tests : Repertoire → Format → List ℕ → ℕ → Tests
slip_tests R F text page = both (text_tests R F text) (page_test (length (slip R text)) page)

-- the slip on the page, the bytes behind it as they were; a refusal leaves all of them
abbrev pub page_after : ℕ → List ℕ → List ℕ → List ℕ
page_after zero page s = sets page 0 s
page_after (suc k) page s = page

-- the contract of a slip: the number, the slip's length, and every byte of the page
pub record Slips (R : Repertoire) (F : Format) (text page : List ℕ) (answer : ValueAnswer) (after : List ℕ) : Type 0 where
  pub whole : answer ≡ value_answer (refusal (slip_tests R F text (length page))) (length (slip R text))
  pub bytes : after ≡ page_after (refusal (slip_tests R F text (length page))) page (slip R text)
