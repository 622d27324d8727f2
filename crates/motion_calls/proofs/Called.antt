-- A call by its checks: where they refuse, and where they pass. Assumes nothing.
use mathlib.Core.Path.{◌≡◌, refl, sym, ◌∙◌}
use mathlib.Core.Bool.{Bool, true, false, cond, ◌||◌, not}
use mathlib.Core.List.{List}
use Prim.Native.Nat.{ℕ, zero, suc, ◌<◌, ◌≤◌}
use native.Mathlib.Omega.{arith}
use borrow.Author.Tests.{lt-ltb, ltb-false}
use lib.Dec.{ltb}
use lib.ListN.{length}
use lib.Seq.{length-take-le}
use Rattle.lists.proofs.Bools.{or_none}
use Rattle.formats.specs.Formats.{format_for}
use Rattle.utf8.specs.Chars.{boundary}
use Rattle.repertoire.specs.Repertoire.{Repertoire}
use Rattle.checks.specs.Checks.{Tests, no_tests, both, refusal, lent_text, own_tests}
use Rattle.checks.specs.Answers.{says, line_answer}
use Rattle.checks.specs.Outcome.{Outcome}
use Rattle.checks.specs.declared.Line.{Line}
use Rattle.checks.specs.declared.LineAnswer.{LineAnswer}
use Rattle.checks.proofs.Fit.{Fit, fit, refusal-passed, code-refused}
use Rattle.checks.proofs.Outcomes.{called-refused, called-passed}
use Rattle.motion_calls.specs.Moves.{lent, move_call, unnamed, place_tests, prompt_tests}

module _ (R : Repertoire) (buffer : List ℕ) (line : Line) where
  -- a call by the number of its checks: what it answers where that is none, and where they refuse
  pub by_checks : (own : Tests) (o : Outcome Line) (x : LineAnswer) (k : ℕ) → k ≡ refusal (both (lent R buffer line) own) →
      ((k ≡ 0 → ⊥) → x ≡ says k line) → (k ≡ 0 → x ≡ line_answer line o) → x ≡ line_answer line (move_call R buffer line own o)
  unfolding move_call
  by_checks own o x zero e h q = called-passed (λ (p : Outcome Line). x ≡ line_answer line p) o 0 _ (sym e) refl (q refl)
  by_checks own o x (suc k) e h q =
      called-refused (λ (p : Outcome Line). x ≡ line_answer line p) o (suc k) _ (sym e) (λ z. absurd (omega arith))
      (h (λ z. absurd (omega arith)))

  pub fit_of : (own : Tests) → 0 ≡ refusal (both (lent R buffer line) own) → Fit R (format_for (length buffer)) buffer line
  fit_of own z = (fit R (format_for (length buffer)) buffer line own (sym z)).0

  pub used-of : (own : Tests) → 0 ≡ refusal (both (lent R buffer line) own) → line.len ≡ length (lent_text buffer line)
  used-of own z = sym (length-take-le line.len buffer (fit_of own z).used)

  -- a number that names nothing
  pub unnamed-refused : (r : ℕ) (x : LineAnswer) → r ≡ refusal (both (lent R buffer line) (own_tests true false false)) → x ≡ says r line →
      x ≡ line_answer line (unnamed R buffer line)
  unfolding move_call
  unnamed-refused r x e q =
      called-refused (λ (p : Outcome Line). x ≡ line_answer line p) _ r _ (sym e)
      (λ z. code-refused R (format_for (length buffer)) buffer line false false (sym e ∙ z)) q

  -- ---- tests that come after those of the lent text
  abbrev chain : Bool → Bool → Bool → Bool → ℕ → ℕ
  chain a c d e x = cond a 2 (cond c 4 (cond d 5 (cond e 6 x)))

  after-split : (a c d e p : Bool) → (chain a c d e 0 ≡ 0 → ⊥) → chain a c d e 0 ≡ chain a c d e (cond p 7 0)
  after-split true c d e p h = refl
  after-split false true d e p h = refl
  after-split false false true e p h = refl
  after-split false false false true p h = refl
  after-split false false false false p h = absurd (h refl)

  with-split : (a c d e q : Bool) → (chain a c d (e || false) 0 ≡ 0 → ⊥) → chain a c d (e || false) 0 ≡ chain a c d (e || q) 0
  with-split true c d e q h = refl
  with-split false true d e q h = refl
  with-split false false true e q h = refl
  with-split false false false true q h = refl
  with-split false false false false q h = absurd (h refl)

  module _ (prompt r : ℕ) (e : r ≡ refusal (both (lent R buffer line) no_tests)) where
    abbrev t : Tests
    t = both (lent R buffer line) no_tests

    pub prompt-before : (r ≡ 0 → ⊥) → r ≡ refusal (both (lent R buffer line) (prompt_tests prompt))
    unfolding refusal
    prompt-before h = e ∙ after-split t.sizes t.foreign t.place t.split (ltb 1024 prompt) (λ z. h (e ∙ z))

    pub prompt_over : r ≡ 0 → 1024 < prompt → 7 ≡ refusal (both (lent R buffer line) (prompt_tests prompt))
    unfolding refusal
    prompt_over z h = let p = refusal-passed t (sym e ∙ z) in rw (p.sizes, p.foreign, p.place, p.split, lt-ltb 1024 prompt h)

  pub prompt-within : (prompt : ℕ) → 0 ≡ refusal (both (lent R buffer line) (prompt_tests prompt)) → prompt ≤ 1024
  prompt-within prompt e = ltb-false 1024 prompt (fit R (format_for (length buffer)) buffer line (prompt_tests prompt) (sym e)).1.prompt

  module _ (pos r : ℕ) (e : r ≡ refusal (both (lent R buffer line) (own_tests false false (ltb line.len pos)))) where
    abbrev u : Tests
    u = both (lent R buffer line) (own_tests false false (ltb line.len pos))

    abbrev w : Tests
    w = both (lent R buffer line) (place_tests (lent_text buffer line) line.len pos)

    pub place-before : (r ≡ 0 → ⊥) → r ≡ refusal w
    unfolding refusal
    place-before h =
        e ∙ with-split u.sizes u.foreign u.place (lent R buffer line).split (not (boundary (lent_text buffer line) pos)) (λ z. h (e ∙ z))

    pub place-split : r ≡ 0 → boundary (lent_text buffer line) pos ≡ false → 6 ≡ refusal w
    unfolding refusal
    place-split z b =
        let p = refusal-passed u (sym e ∙ z) in
        let s = (or_none (lent R buffer line).split false p.split).0 in
        rw (p.sizes, p.foreign, p.place, s, b)

    pub place-fits : r ≡ 0 → boundary (lent_text buffer line) pos ≡ true → r ≡ refusal w
    unfolding refusal
    place-fits z b =
        let p = refusal-passed u (sym e ∙ z) in
        let s = (or_none (lent R buffer line).split false p.split).0 in
        z ∙ rw (p.sizes, p.foreign, p.place, s, b)
