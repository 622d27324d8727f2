use Prim.Native.Nat.{ℕ}
use mathlib.Core.List.{List}
use mathlib.Core.Path.{◌≡◌, sym, ap, ◌∙◌}
use mathlib.Core.Bool.{Bool, false, not}
use Rattle.std.proofs.Common.{rules, ◌≤◌, length, true}
use Rattle.utf8.specs.Chars.{valid, boundary}
use Rattle.repertoire.specs.Repertoire.{catalogue}
use Rattle.repertoire.specs.Text.{is_char}
use Rattle.checks.specs.Checks.{own_tests, refusal, both}
use Rattle.checks.specs.declared.Line.{Line}
use Rattle.checks.specs.Answers.{line_answer}
use Rattle.checks.proofs.Fit.{fit-valid, fit-within}
use Rattle.motion_calls.specs.Moves.{lent, search_by}
use Rattle.motion_calls.proofs.Called.{by_checks, fit_of}
use Rattle.motion_calls.proofs.move_to.Goals as goal

-- the number of the checks, by whether the character is one of the repertoire
abbrev searching : List ℕ → Line → Bool → ℕ
searching text line b = refusal (both (lent catalogue text line) (own_tests false (not b) false))

pub on_text-requires-clause-used : goal.on_text-requires-clause-used
on_text-requires-clause-used c =
    let a = c.args in
    let own = own_tests false (not (is_char catalogue a.ch)) false in
    let k = c.refusal-tested.ensures ∙ ap (searching a.text.now a.line) c.check_char.ensures in
    λ z. (fit_of catalogue a.text.now a.line own (sym z ∙ k)).used

pub on_text-requires-clause-takes : goal.on_text-requires-clause-takes
on_text-requires-clause-takes c =
    let a = c.args in
    let own = own_tests false (not (is_char catalogue a.ch)) false in
    let k = c.refusal-tested.ensures ∙ ap (searching a.text.now a.line) c.check_char.ensures in
    λ z p e.
    let f = fit_of catalogue a.text.now a.line own (sym z ∙ k) in
    let v : valid p.now ≡ true = rw e (fit-valid catalogue _ a.text.now a.line f) in
    let b : boundary p.now a.line.cursor ≡ true = rw e f.at-boundary in
    let w : a.line.cursor ≤ length p.now = rw e (fit-within catalogue _ a.text.now a.line f) in
    search rules

pub returns : goal.returns
returns c =
    let a = c.args in
    let own = own_tests false (not (is_char catalogue a.ch)) false in
    let k = c.refusal-tested.ensures ∙ ap (searching a.text.now a.line) c.check_char.ensures in
    by_checks catalogue a.text.now a.line own _ _ _ k c.on_text.ensures.refused
    (λ z. let h = c.on_text.ensures.done z in search rules)
    ∙ ap (line_answer a.line) (ap (search_by catalogue a.text.now a.line a.ch a.n) c.in-Ok.ensures)
