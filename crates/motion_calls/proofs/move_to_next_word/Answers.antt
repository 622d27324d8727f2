use mathlib.Core.Path.{sym, ap, ap₂, ◌∙◌}
use Rattle.std.proofs.Common.{rules, ◌≤◌, length}
use Rattle.repertoire.specs.Repertoire.{catalogue}
use Rattle.checks.specs.Checks.{no_tests}
use Rattle.checks.specs.Answers.{line_answer}
use Rattle.checks.proofs.Fit.{fit-within}
use Rattle.motion_calls.specs.Moves.{next_word_by}
use Rattle.motion_calls.proofs.Called.{by_checks, fit_of}
use Rattle.motion_calls.proofs.move_to_next_word.Goals as goal

pub on_text-requires-clause-used : goal.on_text-requires-clause-used
on_text-requires-clause-used c =
    let a = c.args in
    λ z. (fit_of catalogue a.text.now a.line no_tests (sym z ∙ c.lent_refusal.ensures)).used

pub on_text-requires-clause-takes : goal.on_text-requires-clause-takes
on_text-requires-clause-takes c =
    let a = c.args in
    λ z p e.
    let f = fit_of catalogue a.text.now a.line no_tests (sym z ∙ c.lent_refusal.ensures) in
    let w : a.line.cursor ≤ length p.now = rw e (fit-within catalogue _ a.text.now a.line f) in
    search rules

pub returns : goal.returns
returns c =
    let a = c.args in
    by_checks catalogue a.text.now a.line no_tests _ _ _ c.lent_refusal.ensures c.on_text.ensures.refused
    (λ z. let h = c.on_text.ensures.done z in search rules)
    ∙ ap (line_answer a.line) (ap₂ (next_word_by catalogue a.text.now a.line a.n) c.in-Ok.ensures c.in-Ok-try_from.ensures)
