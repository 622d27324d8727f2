use mathlib.Core.Path.{◌≡◌, sym, ap, ◌∙◌}
use Rattle.std.proofs.Common.{rules, ◌≤◌, length, true}
use Rattle.utf8.specs.Chars.{valid, boundary}
use Rattle.repertoire.specs.Repertoire.{catalogue}
use Rattle.checks.specs.Answers.{line_answer}
use Rattle.checks.proofs.Fit.{fit-valid, fit-within}
use Rattle.motion_calls.specs.Copy.{copy_tests, copy_by}
use Rattle.motion_calls.proofs.Called.{by_checks, fit_of}
use Rattle.motion_calls.proofs.copy.Goals as goal

pub on_text-requires-clause-used : goal.on_text-requires-clause-used
on_text-requires-clause-used c =
    let a = c.args in
    let own = copy_tests catalogue a.text.now a.line c.in-Ok.m in
    λ z. (fit_of catalogue a.text.now a.line own (sym z ∙ c.copy_refusal.ensures)).used

pub on_text-requires-clause-takes : goal.on_text-requires-clause-takes
on_text-requires-clause-takes c =
    let a = c.args in
    let own = copy_tests catalogue a.text.now a.line c.in-Ok.m in
    λ z p e.
    let f = fit_of catalogue a.text.now a.line own (sym z ∙ c.copy_refusal.ensures) in
    let v : valid p.now ≡ true = rw e (fit-valid catalogue _ a.text.now a.line f) in
    let b : boundary p.now a.line.cursor ≡ true = rw e f.at-boundary in
    let w : a.line.cursor ≤ length p.now = rw e (fit-within catalogue _ a.text.now a.line f) in
    search rules

pub returns : goal.returns
returns c =
    let a = c.args in
    let own = copy_tests catalogue a.text.now a.line c.in-Ok.m in
    by_checks catalogue a.text.now a.line own _ _ _ c.copy_refusal.ensures c.on_text.ensures.refused
    (λ z. let h = c.on_text.ensures.done z in search rules)
    ∙ ap (line_answer a.line) (ap (copy_by catalogue a.text.now a.line) c.in-Ok.ensures)
