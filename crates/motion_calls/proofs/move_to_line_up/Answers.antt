use mathlib.Core.Path.{sym, ◌∙◌}
use Rattle.std.proofs.Common.{rules, ◌≤◌, length}
use Rattle.formats.proofs.Formats.{format-fit}
use Rattle.repertoire.specs.Repertoire.{catalogue}
use Rattle.checks.proofs.Fit.{fit-within, fit-limit}
use Rattle.motion_calls.specs.Moves.{prompt_tests}
use Rattle.motion_calls.proofs.Called.{by_checks, fit_of, prompt-within}
use Rattle.motion_calls.proofs.move_to_line_up.Goals as goal

pub on_text-requires-clause-used : goal.on_text-requires-clause-used
on_text-requires-clause-used c =
    let a = c.args in
    λ z. (fit_of catalogue a.text.now a.line (prompt_tests a.prompt) (sym z ∙ c.prompt_refusal.ensures)).used

pub on_text-requires-clause-takes : goal.on_text-requires-clause-takes
on_text-requires-clause-takes c =
    let a = c.args in
    λ z p e.
    let f = fit_of catalogue a.text.now a.line (prompt_tests a.prompt) (sym z ∙ c.prompt_refusal.ensures) in
    let w : a.line.cursor ≤ length p.now = rw e (fit-within catalogue _ a.text.now a.line f) in
    let m : length p.now ≤ 131072 = rw e (fit-limit catalogue _ a.text.now a.line (format-fit _) f) in
    let q = prompt-within catalogue a.text.now a.line a.prompt (sym z ∙ c.prompt_refusal.ensures) in
    search rules

pub returns : goal.returns
returns c =
    let a = c.args in
    by_checks catalogue a.text.now a.line (prompt_tests a.prompt) _ _ _ c.prompt_refusal.ensures c.on_text.ensures.refused
    (λ z. let h = c.on_text.ensures.done z in search rules)
