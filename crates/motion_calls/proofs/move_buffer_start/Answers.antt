use mathlib.Core.Path.{sym, ◌∙◌}
use Rattle.std.proofs.Common.{rules}
use Rattle.repertoire.specs.Repertoire.{catalogue}
use Rattle.checks.specs.Checks.{no_tests}
use Rattle.motion_calls.proofs.Called.{by_checks, fit_of}
use Rattle.motion_calls.proofs.move_buffer_start.Goals as goal

pub on_text-requires-clause-used : goal.on_text-requires-clause-used
on_text-requires-clause-used c =
    let a = c.args in
    λ z. (fit_of catalogue a.text.now a.line no_tests (sym z ∙ c.lent_refusal.ensures)).used

pub returns : goal.returns
returns c =
    let a = c.args in
    by_checks catalogue a.text.now a.line no_tests _ _ _ c.lent_refusal.ensures c.on_text.ensures.refused
    (λ z. let h = c.on_text.ensures.done z in search rules)
