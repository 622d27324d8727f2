use mathlib.Core.Path.{sym, ◌∙◌}
use Rattle.std.proofs.Common.{rules}
use Rattle.repertoire.specs.Repertoire.{catalogue}
use Rattle.checks.specs.Checks.{lent_text}
use Rattle.motion_calls.specs.Moves.{place_tests}
use Rattle.motion_calls.proofs.Called.{by_checks, fit_of}
use Rattle.motion_calls.proofs.set_pos.Goals as goal

pub on_text-requires-clause-used : goal.on_text-requires-clause-used
on_text-requires-clause-used c =
    let a = c.args in
    let own = place_tests (lent_text a.text.now a.line) a.line.len a.pos in
    λ z. (fit_of catalogue a.text.now a.line own (sym z ∙ c.place_refusal.ensures)).used

pub returns : goal.returns
returns c =
    let a = c.args in
    let own = place_tests (lent_text a.text.now a.line) a.line.len a.pos in
    by_checks catalogue a.text.now a.line own _ _ _ c.place_refusal.ensures c.on_text.ensures.refused
    (λ z. let h = c.on_text.ensures.done z in search rules)
