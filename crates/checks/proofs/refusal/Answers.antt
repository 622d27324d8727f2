use mathlib.Core.Path.{ap, ◌∙◌}
use Rattle.formats.specs.declared.Format.{Format}
use Rattle.repertoire.specs.Repertoire.{catalogue}
use Rattle.checks.specs.Checks as Checks
use Rattle.checks.proofs.refusal.Goals as goal

pub returns : goal.returns
returns c =
    let a = c.args in
    c.refusal_in.ensures
    ∙ ap
    (λ (F : Format). Checks.refusal
    (Checks.both (Checks.line_tests catalogue F a.text.now a.line) (Checks.own_tests a.code a.foreign a.place))) c.format_for.ensures
