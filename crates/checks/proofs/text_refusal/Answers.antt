use mathlib.Core.Path.{sym, ap, ◌∙◌}
use native.Mathlib.Omega.{arith}
use Rattle.formats.specs.Formats.{format_for}
use Rattle.formats.specs.declared.Format.{Format}
use Rattle.repertoire.specs.Repertoire.{catalogue}
use Rattle.checks.proofs.Texts.{text_over, text-foreign, text-fits}
use Rattle.checks.proofs.text_refusal.Goals as goal

pub returns-then-format_for-text : goal.returns-then-format_for-text
returns-then-format_for-text c =
    let e = ap (λ (F : Format). F.text) c.format_for.ensures in
    text_over catalogue (format_for _) c.args.text.now (omega (arith, e, c.if-format_for-text.true))

pub returns-then-not-check_text : goal.returns-then-not-check_text
returns-then-not-check_text c =
    let e = ap (λ (F : Format). F.text) c.format_for.ensures in
    text-foreign catalogue (format_for _) c.args.text.now (omega (arith, e, c.if-format_for-text.false))
    (sym c.check_text.ensures ∙ c.if-not-check_text.true)

pub returns : goal.returns
returns c =
    let e = ap (λ (F : Format). F.text) c.format_for.ensures in
    text-fits catalogue (format_for _) c.args.text.now (omega (arith, e, c.if-format_for-text.false))
    (sym c.check_text.ensures ∙ c.if-not-check_text.false)
