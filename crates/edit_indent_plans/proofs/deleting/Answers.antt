use mathlib.Core.Path.{sym, ap, ◌∙◌}
use native.Mathlib.Omega.{arith}
use Rattle.utf8.specs.Answer.{as_first}
use Rattle.repertoire.specs.Repertoire.{catalogue}
use Rattle.edit_indent_plans.proofs.White.{white_on, stops_other, stops-bad, stops_enough}
use Rattle.edit_indent_plans.proofs.deleting.Goals as goal

pub loop-i-init : goal.loop-i-init
loop-i-init c = (omega arith, omega arith)

pub returns-in_default : goal.returns-in_default
returns-in_default c = (
  stops-bad catalogue c.args.x.now c.loop-i.i c.args.m c.loop-i.invariant.1 c.loop-i-test.true
      (sym c.decode_at.ensures ∙ ap as_first c.in_default.is),
  c.loop-i.invariant.0,
)

pub returns-then-not-is_white : goal.returns-then-not-is_white
returns-then-not-is_white c = (
  stops_other catalogue c.args.x.now c.loop-i.i c.args.m c.loop-i.invariant.1 c.in-Some.field-0.cp c.in-Some.field-0.len
      c.loop-i-test.true (sym c.decode_at.ensures ∙ ap as_first c.in-Some.is)
      (sym c.is_white.ensures ∙ c.if-not-is_white.true),
  c.loop-i.invariant.0,
)

pub overflow_add-i : goal.overflow_add-i
overflow_add-i c = omega (
  arith,
  (white_on catalogue c.args.x.now c.loop-i.i c.in-Some.field-0.cp c.in-Some.field-0.len c.loop-i.invariant.0
      (sym c.decode_at.ensures ∙ ap as_first c.in-Some.is)
      (sym c.is_white.ensures ∙ c.if-not-is_white.false)).1,
)

pub loop-i-smaller : goal.loop-i-smaller
loop-i-smaller c = omega (
  arith,
  (white_on catalogue c.args.x.now c.loop-i.i c.in-Some.field-0.cp c.in-Some.field-0.len c.loop-i.invariant.0
      (sym c.decode_at.ensures ∙ ap as_first c.in-Some.is)
      (sym c.is_white.ensures ∙ c.if-not-is_white.false)).0,
  c.loop-i-test.true,
)

pub loop-i-preserved : goal.loop-i-preserved
loop-i-preserved c =
    let white-on1 = white_on catalogue c.args.x.now c.loop-i.i c.in-Some.field-0.cp c.in-Some.field-0.len c.loop-i.invariant.0
    (sym c.decode_at.ensures ∙ ap as_first c.in-Some.is) (sym c.is_white.ensures ∙ c.if-not-is_white.false) in
    (white-on1.1, sym white-on1.2 ∙ c.loop-i.invariant.1)

pub returns : goal.returns
returns c = (
  stops_enough catalogue c.args.x.now c.loop-i.i c.args.m c.loop-i.invariant.1 c.loop-i-test.false,
  omega (arith, c.loop-i.invariant.0, c.loop-i-test.false),
)
