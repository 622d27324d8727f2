use native.Mathlib.Omega.{arith}
use mathlib.Core.Path.{refl, sym, ap, ◌∙◌}
use mathlib.Core.Bool.{not}
use Rattle.repertoire.specs.Repertoire.{catalogue}
use Rattle.repertoire.proofs.Text.{scan_on, scan_stuck, scan-end}
use Rattle.key_press.specs.Keys.{untried, foreign_key}
use borrow.Author.Rules.{rules}
use Rattle.key_press.proofs.is_foreign_key.Goals as goal

pub loop-at-init : goal.loop-at-init
loop-at-init c = (search rules, refl)

pub returns-in_default : goal.returns-in_default
unfolding foreign_key
returns-in_default c = sym
    (ap not
    (c.loop-at.invariant.1
    ∙ scan_stuck (untried catalogue) c.args.key.now c.loop-at.at c.loop-at-test.true c.in_default.ensures))

pub overflow_add-at : goal.overflow_add-at
overflow_add-at c = omega (arith, scan_on (untried catalogue) c.args.key.now c.loop-at.at _ c.loop-at.invariant.0 c.in-Some.ensures)

pub loop-at-smaller : goal.loop-at-smaller
loop-at-smaller c = omega (arith, scan_on (untried catalogue) c.args.key.now c.loop-at.at _ c.loop-at.invariant.0 c.in-Some.ensures)

pub loop-at-preserved : goal.loop-at-preserved
loop-at-preserved c =
    let h = scan_on (untried catalogue) c.args.key.now c.loop-at.at _ c.loop-at.invariant.0 c.in-Some.ensures in
    (h.1, c.loop-at.invariant.1 ∙ h.2)

pub returns : goal.returns
unfolding foreign_key
returns c = sym (ap not (c.loop-at.invariant.1 ∙ scan-end (untried catalogue) c.args.key.now c.loop-at.at c.loop-at-test.false))
