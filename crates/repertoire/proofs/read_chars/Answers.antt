use borrow.Author.Rules.{rules}
use mathlib.Core.Path.{refl, ◌∙◌}
use native.Mathlib.Omega.{arith}
use Rattle.repertoire.specs.Repertoire.{catalogue}
use Rattle.repertoire.proofs.Text.{scan_on, scan_stuck}
use Rattle.repertoire.proofs.read_chars.Goals as goal

pub loop-at-init : goal.loop-at-init
loop-at-init c = (search rules, refl)

pub returns-in_err-at : goal.returns-in_err-at
returns-in_err-at c = rw c.from_residual.ensures
    (c.loop-at.invariant.1 ∙ scan_stuck catalogue c.args.s.now c.loop-at.at (omega (arith, c.requires.1)) c.in_err-at.ensures)

pub overflow_add-at : goal.overflow_add-at
overflow_add-at c = omega (arith, (scan_on catalogue c.args.s.now c.loop-at.at _ c.loop-at.invariant.0 c.in_ok-at.ensures).1)

pub loop-at-smaller : goal.loop-at-smaller
loop-at-smaller c = omega (arith, scan_on catalogue c.args.s.now c.loop-at.at _ c.loop-at.invariant.0 c.in_ok-at.ensures)

pub loop-at-preserved : goal.loop-at-preserved
loop-at-preserved c = let h = scan_on catalogue c.args.s.now c.loop-at.at _ c.loop-at.invariant.0 c.in_ok-at.ensures in
    (h.1, c.loop-at.invariant.1 ∙ h.2)

pub returns : goal.returns
returns c = (c.loop-at-test.false, c.loop-at.invariant.0, c.loop-at.invariant.1)
