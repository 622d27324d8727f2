use mathlib.Core.Path.{◌≡◌, sym, ◌∙◌}
use native.Mathlib.Omega.{arith}
use lib.ListN.{length}
use Rattle.lists.proofs.Parts.{get_or_any}
use Rattle.motion_lines.proofs.Lines.{end_last, end_here, end_on}
use Rattle.motion_lines.proofs.end_of_line.Goals as goal

pub returns-then-s-i-eq10 : goal.returns-then-s-i-eq10
returns-then-s-i-eq10 c = (
  sym
      (c.loop-i.invariant
      ∙ end_here c.args.s.now c.loop-i.i c.loop-i-test.true
      (get_or_any c.args.s.now c.loop-i.i 256 0 c.loop-i-test.true ∙ c.if-s-i-eq10.true)),
  omega arith,
  omega arith,
)

pub loop-i-preserved : goal.loop-i-preserved
loop-i-preserved c = c.loop-i.invariant
    ∙ end_on c.args.s.now c.loop-i.i c.loop-i-test.true
    (λ x. c.if-s-i-eq10.false (get_or_any c.args.s.now c.loop-i.i 0 256 c.loop-i-test.true ∙ x))

pub returns : goal.returns
returns c =
    let all : length c.args.s.now ≡ c.loop-i.i = omega arith in
    (all ∙ sym (c.loop-i.invariant ∙ end_last c.args.s.now c.loop-i.i c.loop-i-test.false), omega arith, omega arith)
