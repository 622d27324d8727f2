use Prim.Native.Nat.{◌+◌, ◌-◌}
use mathlib.Core.Path.{◌≡◌, sym, ◌∙◌}
use native.Mathlib.Omega.{arith}
use Rattle.lists.proofs.Parts.{get_or_any}
use Rattle.motion_lines.proofs.Lines.{start_first, start_here, start_back}
use Rattle.motion_lines.proofs.start_of_line.Goals as goal

pub returns-then-s-i-eq10 : goal.returns-then-s-i-eq10
returns-then-s-i-eq10 c =
    let i : c.loop-i.i - 1 + 1 ≡ c.loop-i.i = omega arith in (
      i
          ∙ sym (c.loop-i.invariant ∙ start_here c.args.s.now c.loop-i.i c.loop-i-test.true
          (get_or_any c.args.s.now (c.loop-i.i - 1) 256 0 (omega arith) ∙ c.if-s-i-eq10.true)),
      omega arith,
    )

pub loop-i-preserved : goal.loop-i-preserved
loop-i-preserved c = c.loop-i.invariant
    ∙ start_back c.args.s.now c.loop-i.i c.loop-i-test.true
    (λ x. c.if-s-i-eq10.false (get_or_any c.args.s.now (c.loop-i.i - 1) 0 256 (omega arith) ∙ x))

pub returns : goal.returns
returns c =
    (sym (c.loop-i.invariant ∙ start_first c.args.s.now c.loop-i.i (omega (arith, c.loop-i-test.false))), omega arith)
