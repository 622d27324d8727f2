use Prim.Native.Nat.{◌+◌, ◌-◌}
use mathlib.Core.Path.{◌≡◌, sym, ◌∙◌}
use native.Mathlib.Omega.{arith}
use Rattle.motion_lines.proofs.Columns.{below_none, below_last, below_on}
use Rattle.motion_lines.proofs.line_below.Goals as goal

pub loop-preserved : goal.loop-preserved
loop-preserved c =
    let below = c.loop.below in
    let left : c.args.n - (c.loop.counter + 1) ≡ c.args.n - c.loop.counter - 1 = omega arith in (
      c.end_of_line.ensures.1,
      c.end_of_line.ensures.2,
      rw left
          (c.loop.invariant.2
          ∙ below_on c.args.s.now (c.args.n - c.loop.counter) below.start below.end _ (omega arith) c.if-below-s.false
          c.end_of_line.ensures.0),
    )

pub returns-then-below-s : goal.returns-then-below-s
returns-then-below-s c =
    let below = c.loop.below in (
      sym (c.loop.invariant.2
          ∙ below_last c.args.s.now (c.args.n - c.loop.counter) below.start below.end c.if-below-s.true),
      c.loop.invariant.0,
      c.loop.invariant.1,
    )

pub returns-after-loop : goal.returns-after-loop
returns-after-loop c =
    let below = c.loop.below in (
      sym (c.loop.invariant.2 ∙ below_none c.args.s.now (c.args.n - c.loop.counter) below.start below.end (omega arith)),
      c.loop.invariant.0,
      c.loop.invariant.1,
    )
