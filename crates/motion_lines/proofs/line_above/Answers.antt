use Prim.Native.Nat.{◌+◌, ◌-◌}
use mathlib.Core.Path.{◌≡◌, sym, ◌∙◌}
use native.Mathlib.Omega.{arith}
use Rattle.motion_lines.proofs.Columns.{above_none, above-first, above_on}
use Rattle.motion_lines.proofs.line_above.Goals as goal

pub loop-preserved : goal.loop-preserved
loop-preserved c =
    let above = c.loop.above in
    let left : c.args.n - (c.loop.counter + 1) ≡ c.args.n - c.loop.counter - 1 = omega arith in (
      c.start_of_line.ensures.1,
      omega (arith, c.loop.invariant.0, c.loop.invariant.1),
      rw left
          (c.loop.invariant.2
          ∙ above_on c.args.s.now (c.args.n - c.loop.counter) above.start above.end _ (omega arith) c.if-above-eq0.false
          c.start_of_line.ensures.0),
    )

pub returns-then-above-eq0 : goal.returns-then-above-eq0
returns-then-above-eq0 c =
    let above = c.loop.above in (
      sym (c.loop.invariant.2
          ∙ above-first c.args.s.now (c.args.n - c.loop.counter) above.start above.end c.if-above-eq0.true),
      c.loop.invariant.0,
      c.loop.invariant.1,
    )

pub returns-after-loop : goal.returns-after-loop
returns-after-loop c =
    let above = c.loop.above in (
      sym (c.loop.invariant.2 ∙ above_none c.args.s.now (c.args.n - c.loop.counter) above.start above.end (omega arith)),
      c.loop.invariant.0,
      c.loop.invariant.1,
    )
