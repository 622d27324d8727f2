use Prim.Native.Nat.{◌+◌, ◌-◌}
use mathlib.Core.Path.{◌≡◌, sym, ◌∙◌}
use native.Mathlib.Omega.{arith}
use Rattle.motion_lines.proofs.Lines.{down_none, down_last, down_on}
use Rattle.motion_lines.proofs.lines_down.Goals as goal

pub returns-then-s-x : goal.returns-then-s-x
returns-then-s-x c = (
  sym
      (c.loop.invariant.2
      ∙ down_last c.args.s.now (c.args.n - c.loop.counter) c.loop.end _ (omega arith) c.end_of_line-x.ensures.0 c.if-s-x.true),
  omega arith,
  omega arith,
)

pub loop-preserved : goal.loop-preserved
loop-preserved c =
    let left : c.args.n - (c.loop.counter + 1) ≡ c.args.n - c.loop.counter - 1 = omega arith in (
      omega (arith, c.loop.invariant.0, c.end_of_line-x.ensures.1),
      omega (arith, c.if-s-x.false),
      rw left
          (c.loop.invariant.2
          ∙ down_on c.args.s.now (c.args.n - c.loop.counter) c.loop.end _ (omega arith) c.end_of_line-x.ensures.0 c.if-s-x.false),
    )

pub returns : goal.returns
returns c = (
  sym (c.loop.invariant.2 ∙ down_none c.args.s.now (c.args.n - c.loop.counter) c.loop.end (omega arith)),
  c.loop.invariant.0,
  c.loop.invariant.1,
)
