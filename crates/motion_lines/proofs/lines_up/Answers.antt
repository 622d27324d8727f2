use Prim.Native.Nat.{◌+◌, ◌-◌}
use mathlib.Core.Path.{◌≡◌, sym, ◌∙◌}
use native.Mathlib.Omega.{arith}
use Rattle.motion_lines.proofs.Lines.{up_none, up_first, up_on}
use Rattle.motion_lines.proofs.lines_up.Goals as goal

pub loop-preserved : goal.loop-preserved
loop-preserved c =
    let left : c.args.n - (c.loop.counter + 1) ≡ c.args.n - c.loop.counter - 1 = omega arith in (
      omega (arith, c.loop.invariant.0, c.start_of_line-start.ensures.1),
      rw left
          (c.loop.invariant.1
          ∙ up_on c.args.s.now (c.args.n - c.loop.counter) c.loop.start _ (omega arith) c.if-start-eq0.false
          c.start_of_line-start.ensures.0),
    )

pub returns-then-start-eq0 : goal.returns-then-start-eq0
returns-then-start-eq0 c = (
  c.if-start-eq0.true
      ∙ sym (c.loop.invariant.1 ∙ up_first c.args.s.now (c.args.n - c.loop.counter) c.loop.start c.if-start-eq0.true),
  c.loop.invariant.0,
)

pub returns-after-loop : goal.returns-after-loop
returns-after-loop c =
    (sym (c.loop.invariant.1 ∙ up_none c.args.s.now (c.args.n - c.loop.counter) c.loop.start (omega arith)), c.loop.invariant.0)
