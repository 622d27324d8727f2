use Prim.Native.Nat.{◌+◌, ◌-◌, ◌<◌}
use native.Mathlib.Omega.{arith}
use mathlib.Core.Path.{◌≡◌}
use Rattle.undo_redo.proofs.Redos.{units_done, records_done, redo-ended, redoing_next, redo-stopped}
use Rattle.undo_redo.proofs.redo_units.Goals as goal
use Rattle.undo_redo.proofs.redo_units.Goals.{else-loop-test, then-loop-test+then-log_now-eq0, then-loop-test+else-log_now-eq0+then-number-gt1}

pub loop-preserved : goal.loop-preserved
loop-preserved c =
    let k = c.loop.invariant in
    let h : 0 < c.args.n - c.loop.counter = omega (arith, c.loop-test.true) in
    let left : c.args.n - (c.loop.counter + 1) ≡ c.args.n - c.loop.counter - 1 = omega arith in
    rw left (redoing_next k h c.redo_unit-a.ensures c.behind-number.ensures c.redo_unit-a.auto.text (omega (arith, c.if-number-gt1.false)))

pub returns-clause-outcome : goal.returns-clause-outcome
returns-clause-outcome c =
    let k = c.loop.invariant in
    elim c.loop-test.branch [
      | else-loop-test w ↦ rw w.text-is
          (redo-ended k (units_done k (omega (arith, w.loop-test.false))) (rw (w.number-is, w.line_now-is, w.log_now-is) at c.says.ensures))
      | then-loop-test+then-log_now-eq0 w ↦ rw w.text-is
          (redo-ended k (records_done k w.if-log_now-eq0.true) (rw (w.number-is, w.line_now-is, w.log_now-is) at c.says.ensures))
      | then-loop-test+else-log_now-eq0+then-number-gt1 w ↦
          let h : 0 < c.args.n - c.loop.counter = omega (arith, w.loop-test.true) in
          rw w.text-is
          (redo-stopped k h w.redo_unit-a.ensures w.behind-number.ensures w.if-number-gt1.true
          (rw (w.number-is, w.line_now-is, w.log_now-is) at c.says.ensures))
    ]
