use Prim.Native.Nat.{◌+◌, ◌-◌, ◌<◌}
use native.Mathlib.Omega.{arith}
use mathlib.Core.Path.{◌≡◌, ap, ◌∙◌}
use Rattle.std.specs.Prelude.{None}
use Rattle.edit.specs.Calls.{says}
use Rattle.undo.specs.Steps.{line_of}
use Rattle.undo.proofs.Passes.{is-stop, no-stop}
use Rattle.undo.proofs.Seams.{newest_some}
use Rattle.undo.proofs.Walks.{sizes-next}
use Rattle.undo_cancel.proofs.Cancels.{cancelling_first, cancel_more}
use Rattle.undo_cancel.proofs.Cancels.{cancel_stop, cancelling_next, cancel-ended}
use Rattle.undo_cancel.proofs.cancel_by_sizes.Goals as goal

pub loop-init : goal.loop-init
loop-init c =
    (cancelling_first c.requires.ready c.args.mark c.requires.log_value c.requires.count_value, c.requires.sizes_of)

pub undo_record-p-requires : goal.undo_record-p-requires
undo_record-p-requires c =
    let k = c.loop.invariant.0 in
    let h : 0 < c.args.count - c.loop.counter = omega (arith, c.loop-test.true) in
    let n = (cancel_more k h).2 in
    record {
      fit = c.requires.fit;
      ready = k.come.ready;
      number_value = (k.come.on, newest_some k.come.ready n, omega (arith, c.requires.records_in_bounds, k.come.unmoved.fewer));
      sizes_of = c.loop.invariant.1;
    }

pub shape_of-text-then-is_some : goal.shape_of-text-then-is_some
shape_of-text-then-is_some c =
    let k = c.loop.invariant.0 in
    c.undo_record-p.auto.text ∙ k.come.text

pub returns-then-is_some : goal.returns-then-is_some
returns-then-is_some c =
    let k = c.loop.invariant.0 in
    let h : 0 < c.args.count - c.loop.counter = omega (arith, c.loop-test.true) in
    let n = (cancel_more k h).2 in
    let q = cancel_stop k c.requires.log_value h n c.undo_record-p.result c.undo_record-p.new.text c.undo_record-p.ensures (is-stop c.is_some.ensures c.if-is_some.true)
    c.answer.ensures in
    record { outcome = q.0; still = q.1 }

pub loop-preserved : goal.loop-preserved
loop-preserved c =
    let k = c.loop.invariant.0 in
    let h : 0 < c.args.count - c.loop.counter = omega (arith, c.loop-test.true) in
    let n = (cancel_more k h).2 in
    let z : c.undo_record-p.result.step.stop ≡ None = no-stop c.is_some.ensures c.if-is_some.false in
    let left : c.args.count - (c.loop.counter + 1) ≡ c.args.count - c.loop.counter - 1 = omega arith in (
      rw left
          (cancelling_next k c.requires.log_value h n c.undo_record-p.result c.undo_record-p.new.text c.undo_record-p.ensures
          c.undo_record-p.auto.text z),
      sizes-next k.come n c.undo_record-p.result c.undo_record-p.new.text c.undo_record-p.ensures c.undo_record-p.auto.text z
          c.args.sizes.now c.loop.invariant.1,
    )

pub returns : goal.returns
returns c =
    let k = c.loop.invariant.0 in
    let q = cancel-ended k c.requires.log_value (omega (arith, c.loop-test.false)) c.requires.begins_value
    (c.says.ensures ∙ ap (says 0 (line_of c.loop.s)) c.cancel.ensures) in
    record { outcome = q.0; still = q.1 }
