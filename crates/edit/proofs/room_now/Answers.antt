use native.Mathlib.Omega.{arith}
use mathlib.Core.Path.{sym, ap}
use Rattle.std.specs.Prelude.{Ok}
use lib.Seq.{length-take-le}
use Rattle.log_recording.specs.declared.Tail.{Tail}
use Rattle.log_state.specs.Calls.{lent}
use Rattle.edit.proofs.Rooms.{tail_now}
use Rattle.edit.proofs.room_now.Goals as goal

pub slice_bounds-tail_at-end : goal.slice_bounds-tail_at-end
slice_bounds-tail_at-end c = sym (length-take-le _ _ (omega (arith, c.requires.log_ready.hold.room)))

pub tail_at-requires : goal.tail_at-requires
tail_at-requires c = record { fit = c.requires.fit; last_at = c.requires.last_at }

pub returns : goal.returns
returns c =
    let a = c.args in
    ap (λ (t : Tail). Ok t)
    (tail_now a.f (lent a.records.now a.texts.now a.log) c.requires.log_ready _ c.tail_at.ensures)
