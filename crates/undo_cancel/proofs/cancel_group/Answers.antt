use native.Mathlib.Omega.{arith}
use Rattle.undo_cancel.proofs.cancel_group.Goals as goal

pub cancel_with-requires-2 : goal.cancel_with-requires-2
cancel_with-requires-2 c = record {
  fit = c.requires.fit;
  ready = c.requires.ready;
  records_in_bounds = omega (arith, c.requires.ready.log.hold.room, c.requires.ready.log.records, c.requires.ready.log.fit.records);
}
