use Rattle.formats.proofs.Formats.{fit_for}
use Rattle.log_state.proofs.Recorded.{lays}
use Rattle.edit.specs.Calls.{Lent, lent, log_lent}
use Rattle.kill_ring.specs.Calls as rings
use Rattle.key_line.proofs.Answered.{undo_does}
use Rattle.key_line.proofs.Undos.{undo_refuses, undo-made}
use Rattle.key_line.proofs.undo_key.Goals as goal
use Rattle.key_line.proofs.undo_key.Goals.{Start}

abbrev lending : Start → Lent
lending s = lent s.args.text.now s.args.records.now s.args.texts.now s.args.checked.line s.args.checked.log

abbrev ringing : Start → rings.Lent
ringing s = rings.lent s.args.slots.now s.args.lens.now s.args.ring

pub undo_units-a-requires : goal.undo_units-a-requires
undo_units-a-requires c =
    let h = c.requires in
    record {
      fit = fit_for _ h.format;
      ready = h.ready;
      last_start = h.newest _ _ (lays _ (log_lent (lending (goal.at.undo_units-a-requires c).Start)) h.ready.log);
    }

pub returns : goal.returns
returns c =
    let here = goal.at.returns c in
    let h = c.requires in
    undo_does c.args.checked.format (lending here.Start) (ringing here.Start) h.ring c.args.n
    (undo_refuses c.args.checked.format (lending here.Start) h.line c.args.n)
    (undo-made c.args.checked.format (lending here.Start) h.line c.args.n (rw c.from.ensures at c.undo_units-a.ensures.outcome))
    c.undo_units-a.ensures.still
    c.reset_after.ensures
