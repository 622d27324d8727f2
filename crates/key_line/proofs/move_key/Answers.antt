use Rattle.edit.specs.Calls.{Lent, lent}
use Rattle.kill_ring.specs.Calls as rings
use Rattle.key_model.specs.Stands.{move_for}
use Rattle.key_line.proofs.Answered.{move_does}
use Rattle.key_line.proofs.Moves.{line-passed, move_refuses, move-left}
use Rattle.key_line.proofs.move_key.Goals as goal
use Rattle.key_line.proofs.move_key.Goals.{Start}

abbrev lending : Start → Lent
lending s = lent s.args.text.now s.args.records.now s.args.texts.now s.args.checked.line s.args.checked.log

abbrev ringing : Start → rings.Lent
ringing s = rings.lent s.args.slots.now s.args.lens.now s.args.ring

pub moved_by-a-requires : goal.moved_by-a-requires
moved_by-a-requires c = line-passed (lending (goal.at.moved_by-a-requires c).Start) c.requires.format c.requires.line

pub returns : goal.returns
returns c =
    let here = goal.at.returns c in
    let h = c.requires in
    let l = lending here.Start in
    move_does c.args.checked.format l (ringing here.Start) h.ring (move_for c.args.k) (move_refuses c.args.checked.format l h.format h.line c.args.k)
    (move-left c.args.checked.format l h.format h.line c.args.k h.ready c.moved_by-a.ensures) c.reset_after.ensures
