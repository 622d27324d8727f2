use Rattle.edit.specs.Calls.{Lent, lent}
use Rattle.kill_ring.specs.Calls as rings
use Rattle.key_model.specs.Stands.{edit_for}
use Rattle.key_line.proofs.Answered.{edit_does}
use Rattle.key_line.proofs.Edits.{key_refuses}
use Rattle.key_line.proofs.edit_key.Goals as goal
use Rattle.key_line.proofs.edit_key.Goals.{Start}

abbrev lending : Start → Lent
lending s = lent s.args.text.now s.args.records.now s.args.texts.now s.args.checked.line s.args.checked.log

abbrev ringing : Start → rings.Lent
ringing s = rings.lent s.args.slots.now s.args.lens.now s.args.ring

pub edited_by-a-requires : goal.edited_by-a-requires
edited_by-a-requires c = record {
  no_tests_value = c.requires.passed.line;
  ready = c.requires.passed.ready;
  last_at = c.requires.passed.newest;
  k_value = c.requires.k_value;
}

pub returns : goal.returns
returns c =
    let here = goal.at.returns c in
    edit_does c.args.checked.format (lending here.Start) (ringing here.Start) c.requires.passed.ring (edit_for c.args.k)
    (key_refuses c.args.checked.format (lending here.Start) c.requires.passed.line c.args.k c.requires.k_value)
    c.edited_by-a.ensures c.reset_after.ensures
