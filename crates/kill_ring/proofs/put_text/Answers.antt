use Rattle.kill_ring.proofs.Puts.{put_back}
use Rattle.kill_ring.proofs.put_text.Goals as goal

pub returns : goal.returns
returns c =
    let a = c.args in
    put_back a.slots.now c.insert_bytes.new.s a.text.now a.i a.used a.at c.requires.i_in_bounds c.requires.at_le_used.0
    c.requires.at_le_used.1
    c.insert_bytes.auto.s c.insert_bytes.ensures
