use Rattle.buffer.proofs.Copies.{copies_back}
use Rattle.buffer.proofs.insert_copies.Goals as goal

pub returns : goal.returns
returns c = let a = c.args in
    copies_back a.src.now a.n a.s.now _ a.used a.at c.requires.0 c.requires.1 c.shift_and_repeat.ensures
