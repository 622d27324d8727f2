use Rattle.buffer.proofs.Copies.{repeat_law}
use Rattle.buffer.proofs.shift_and_repeat.Goals as goal

pub returns : goal.returns
returns c = let a = c.args in
    repeat_law a.src.now a.n a.tail.now _ _ a.used c.requires c.shift_up.ensures c.write_copies.ensures
