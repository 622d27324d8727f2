-- `buffer::shift_and_write` meets its contract: a move up, then a write over the front. Assumes nothing.
use Rattle.buffer.proofs.Shifts.{write_law}
use Rattle.buffer.proofs.shift_and_write.Goals as goal

pub returns : goal.returns
returns c = write_law c.args.tail.now c.args.src.now c.write_front.new.tail c.shift_up.new.tail c.args.used c.requires c.shift_up.ensures
    c.write_front.ensures
