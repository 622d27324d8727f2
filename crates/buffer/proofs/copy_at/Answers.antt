-- `copy_at` meets its contract: the tail from `at` on is lent to `write_front`. Assumes nothing.
use Rattle.buffer.proofs.Shifts.{copy_law}
use Rattle.buffer.proofs.copy_at.Goals as goal

pub returns : goal.returns
returns c = let a = c.args in
    copy_law a.s.now a.src.now c.write_front.new.tail a.at c.requires c.write_front.ensures
