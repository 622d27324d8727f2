-- `insert_bytes` meets its contract: the tail from `at` on is lent to `shift_and_write`. Assumes nothing.
use native.Mathlib.Omega.{arith}
use Rattle.buffer.proofs.Shifts.{back_law, insert_none}
use Rattle.buffer.proofs.insert_bytes.Goals as goal

pub returns-then-src-eq0 : goal.returns-then-src-eq0
returns-then-src-eq0 c = let a = c.args in
    insert_none a.s.now a.src.now a.used a.at c.if-src-eq0.true

pub returns : goal.returns
returns c = let a = c.args in
    back_law a.s.now a.src.now c.shift_and_write.new.tail a.used a.at (omega arith) (omega arith) c.shift_and_write.ensures
