-- `write_copies` meets its contract. The invariant: `i` copies of `src` stand at the front. Assumes nothing.
use Rattle.buffer.proofs.Copies.{copies_none, copies_turn}
use Rattle.buffer.proofs.write_copies.Goals as goal

pub loop-i-init : goal.loop-i-init
loop-i-init c = copies_none c.args.src.now c.args.tail.now

pub loop-i-preserved : goal.loop-i-preserved
loop-i-preserved c = let a = c.args in
    copies_turn a.src.now a.tail.now c.loop-i.tail c.write_front.new.tail a.n c.loop-i.i c.requires c.loop-i-test.true c.loop-i.invariant
    c.write_front.ensures
