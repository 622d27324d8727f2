-- `write_front` meets its contract. The invariant: `j` bytes of `src` stand at the front. Assumes nothing.
use mathlib.Core.Path.{◌≡◌}
use Prim.Native.Nat.{◌≤◌}
use lib.ListN.{length}
use lib.Seq.{paste}
use Rattle.buffer.proofs.write_front.Given as goal

abbrev pub invariant-loop-j : goal.invariant-loop-j
invariant-loop-j l = (l.j ≤ length l.src) × ((l.tail ≡ paste l.initial.tail 0 l.src l.j) × (length l.tail ≡ length l.initial.tail))
