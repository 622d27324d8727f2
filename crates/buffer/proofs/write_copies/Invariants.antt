-- `write_copies` meets its contract. The invariant: `i` copies of `src` stand at the front. Assumes nothing.
use mathlib.Core.Path.{◌≡◌}
use mathlib.Core.List.{◌++◌}
use Prim.Native.Nat.{◌*◌}
use lib.ListN.{length, drop}
use Rattle.buffer.specs.Edit.{copies}
use Rattle.buffer.proofs.write_copies.Given as goal

abbrev pub invariant-loop-i : goal.invariant-loop-i
invariant-loop-i l = l.tail ≡ copies l.i l.src ++ drop (length l.src * l.i) l.initial.tail
