-- `shift_up` meets its contract. The invariant: the bytes from `i` on have moved. Assumes nothing.
use mathlib.Core.Path.{◌≡◌}
use Prim.Native.Nat.{◌≤◌}
use lib.ListN.{length}
use Rattle.buffer.specs.Edit.{shifted}
use Rattle.buffer.proofs.shift_up.Given as goal

abbrev pub invariant-loop-i : goal.invariant-loop-i
invariant-loop-i l = (l.i ≤ l.used) × ((l.tail ≡ shifted l.initial.tail l.n l.used l.i) × (length l.tail ≡ length l.initial.tail))
