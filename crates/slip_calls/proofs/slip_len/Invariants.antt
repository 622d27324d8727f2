use Prim.Native.Nat.{◌-◌}
use lib.ListN.{length}
use Rattle.slip_calls.proofs.Passes.{Counted}
use Rattle.slip_calls.proofs.slip_len.Given as goal

abbrev pub invariant-loop-at : goal.invariant-loop-at
invariant-loop-at l = Counted l.s l.at l.filled l.len

abbrev pub decreases-loop-at : goal.decreases-loop-at
decreases-loop-at l = length l.s - l.at
