use Prim.Native.Nat.{◌-◌}
use lib.ListN.{length}
use Rattle.slip_calls.proofs.Passes.{Written}
use Rattle.slip_calls.proofs.write_slip.Given as goal

abbrev pub invariant-loop-at : goal.invariant-loop-at
invariant-loop-at l = Written l.s l.initial.page l.at l.filled l.out l.page

abbrev pub decreases-loop-at : goal.decreases-loop-at
decreases-loop-at l = length l.s - l.at
