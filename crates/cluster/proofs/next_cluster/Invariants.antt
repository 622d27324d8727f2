use Prim.Native.Nat.{◌≤◌, ◌-◌}
use lib.ListN.{length}
use Rattle.repertoire.specs.Repertoire.{catalogue}
use Rattle.cluster.proofs.Forward.{Scanned}
use Rattle.cluster.proofs.next_cluster.Given as goal

abbrev pub invariant-loop-cp : goal.invariant-loop-cp
invariant-loop-cp l = (l.k.len ≤ length l.s) × Scanned catalogue l.s l.k.len l.p l.k

abbrev pub decreases-loop-cp : goal.decreases-loop-cp
decreases-loop-cp l = length l.s - l.k.len
