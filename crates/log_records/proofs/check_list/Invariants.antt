use Prim.Native.Nat.{◌-◌}
use lib.ListN.{length}
use Rattle.repertoire.specs.Repertoire.{catalogue}
use Rattle.log_records.proofs.Check.{Looks}
use Rattle.log_records.proofs.check_list.Given as goal

abbrev pub invariant-loop-at : goal.invariant-loop-at
invariant-loop-at l = Looks catalogue l.f l.records l.texts l.newest l.at l.t

abbrev pub decreases-loop-at : goal.decreases-loop-at
decreases-loop-at l = length l.records - l.at
