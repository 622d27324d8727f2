use Prim.Native.Nat.{◌-◌}
use lib.ListN.{length}
use Rattle.repertoire.specs.Repertoire.{catalogue}
use Rattle.log_model.proofs.Walk.{Come}
use Rattle.log_records.proofs.Walks.{LastOf}
use Rattle.log_records.proofs.last_start.Given as goal

abbrev pub invariant-loop-r : goal.invariant-loop-r
invariant-loop-r l = Come catalogue l.f l.records l.at (LastOf l.f l.last)

abbrev pub decreases-loop-r : goal.decreases-loop-r
decreases-loop-r l = length l.records - l.at
