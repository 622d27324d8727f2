use Prim.Native.Nat.{◌-◌, ◌*◌, ◌≤◌}
use lib.ListN.{length}
use Rattle.repertoire.specs.Repertoire.{catalogue}
use Rattle.log_model.proofs.Walk.{Come}
use Rattle.log_records.proofs.Walks.{CountOf}
use Rattle.log_records.proofs.walk.Given as goal

abbrev pub invariant-loop-r : goal.invariant-loop-r
invariant-loop-r l = (l.count ≤ l.n) × (l.count ≤ l.at) × (l.t ≤ 8589934592 * l.at) × Come catalogue l.f l.records l.at
    (CountOf l.count l.t)

abbrev pub decreases-loop-r : goal.decreases-loop-r
decreases-loop-r l = length l.records - l.at
