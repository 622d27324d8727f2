use Prim.Native.Nat.{◌-◌, ◌≤◌}
use mathlib.Core.Path.{◌≡◌}
use lib.ListN.{length}
use Rattle.repertoire.specs.Repertoire.{catalogue}
use Rattle.log_model.proofs.Walk.{Come}
use Rattle.log_records.proofs.Sizes.{WrittenOf}
use Rattle.log_records.proofs.write_sizes.Given as goal

abbrev pub invariant-loop-at : goal.invariant-loop-at
invariant-loop-at l = (l.count ≤ l.at) × (length l.sizes ≡ length l.initial.sizes) × Come catalogue l.f l.records l.at
    (WrittenOf l.f l.count l.sizes)

abbrev pub decreases-loop-at : goal.decreases-loop-at
decreases-loop-at l = length l.records - l.at
