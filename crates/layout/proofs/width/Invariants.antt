use Prim.Native.Nat.{ℕ, ◌-◌}
use lib.ListN.{length}
use Rattle.repertoire.specs.Repertoire.{catalogue}
use Rattle.repertoire.proofs.Catalogue.{catalogue_lawful}
use Rattle.layout.specs.Width.{most_columns}
use Rattle.layout.proofs.Columns.{Reach, Measured, lawful_reach}
use Rattle.layout.proofs.width.Given as goal

abbrev reach : (col c : ℕ) → Reach most_columns catalogue col c
reach = lawful_reach catalogue catalogue_lawful

abbrev pub invariant-loop-cp : goal.invariant-loop-cp
invariant-loop-cp l = Measured catalogue most_columns reach l.s l.col l.at l.column

abbrev pub decreases-loop-cp : goal.decreases-loop-cp
decreases-loop-cp l = length l.s - l.at
