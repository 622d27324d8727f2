use Prim.Native.Nat.{◌-◌}
use mathlib.Core.Bool.{true}
use lib.ListN.{length}
use Rattle.repertoire.specs.Repertoire.{catalogue}
use Rattle.edit.specs.Calls.{state_of}
use Rattle.log_records.specs.Walks.{SizesOf}
use Rattle.undo.specs.Undo.{undo_walk}
use Rattle.undo.specs.Steps.{lent_by}
use Rattle.undo.proofs.Units.{Walking}
use Rattle.undo.proofs.undo_by_sizes.Given as goal

abbrev pub invariant-loop-checked : goal.invariant-loop-checked
invariant-loop-checked l = Walking l.checked.format (lent_by l.initial.text l.records l.texts l.initial.s l.initial.g) true
    (undo_walk (length l.initial.text) l.n (state_of catalogue l.checked.format (lent_by l.initial.text l.records l.texts l.initial.s l.initial.g)))
    l.text l.s l.g (l.left - 1) l.ends l.begins × SizesOf
    l.checked.format l.sizes (state_of catalogue l.checked.format (lent_by l.text l.records l.texts l.s l.g)).log.undo

abbrev pub decreases-loop-checked : goal.decreases-loop-checked
decreases-loop-checked l = l.g.undo.records
