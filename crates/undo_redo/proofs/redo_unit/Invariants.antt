use mathlib.Core.Bool.{false}
use lib.ListN.{length}
use Rattle.repertoire.specs.Repertoire.{catalogue}
use Rattle.edit.specs.Calls.{state_of}
use Rattle.undo_redo.specs.Redo.{redo_walk}
use Rattle.undo.specs.Steps.{lent_by}
use Rattle.undo.proofs.Units.{Walking}
use Rattle.undo_redo.proofs.redo_unit.Given as goal

abbrev pub invariant-loop-checked : goal.invariant-loop-checked
invariant-loop-checked l = Walking l.checked.format (lent_by l.initial.text l.records l.texts l.initial.s l.initial.g) false
    (redo_walk (length l.initial.text) (state_of catalogue l.checked.format (lent_by l.initial.text l.records l.texts l.initial.s l.initial.g)))
    l.text l.s l.g 0 l.ends l.begins

abbrev pub decreases-loop-checked : goal.decreases-loop-checked
decreases-loop-checked l = l.g.redo.records
