use Prim.Native.Nat.{◌-◌}
use Rattle.repertoire.specs.Repertoire.{catalogue}
use Rattle.edit.specs.Calls.{state_of}
use Rattle.log_records.specs.Walks.{SizesOf}
use Rattle.undo.specs.Steps.{lent_by}
use Rattle.undo_cancel.proofs.Cancels.{Cancelling}
use Rattle.undo_cancel.proofs.cancel_by_sizes.Given as goal

abbrev pub invariant-loop : goal.invariant-loop
invariant-loop l = Cancelling l.checked.format (lent_by l.initial.text l.records l.texts l.initial.s l.initial.g) l.mark l.text l.s l.g
    (l.count - l.counter) × SizesOf l.checked.format l.sizes
    (state_of catalogue l.checked.format (lent_by l.text l.records l.texts l.s l.g)).log.undo
