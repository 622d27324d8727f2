use Prim.Native.Nat.{◌-◌}
use Rattle.edit.specs.Calls.{lent}
use Rattle.undo_redo.proofs.Redos.{Redoing}
use Rattle.undo_redo.proofs.redo_units.Given as goal

abbrev pub invariant-loop : goal.invariant-loop
invariant-loop l = Redoing l.checked.format (lent l.initial.text l.records l.texts l.initial.line_now l.initial.log_now) l.n l.text l.line_now
    l.log_now l.number (l.n - l.counter)
