use Prim.Native.Nat.{◌+◌, ◌≤◌}
use Rattle.repertoire.specs.Repertoire.{catalogue}
use Rattle.formats.specs.Formats.{records_max}
use Rattle.undo_cancel.proofs.Opens.{Downs}
use Rattle.undo_cancel.proofs.open_begins.Given as goal

abbrev pub invariant-loop-left : goal.invariant-loop-left
invariant-loop-left l = (l.begins + l.at ≤ records_max) × Downs catalogue l.f l.records l.sizes l.mark l.at l.left l.begins
