use Prim.Native.Nat.{◌-◌}
use lib.ListN.{length}
use Rattle.repertoire.specs.Repertoire.{catalogue}
use Rattle.slip_calls.proofs.Pieces.{Scanned}
use Rattle.slip_calls.proofs.piece_at.Given as goal

abbrev pub invariant-loop-end : goal.invariant-loop-end
invariant-loop-end l = Scanned catalogue l.s l.at l.end l.columns

abbrev pub decreases-loop-end : goal.decreases-loop-end
decreases-loop-end l = length l.s - l.end
