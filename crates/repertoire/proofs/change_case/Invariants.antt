use Prim.Native.Nat.{◌-◌}
use lib.ListN.{length}
use Rattle.repertoire.specs.Repertoire.{catalogue}
use Rattle.repertoire.proofs.Written.{Writing}
use Rattle.repertoire.proofs.change_case.Given as goal

abbrev pub invariant-loop-cp : goal.invariant-loop-cp
invariant-loop-cp l = Writing catalogue l.case l.initial.out l.s l.out l.i l.n

abbrev pub decreases-loop-cp : goal.decreases-loop-cp
decreases-loop-cp l = length l.s - l.i
