use Rattle.repertoire.specs.Repertoire.{catalogue}
use Rattle.cluster.proofs.Backward.{Backed}
use Rattle.cluster.proofs.prev_cluster.Given as goal

abbrev pub invariant-loop-j : goal.invariant-loop-j
invariant-loop-j l = Backed catalogue l.s l.j l.c l.k

abbrev pub decreases-loop-j : goal.decreases-loop-j
decreases-loop-j l = l.j
