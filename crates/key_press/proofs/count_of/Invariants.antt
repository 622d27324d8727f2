use Rattle.key_press.proofs.Counts.{Reading}
use Rattle.key_press.proofs.count_of.Given as goal

abbrev pub invariant-loop-at : goal.invariant-loop-at
invariant-loop-at l = Reading l.key l.n l.at
