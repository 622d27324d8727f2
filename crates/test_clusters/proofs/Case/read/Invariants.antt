use Rattle.std.proofs.Common.{◌≤◌}
use Rattle.test_clusters.proofs.Case.read.Given as goal

abbrev pub invariant-loop-step : goal.invariant-loop-step
invariant-loop-step l = l.start ≤ l.case.len
