use Rattle.std.proofs.Common.{◌≤◌, length}
use Rattle.test_fields.proofs.text.text_of.Given as goal

abbrev pub invariant-loop-run : goal.invariant-loop-run
invariant-loop-run l = l.len ≤ length l.out
