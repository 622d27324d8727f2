use Rattle.std.proofs.Common.{◌≤◌, length}
use Rattle.test_fields.proofs.text.add_bytes.Given as goal

abbrev pub invariant-loop-pair : goal.invariant-loop-pair
invariant-loop-pair l = (l.len ≤ l.end) × (l.end ≤ length l.out)
