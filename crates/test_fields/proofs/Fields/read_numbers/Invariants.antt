-- Each number takes a field.
use Rattle.std.proofs.Common.{◌+◌, ◌≤◌}
use Rattle.test_fields.specs.Fields.{most_left}
use Rattle.test_fields.proofs.Fields.read_numbers.Given as goal

abbrev pub invariant-loop-i : goal.invariant-loop-i
invariant-loop-i l = most_left l.self + l.i ≤ most_left l.initial.self
