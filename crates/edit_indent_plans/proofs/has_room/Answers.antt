use native.Mathlib.Omega.{arith}
use Rattle.edit_indent_plans.proofs.Rooms.{both-fit, size_fits}
use Rattle.edit_indent_plans.proofs.has_room.Goals as goal

pub overflow_mul-result : goal.overflow_mul-result
overflow_mul-result c = omega (arith, size_fits c.requires.fit c.requires.records_in_bounds.2)

pub returns : goal.returns
returns c = both-fit _ _ _ _ _ _ c.requires.records_in_bounds.0 c.requires.records_in_bounds.1
