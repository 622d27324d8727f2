use mathlib.Core.Path.{sym}
use Rattle.slip_calls.proofs.Places.{placed-length}
use Rattle.slip_calls.proofs.place_len.Goals as goal

pub returns-then-place : goal.returns-then-place
returns-then-place c = sym ((placed-length c.args.place).0 c.if-place.true)

pub returns-else-place : goal.returns-else-place
returns-else-place c = sym ((placed-length c.args.place).1 c.if-place.false)
