use Prim.Native.Nat.{◌-◌}
use native.Mathlib.Omega.{arith}
use lib.Count.{leading_le}
use borrow.Author.Tests.{eq-eqb, ne_eqb}
use Rattle.utf8.proofs.Lead.{ones_of, ones_lead}
use Rattle.utf8.proofs.char_len.Goals as goal

pub overflow_cast-result : goal.overflow_cast-result
overflow_cast-result c = omega (arith, leading_le 8 (255 - c.args.b))

pub returns-in-0 : goal.returns-in-0
returns-in-0 c = rw (eq-eqb _ _ c.in-0.is) at (ones_lead c.args.b c.ranges.b.fits)

pub returns-in_default : goal.returns-in_default
returns-in_default c = rw (ne_eqb (ones_of c.args.b) 0 (omega arith)) at (ones_lead c.args.b c.ranges.b.fits)
