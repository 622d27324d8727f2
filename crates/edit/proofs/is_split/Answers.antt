use native.Mathlib.Omega.{arith}
use mathlib.Core.Path.{sym, ap}
use mathlib.Core.Bool.{Bool, not}
use lib.Seq.{length-take-le}
use Rattle.edit.proofs.is_split.Goals as goal

pub returns-then-text-len : goal.returns-then-text-len
returns-then-text-len c = λ h v. absurd (omega (arith, c.if-text-len.true))

pub slice_bounds-is_boundary-end : goal.slice_bounds-is_boundary-end
slice_bounds-is_boundary-end c = sym (length-take-le _ _ c.if-text-len.false)

pub returns : goal.returns
returns c = λ h v. ap (λ (b : Bool). not b) (c.is_boundary.ensures.text v)
