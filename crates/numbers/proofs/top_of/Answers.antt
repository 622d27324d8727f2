use native.Mathlib.Omega.{arith}
use Rattle.numbers.proofs.Read.{top_max}
use Rattle.numbers.proofs.top_of.Goals as goal

pub overflow_mul-above : goal.overflow_mul-above
overflow_mul-above c = omega (arith, c.loop.invariant, top_max c.loop.counter (omega arith))
