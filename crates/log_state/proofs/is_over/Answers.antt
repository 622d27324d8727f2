use Prim.Native.Nat.{◌+◌}
use borrow.Author.Tests.{lt-ltb}
use Rattle.log_state.proofs.Sums.{over_sum}
use native.Mathlib.Omega.{arith}
use Rattle.log_state.proofs.is_over.Goals as goal

pub returns-then-len-a : goal.returns-then-len-a
returns-then-len-a c =
    let h = c.if-len-a.true in
    simp (lt-ltb c.args.len (c.args.a + c.args.b) (omega arith))

pub returns : goal.returns
returns c = over_sum _ _ _ c.if-len-a.false
