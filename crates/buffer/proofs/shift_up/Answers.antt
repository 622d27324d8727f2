-- `shift_up` meets its contract. The invariant: the bytes from `i` on have moved. Assumes nothing.
use mathlib.Core.Path.{◌≡◌, refl, ap, ◌∙◌}
use mathlib.Core.List.{List}
use Prim.Native.Nat.{ℕ, ◌+◌, ◌-◌}
use native.Mathlib.Omega.{arith}
use lib.ListN.{length-set, set, get_or}
use Rattle.buffer.specs.Edit.{shifted}
use Rattle.buffer.proofs.Shifts.{shift_step, shift_none}
use Rattle.buffer.proofs.shift_up.Goals as goal

pub loop-i-init : goal.loop-i-init
loop-i-init c = (omega arith, (shift_none _ _ _, refl))

pub loop-i-preserved : goal.loop-i-preserved
loop-i-preserved c =
    let a = c.args in
    let i = c.loop-i.i - 1 in (
      omega arith,
      (
        ap (λ (l : List ℕ). set l (i + a.n) (get_or l i 0)) c.loop-i.invariant.1.0
            ∙ shift_step a.tail.now a.n a.used i c.loop-i.i (omega arith) c.loop-i.invariant.0 c.requires,
        simp length-set (omega arith),
      ),
    )

pub returns : goal.returns
returns c =
    let e : c.loop-i.i ≡ 0 = omega arith in
    c.loop-i.invariant.1.0 ∙ ap (λ (q : ℕ). shifted c.args.tail.now c.args.n c.args.used q) e
