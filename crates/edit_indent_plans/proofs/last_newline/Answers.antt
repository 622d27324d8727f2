use Prim.Native.Nat.{◌+◌, ◌-◌}
use mathlib.Core.Path.{◌≡◌, ◌∙◌}
use native.Mathlib.Omega.{arith}
use Rattle.lists.proofs.Parts.{get_or_any}
use Rattle.edit_indent_plans.proofs.Newlines.{last_at, last_none, none_end, none_back}
use Rattle.edit_indent_plans.proofs.last_newline.Goals as goal

pub loop-i-init : goal.loop-i-init
loop-i-init c = (omega arith, none_end c.args.s.now _ (omega arith))

pub loop-i-preserved : goal.loop-i-preserved
loop-i-preserved c =
    let s = c.args.s.now in
    let i : c.loop-i.i - 1 + 1 ≡ c.loop-i.i = omega arith in (
      omega arith,
      none_back s (c.loop-i.i - 1) (omega arith)
          (λ x. c.if-s-i-eq10.false (get_or_any s (c.loop-i.i - 1) 0 256 (omega arith) ∙ x)) (rw i c.loop-i.invariant.1),
    )

pub returns-then-s-i-eq10 : goal.returns-then-s-i-eq10
returns-then-s-i-eq10 c =
    let s = c.args.s.now in
    let i : c.loop-i.i - 1 + 1 ≡ c.loop-i.i = omega arith in
    last_at s c.args.pos (c.loop-i.i - 1) (omega arith) (omega arith)
    (get_or_any s (c.loop-i.i - 1) 256 0 (omega arith) ∙ c.if-s-i-eq10.true) (rw i c.loop-i.invariant.1)

pub returns : goal.returns
returns c =
    let here : c.loop-i.i ≡ c.args.pos = omega (arith, c.loop-i.invariant.0) in
    last_none c.args.s.now c.args.pos c.requires (rw here at c.loop-i.invariant.1)
