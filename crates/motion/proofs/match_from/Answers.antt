use Rattle.motion.proofs.Search.{ahead, ahead_in, ahead_out, ahead_end, found_zero, found_same}
use Prim.Native.Nat.{◌+◌}
use mathlib.Core.Path.{sym, ap, ◌∙◌}
use native.Mathlib.Omega.{arith}
use Rattle.utf8.specs.Answer.{as_first}
use Rattle.repertoire.proofs.Text.{within-at}
use Rattle.motion.specs.Search.{nth_match}
use Rattle.motion.proofs.match_from.Goals as goal
use Rattle.motion.proofs.match_from.Goals.{then-cp-c, else-cp-c}

pub returns-in_default : goal.returns-in_default
unfolding nth_match
returns-in_default c = sym
    (c.loop-left.invariant.1
    ∙ ahead_end c.args.s.now c.args.c c.loop-left.at c.loop-left.found c.loop-left.left
    (sym c.decode_at.ensures ∙ ap as_first c.in_default.is))

pub overflow_add-at : goal.overflow_add-at
overflow_add-at c = omega (
  arith,
  (within-at c.args.s.now c.loop-left.at _ _ c.loop-left.invariant.0
      (sym c.decode_at.ensures ∙ ap as_first c.in-Some.is)).1,
)

pub loop-left-smaller : goal.loop-left-smaller
loop-left-smaller c = omega (
  arith,
  (within-at c.args.s.now c.loop-left.at _ _ c.loop-left.invariant.0
      (sym c.decode_at.ensures ∙ ap as_first c.in-Some.is)),
)

pub loop-left-preserved : goal.loop-left-preserved
loop-left-preserved c =
    let a = c.args in
    let ahead1 = ahead a.s.now a.c (c.loop-left.at + c.in-Some.field-0.len) in
    let e1 = sym c.decode_at.ensures ∙ ap as_first c.in-Some.is in (
      (within-at a.s.now c.loop-left.at _ _ c.loop-left.invariant.0 e1).1,
      c.loop-left.invariant.1
          ∙ elim c.if-cp-c.branch [
            | then-cp-c w ↦ ahead_in a.s.now a.c c.loop-left.at _ _ e1 c.loop-left.found c.loop-left.left w.if-cp-c.true
                c.loop-left-test.true
                ∙ found_same _ _ _ _ ahead1 w.found-is w.left-is
            | else-cp-c w ↦ ahead_out a.s.now a.c c.loop-left.at _ _ e1 c.loop-left.found c.loop-left.left w.if-cp-c.false
                ∙ found_same _ _ _ _ ahead1 w.found-is w.left-is
          ],
    )

pub returns : goal.returns
unfolding nth_match
returns c = sym
    (c.loop-left.invariant.1
    ∙ found_zero c.loop-left.found (ahead c.args.s.now c.args.c c.loop-left.at) c.loop-left.left (omega arith))
