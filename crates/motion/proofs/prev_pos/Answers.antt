use mathlib.Core.Path.{◌≡◌, sym, ◌∙◌}
use native.Mathlib.Omega.{arith}
use Prim.Native.Nat.{◌+◌, ◌-◌}
use lib.ListN.{length-take}
use Rattle.repertoire.specs.Repertoire.{catalogue}
use Rattle.cluster.proofs.Steps.{prev_some, prev_none}
use Rattle.motion.proofs.Steps.{backward_more, backward_done, backward_start, prev_found, prev_start, prev_zero}
use Rattle.motion.proofs.prev_pos.Goals as goal
use Rattle.motion.proofs.prev_pos.Goals.{then-pos-eq0-via-then-pos-eq0, then-pos-eq0-via-else-pos-eq0+then-n-eq0}

pub returns-then-pos-eq0 : goal.returns-then-pos-eq0
returns-then-pos-eq0 c = elim c.then-pos-eq0.branch [
  | then-pos-eq0-via-then-pos-eq0 w ↦ prev_start catalogue c.args.s.now _ _ w.if-pos-eq0.true
  | then-pos-eq0-via-else-pos-eq0+then-n-eq0 w ↦ prev_zero catalogue c.args.s.now _ _ w.if-n-eq0.true
]

pub loop-preserved : goal.loop-preserved
loop-preserved c =
    let b = prev_some catalogue c.args.s.now c.loop.at _ c.loop.invariant.1 c.loop.invariant.0
    (omega (arith, length-take c.loop.at c.args.s.now, c.prev_cluster-len.ensures.within, c.if-len-eq0.false))
    c.prev_cluster-len.ensures.known in
    let left : c.args.n - (c.loop.counter + 1) ≡ c.args.n - c.loop.counter - 1 = omega arith in (
      omega (arith, c.loop.invariant.0),
      b.at-boundary,
      rw left
          (c.loop.invariant.2 ∙ backward_more catalogue c.args.s.now c.loop.at _ (c.args.n - c.loop.counter) _ b (omega arith)),
    )

pub returns-then-len-eq0 : goal.returns-then-len-eq0
returns-then-len-eq0 c =
    let z = prev_none catalogue c.args.s.now c.loop.at _ c.loop.invariant.1 c.loop.invariant.0 c.prev_cluster-len.ensures.known
    c.if-len-eq0.true in
    prev_found catalogue c.args.s.now _ _ _ c.if-pos-eq0.false c.if-n-eq0.false
    (z ∙ sym (c.loop.invariant.2 ∙ (rw z (backward_start catalogue c.args.s.now (c.args.n - c.loop.counter)))))

pub returns-after-loop : goal.returns-after-loop
returns-after-loop c =
    let none : c.args.n - c.loop.counter ≡ 0 = omega arith in
    prev_found catalogue c.args.s.now _ _ _ c.if-pos-eq0.false c.if-n-eq0.false
    (sym
    (c.loop.invariant.2 ∙ (rw none (backward_done catalogue c.args.s.now c.loop.at c.loop.invariant.1 c.loop.invariant.0))))
