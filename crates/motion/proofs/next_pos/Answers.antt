use mathlib.Core.Path.{◌≡◌, sym, ap, ◌∙◌}
use native.Mathlib.Omega.{arith}
use Prim.Native.Nat.{◌+◌, ◌-◌}
use Rattle.repertoire.specs.Repertoire.{catalogue}
use Rattle.cluster.specs.declared.Cluster.{Cluster}
use Rattle.cluster.proofs.Steps.{next_told}
use Rattle.motion.proofs.Steps.{forward_more, forward-end, next_found, next-end, next-zero}
use Rattle.motion.proofs.next_pos.Goals as goal
use Rattle.motion.proofs.next_pos.Goals.{then-s-pos-via-then-s-pos, then-s-pos-via-else-s-pos+then-n-eq0}

pub returns-then-s-pos : goal.returns-then-s-pos
returns-then-s-pos c = elim c.then-s-pos.branch [
  | then-s-pos-via-then-s-pos w ↦ next-end catalogue c.args.s.now _ _ w.if-s-pos.true
  | then-s-pos-via-else-s-pos+then-n-eq0 w ↦ next-zero catalogue c.args.s.now _ _ w.if-n-eq0.true
]

pub loop-preserved : goal.loop-preserved
loop-preserved c =
    let told = next_told catalogue c.args.s.now c.loop.at _ c.loop.invariant.0
    (c.next_cluster-len.ensures.known, c.next_cluster-len.ensures.within) in
    let left : c.args.n - (c.loop.counter + 1) ≡ c.args.n - c.loop.counter - 1 = omega arith in (
      told.1,
      rw left
          (sym
          (forward_more catalogue c.args.s.now c.loop.at _ (c.args.n - c.loop.counter) (ap (λ (x : Cluster). x.len) told.0)
          (omega (arith, c.if-len-eq0.false)) (omega arith))
          ∙ c.loop.invariant.1),
    )

pub returns-then-len-eq0 : goal.returns-then-len-eq0
returns-then-len-eq0 c =
    let told = next_told catalogue c.args.s.now c.loop.at _ c.loop.invariant.0
    (c.next_cluster-len.ensures.known, c.next_cluster-len.ensures.within) in
    next_found catalogue c.args.s.now _ _ _ c.if-s-pos.false c.if-n-eq0.false
    (sym
    (forward-end catalogue c.args.s.now c.loop.at _ (c.args.n - c.loop.counter) (ap (λ (x : Cluster). x.len) told.0) c.if-len-eq0.true)
    ∙ c.loop.invariant.1)

pub returns-after-loop : goal.returns-after-loop
returns-after-loop c =
    let none : c.args.n - c.loop.counter ≡ 0 = omega arith in
    next_found catalogue c.args.s.now _ _ _ c.if-s-pos.false c.if-n-eq0.false (omega (arith, rw none at c.loop.invariant.1))
