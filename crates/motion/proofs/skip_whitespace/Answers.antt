use mathlib.Core.Path.{sym, ◌∙◌}
use native.Mathlib.Omega.{arith}
use Rattle.repertoire.specs.Repertoire.{catalogue}
use Rattle.cluster.proofs.Steps.{next_told}
use Rattle.motion.specs.Trim.{skip_whitespace}
use Rattle.motion.proofs.Trim.{alnum_here, alnum-later, alnum_none, alnum-end}
use Rattle.motion.proofs.skip_whitespace.Goals as goal

pub returns-then-len-eq0 : goal.returns-then-len-eq0
unfolding skip_whitespace
returns-then-len-eq0 c = sym
    (c.loop-at.invariant.1
    ∙ alnum_none catalogue c.args.s.now c.loop-at.at _
    (next_told catalogue c.args.s.now c.loop-at.at _ c.loop-at.invariant.0
    (c.next_cluster-k.ensures.known, c.next_cluster-k.ensures.within)).0 c.if-len-eq0.true)

pub returns-then-k : goal.returns-then-k
unfolding skip_whitespace
returns-then-k c = sym
    (c.loop-at.invariant.1
    ∙ alnum_here catalogue c.args.s.now c.loop-at.at _
    (next_told catalogue c.args.s.now c.loop-at.at _ c.loop-at.invariant.0
    (c.next_cluster-k.ensures.known, c.next_cluster-k.ensures.within)).0 (omega (arith, c.if-len-eq0.false)) c.if-k.true)

pub loop-at-preserved : goal.loop-at-preserved
loop-at-preserved c =
    let next-told1 = next_told catalogue c.args.s.now c.loop-at.at _ c.loop-at.invariant.0
    (c.next_cluster-k.ensures.known, c.next_cluster-k.ensures.within) in (
      next-told1.1,
      c.loop-at.invariant.1
          ∙ alnum-later catalogue c.args.s.now c.loop-at.at _ next-told1.0 (omega (arith, c.if-len-eq0.false)) c.if-k.false,
    )

pub returns : goal.returns
unfolding skip_whitespace
returns c = sym (c.loop-at.invariant.1 ∙ alnum-end catalogue c.args.s.now c.loop-at.at c.loop-at-test.false)
