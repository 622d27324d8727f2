use Prim.Native.Nat.{◌+◌, ◌-◌}
use mathlib.Core.Path.{◌≡◌, sym, ◌∙◌}
use native.Mathlib.Omega.{arith}
use lib.ListN.{length-take, length-drop, length, drop}
use Rattle.repertoire.specs.Repertoire.{catalogue}
use Rattle.lists.specs.Lists.{part}
use Rattle.motion_lines.proofs.Columns.{nth_start, nth_stuck, nth_found, nth_more}
use Rattle.motion_lines.proofs.nth_cluster.Goals as goal

pub loop-init : goal.loop-init
loop-init c =
    let all : c.args.n - 0 ≡ c.args.n = omega arith in
    (omega arith, rw all (nth_start catalogue c.args.s.now c.args.line.start c.args.line.end c.args.n c.args.other))

pub returns-then-len-eq0 : goal.returns-then-len-eq0
returns-then-len-eq0 c =
    let a = c.args in
    sym
    (c.loop.invariant.1
    ∙ nth_stuck catalogue (part a.s.now a.line.start a.line.end) a.line.start a.other c.loop.at (a.n - c.loop.counter)
    c.next_cluster-len.result c.next_cluster-len.ensures.known c.if-len-eq0.true)

pub loop-preserved : goal.loop-preserved
loop-preserved c =
    let a = c.args in
    let t = part a.s.now a.line.start a.line.end in
    let left : c.args.n - (c.loop.counter + 1) ≡ c.args.n - c.loop.counter - 1 = omega arith in (
      omega (
        arith,
        c.loop.invariant.0,
        length-take (length t - c.loop.at) (drop c.loop.at t),
        length-drop c.loop.at t,
        c.next_cluster-len.ensures.within,
      ),
      rw left
          (c.loop.invariant.1
          ∙ nth_more catalogue t a.line.start a.other c.loop.at (a.n - c.loop.counter) c.next_cluster-len.result
          c.next_cluster-len.ensures.known c.if-len-eq0.false (omega arith)),
    )

pub returns-then-next_cluster-eq0 : goal.returns-then-next_cluster-eq0
returns-then-next_cluster-eq0 c =
    let a = c.args in
    sym
    (c.loop.invariant.1
    ∙ nth_stuck catalogue (part a.s.now a.line.start a.line.end) a.line.start a.other c.loop.at (a.n - c.loop.counter)
    c.next_cluster.result c.next_cluster.ensures.known c.if-next_cluster-eq0.true)

pub returns-else-next_cluster-eq0 : goal.returns-else-next_cluster-eq0
returns-else-next_cluster-eq0 c =
    let a = c.args in
    sym
    (c.loop.invariant.1
    ∙ nth_found catalogue (part a.s.now a.line.start a.line.end) a.line.start a.other c.loop.at (a.n - c.loop.counter)
    c.next_cluster.result c.next_cluster.ensures.known c.if-next_cluster-eq0.false (omega arith))
