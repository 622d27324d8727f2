use Prim.Native.Nat.{ℕ, ◌+◌, ◌-◌}
use mathlib.Core.List.{List}
use native.Mathlib.Omega.{arith}
use lib.ListN.{drop, length-take, length-drop}
use Rattle.repertoire.specs.Repertoire.{catalogue}
use Rattle.cluster.specs.Clusters.{first_cluster}
use Rattle.slip_calls.proofs.Clusters.{ClusterAt, cluster_told}
use Rattle.slip_calls.proofs.Pieces.{scan-start, scan-stops, scan_more, stops_there, white_there, full_there}
use Rattle.slip_calls.proofs.piece_at.Goals as goal
use Rattle.slip_calls.proofs.piece_at.Goals.{After-next_cluster-k, At-loop-end}

-- the cluster that stands where the scan has come to
abbrev text : At-loop-end → List ℕ
text l = l.args.s.now

here : (k : After-next_cluster-k) →
    ClusterAt catalogue (k.args.s.now) k.loop-end.end (first_cluster catalogue (drop k.loop-end.end (k.args.s.now)))
    k.next_cluster-k.result
here k = cluster_told catalogue (k.args.s.now) k.loop-end.end k.next_cluster-k.result k.loop-end-test.true k.loop-end.invariant.whole
    (k.next_cluster-k.ensures.known, k.next_cluster-k.ensures.within)

pub loop-end-init : goal.loop-end-init
loop-end-init c = scan-start catalogue c.args.s.now c.args.at c.requires.0 c.requires.2

pub returns-then-k : goal.returns-then-k
returns-then-k c =
    let a = c.args in
    scan-stops catalogue (text (goal.at.returns-then-k c).At-loop-end) a.at c.loop-end.end c.loop-end.columns c.loop-end.invariant
    (white_there catalogue (text (goal.at.returns-then-k c).At-loop-end) c.loop-end.end c.loop-end.columns _ _
    (here (goal.at.returns-then-k c).After-next_cluster-k) c.if-k.true)

pub overflow_add-end : goal.overflow_add-end
overflow_add-end c = omega (arith, (here (goal.at.overflow_add-end c).After-next_cluster-k).within)

pub slice_bounds-width-count : goal.slice_bounds-width-count
slice_bounds-width-count c = omega arith

pub slice_bounds-width-end : goal.slice_bounds-width-end
slice_bounds-width-end c = omega (arith, (here (goal.at.slice_bounds-width-end c).After-next_cluster-k).within)

pub width-n-requires : goal.width-n-requires
width-n-requires c =
    let here = goal.at.width-n-requires c in
    let n = c.next_cluster-k.result.len in (
      omega arith,
      omega (
        arith,
        length-take (c.loop-end.end + n - c.loop-end.end) (drop c.loop-end.end (text here.At-loop-end)),
        length-drop c.loop-end.end (text here.At-loop-end),
        c.requires.1,
      ),
    )

pub overflow_add-columns : goal.overflow_add-columns
overflow_add-columns c =
    let here = goal.at.overflow_add-columns c in
    let n = c.next_cluster-k.result.len in
    omega (
      arith,
      c.width-n.ensures.1,
      length-take (c.loop-end.end + n - c.loop-end.end) (drop c.loop-end.end (text here.At-loop-end)),
      length-drop c.loop-end.end (text here.At-loop-end),
      c.requires.1,
      c.loop-end.invariant.narrow,
    )

pub returns-then-columns-n-gt-COLUMNS : goal.returns-then-columns-n-gt-COLUMNS
returns-then-columns-n-gt-COLUMNS c =
    let a = c.args in
    scan-stops catalogue (text (goal.at.returns-then-columns-n-gt-COLUMNS c).At-loop-end) a.at c.loop-end.end c.loop-end.columns
    c.loop-end.invariant
    (full_there catalogue (text (goal.at.returns-then-columns-n-gt-COLUMNS c).At-loop-end) c.loop-end.end c.loop-end.columns _ _ _
    (here (goal.at.returns-then-columns-n-gt-COLUMNS c).After-next_cluster-k) c.width-n.ensures.0 c.if-k.false
    c.if-columns-n-gt-COLUMNS.true)

pub overflow_add-columns-in-loop-end : goal.overflow_add-columns-in-loop-end
overflow_add-columns-in-loop-end c = omega (arith, c.if-columns-n-gt-COLUMNS.false)

pub overflow_add-end-in-loop-end : goal.overflow_add-end-in-loop-end
overflow_add-end-in-loop-end c = omega (arith, (here (goal.at.overflow_add-end-in-loop-end c).After-next_cluster-k).within)

pub loop-end-smaller : goal.loop-end-smaller
loop-end-smaller c =
    let x = here (goal.at.loop-end-smaller c).After-next_cluster-k in
    omega (arith, x.within, x.some)

pub loop-end-preserved : goal.loop-end-preserved
loop-end-preserved c =
    let a = c.args in
    scan_more catalogue (text (goal.at.loop-end-preserved c).At-loop-end) a.at c.loop-end.end c.loop-end.columns c.loop-end.invariant _ _ _
    (here (goal.at.loop-end-preserved c).After-next_cluster-k) c.width-n.ensures.0
    c.if-k.false (omega (arith, c.if-columns-n-gt-COLUMNS.false))

pub returns : goal.returns
returns c =
    let here = goal.at.returns c in
    let a = c.args in
    scan-stops catalogue (text here.At-loop-end) a.at c.loop-end.end c.loop-end.columns c.loop-end.invariant
    (stops_there catalogue (text here.At-loop-end) c.loop-end.end c.loop-end.columns c.loop-end-test.false)
