use mathlib.Core.List.{List}
use Prim.Native.Nat.{ℕ}
use native.Mathlib.Omega.{arith}
use lib.ListN.{drop}
use Rattle.repertoire.specs.Repertoire.{catalogue}
use Rattle.repertoire.proofs.Catalogue.{catalogue_lawful}
use Rattle.cluster.specs.Clusters.{first_cluster}
use Rattle.slip_calls.proofs.Clusters.{ClusterAt, cluster_told}
use Rattle.slip_calls.proofs.Steps.{step_white, step_piece}
use Rattle.slip_calls.proofs.Passes.{newline-white}
use Rattle.slip_calls.proofs.step_at.Goals as goal
use Rattle.slip_calls.proofs.step_at.Goals.{After-next_cluster-k, Start}

abbrev text : Start → List ℕ
text s = s.args.s.now

-- the cluster that stands there
here : (k : After-next_cluster-k) →
    ClusterAt catalogue (k.args.s.now) k.args.at (first_cluster catalogue (drop k.args.at (k.args.s.now))) k.next_cluster-k.result
here k = cluster_told catalogue (k.args.s.now) k.args.at k.next_cluster-k.result k.requires.0 k.requires.2.whole
    (k.next_cluster-k.ensures.known, k.next_cluster-k.ensures.within)

pub overflow_add-end : goal.overflow_add-end
overflow_add-end c = omega (arith, (here (goal.at.overflow_add-end c).After-next_cluster-k).within)

pub over_white-requires : goal.over_white-requires
over_white-requires c = (omega arith, (here (goal.at.over_white-requires c).After-next_cluster-k).within, c.requires.2.narrow)

pub returns-then-k : goal.returns-then-k
returns-then-k c =
    step_white catalogue catalogue_lawful newline-white (text (goal.at.returns-then-k c).Start) c.args.at c.args.filled c.requires.2 _ _
    (here (goal.at.returns-then-k c).After-next_cluster-k) _
    c.if-k.true c.over_white.ensures

pub piece_at-piece-requires : goal.piece_at-piece-requires
piece_at-piece-requires c = (omega (arith, c.requires.0), c.requires.1, c.requires.2.whole)

pub place_for-requires : goal.place_for-requires
place_for-requires c = (c.requires.2.narrow, c.piece_at-piece.ensures.narrow)

pub returns : goal.returns
returns c =
    step_piece catalogue catalogue_lawful newline-white (text (goal.at.returns c).Start) c.args.at c.args.filled c.requires.2 _ _
    (here (goal.at.returns c).After-next_cluster-k) _ _
    c.if-k.false c.piece_at-piece.ensures c.place_for.ensures
