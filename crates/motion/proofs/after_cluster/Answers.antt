use mathlib.Core.Path.{ap}
use Prim.Native.Nat.{◌+◌}
use Rattle.repertoire.specs.Repertoire.{catalogue}
use Rattle.cluster.specs.declared.Cluster.{Cluster}
use Rattle.cluster.proofs.Steps.{next_told}
use Rattle.motion.specs.Search.{after_cluster}
use Rattle.motion.proofs.after_cluster.Goals as goal

pub returns : goal.returns
unfolding after_cluster
returns c =
    let t = next_told catalogue c.args.s.now c.args.pos _ c.requires
    (c.next_cluster-k.ensures.known, c.next_cluster-k.ensures.within) in
    (ap (λ (k : Cluster). c.args.pos + k.len) t.0, t.1)
