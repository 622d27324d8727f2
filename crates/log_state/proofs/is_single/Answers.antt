use Rattle.repertoire.specs.Repertoire.{catalogue}
use Rattle.log_state.proofs.Single.{single}
use Rattle.log_state.proofs.is_single.Goals as goal

pub returns : goal.returns
returns c = single catalogue c.args.s.now c.requires c.next_cluster-c.result c.next_cluster-c.ensures.known
    c.next_cluster-c.ensures.within
