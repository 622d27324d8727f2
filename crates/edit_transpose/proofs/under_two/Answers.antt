use Rattle.repertoire.specs.Repertoire.{catalogue}
use Rattle.edit_transpose.proofs.Starts.{under-two}
use Rattle.edit_transpose.proofs.under_two.Goals as goal

pub returns : goal.returns
returns c = λ v. under-two catalogue c.args.s.now v _ c.next_cluster-k.ensures.known
