use Rattle.repertoire.specs.Repertoire.{catalogue}
use Rattle.log_recording.proofs.Newest.{tail_apart}
use Rattle.log_recording.proofs.tail_for.Goals as goal

pub returns : goal.returns
returns c =
    let a = c.args in
    λ ts us l e. tail_apart catalogue a.f a.records.now a.texts a.joins c.if-joins.false ts us l e
