use Rattle.repertoire.specs.Repertoire.{catalogue}
use Rattle.log_recording.proofs.Newest.{edit_of, tail_is}
use Rattle.log_recording.proofs.tail_at.Goals as goal

pub returns : goal.returns
returns c =
    let a = c.args in
    tail_is catalogue a.f a.records.now a.last a.texts c.requires.last_at _ c.read_record.ensures.same _ (edit_of _ _ c.and_then.ensures)
