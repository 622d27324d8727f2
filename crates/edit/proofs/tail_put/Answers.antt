use mathlib.Core.Path.{◌∙◌}
use Rattle.edit.proofs.Rooms.{put_none, put_some}
use Rattle.edit.proofs.tail_put.Goals as goal

pub returns-then-size-eq0 : goal.returns-then-size-eq0
returns-then-size-eq0 c = put_none c.args.f c.args.at c.args.size c.args.t c.if-size-eq0.true

pub returns : goal.returns
returns c =
    let a = c.args in
    c.tail.ensures ∙ put_some a.f a.at a.size a.t _ c.if-size-eq0.false c.note.ensures
