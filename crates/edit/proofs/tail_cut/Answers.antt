use mathlib.Core.Path.{◌∙◌}
use Rattle.edit.proofs.Rooms.{cut_none, cut_some}
use Rattle.edit.proofs.tail_cut.Goals as goal

pub returns-then-from-to : goal.returns-then-from-to
returns-then-from-to c = cut_none c.args.f c.args.joins c.args.from c.args.to c.args.t c.if-from-to.true

pub returns : goal.returns
returns c =
    let a = c.args in
    c.tail.ensures ∙ cut_some a.f a.joins a.from a.to a.t _ c.if-from-to.false c.note.ensures
