use mathlib.Core.Path.{◌∙◌}
use Rattle.log_recording.proofs.Joins.{follows, before, no_cut, away}
use Rattle.log_recording.proofs.Tail.joined.Goals as goal
use Rattle.log_recording.proofs.Tail.joined.Goals.{else-eq-via-then-eq+else-ends_at, else-eq-via-else-eq}

pub returns-then-newest-edit : goal.returns-then-newest-edit
returns-then-newest-edit c =
    let a = c.args in
    follows a.f a.newest a.edit a.self c.if-newest-edit.true

pub returns-then-ends_at : goal.returns-then-ends_at
returns-then-ends_at c =
    let a = c.args in
    before a.f a.newest a.edit a.self c.if-newest-edit.false c.if-eq.ensures c.if-ends_at.ensures

pub returns : goal.returns
returns c =
    let a = c.args in
    c.apart.ensures
    ∙ elim c.else-eq.branch [
      | else-eq-via-then-eq+else-ends_at w ↦ away a.f a.newest a.edit a.self c.if-newest-edit.false w.if-eq.ensures w.if-ends_at.ensures
      | else-eq-via-else-eq w ↦ no_cut a.f a.newest a.edit a.self c.if-newest-edit.false w.if-eq.ensures
    ]
