use mathlib.Core.Path.{◌∙◌}
use Rattle.log_recording.proofs.Joins.{may_join, other_kind, may_not, no_edit}
use Rattle.log_recording.proofs.Tail.note.Goals as goal
use Rattle.log_recording.proofs.Tail.note.Goals.{else-joins-via-then-joins+else-eq, else-joins-via-else-joins}

pub returns-in_default : goal.returns-in_default
returns-in_default c =
    let a = c.args in
    c.apart.ensures ∙ no_edit a.f a.edit a.self a.joins c.in_default.is

pub returns-then-eq : goal.returns-then-eq
returns-then-eq c =
    let a = c.args in
    c.joined.ensures ∙ may_join a.f a.edit a.self c.in-Some.newest c.in-Some.is a.joins c.if-joins.true c.if-eq.ensures

pub returns : goal.returns
returns c =
    let a = c.args in
    c.apart-2.ensures
    ∙ elim c.else-joins.branch [
      | else-joins-via-then-joins+else-eq w ↦ other_kind a.f a.edit a.self c.in-Some.newest c.in-Some.is a.joins w.if-joins.true
          w.if-eq.ensures
      | else-joins-via-else-joins w ↦ may_not a.f a.edit a.self c.in-Some.newest c.in-Some.is a.joins w.if-joins.false
    ]
