use mathlib.Core.Path.{sym, ◌∙◌}
use Rattle.log_recording.proofs.ByNumber.{may_not, other_kind, follows, no_cut, away, before}
use Rattle.log_recording.proofs.by_number.Tail.note.Goals as goal

pub returns-then-not-joins : goal.returns-then-not-joins
returns-then-not-joins c =
    let a = c.args in
    c.apart.ensures ∙ may_not a.f a.kind a.place a.old a.new a.self a.joins c.if-not-joins.true

pub returns-then-self-kind : goal.returns-then-self-kind
returns-then-self-kind c =
    let a = c.args in
    c.apart-then-self-kind.ensures ∙ other_kind a.f a.kind a.place a.old a.new a.self a.joins c.if-not-joins.false c.if-self-kind.true

pub returns-then-self-place : goal.returns-then-self-place
returns-then-self-place c =
    let a = c.args in
    follows a.f a.kind a.place a.old a.new a.self a.joins c.if-not-joins.false c.if-self-kind.false c.if-self-place.true

pub returns-then-kind-ne4 : goal.returns-then-kind-ne4
returns-then-kind-ne4 c =
    let a = c.args in
    c.apart-then-kind-ne4.ensures
    ∙ no_cut a.f a.kind a.place a.old a.new a.self a.joins c.if-not-joins.false c.if-self-kind.false c.if-self-place.false
    c.if-kind-ne4.true

pub returns-then-not-ends_at : goal.returns-then-not-ends_at
returns-then-not-ends_at c =
    let a = c.args in
    c.apart-then-not-ends_at.ensures
    ∙ away a.f a.kind a.place a.old a.new a.self a.joins c.if-not-joins.false c.if-self-kind.false c.if-self-place.false
    c.if-kind-ne4.false
    (sym c.ends_at.ensures ∙ c.if-not-ends_at.true)

pub returns : goal.returns
returns c =
    let a = c.args in
    before a.f a.kind a.place a.old a.new a.self a.joins c.if-not-joins.false c.if-self-kind.false c.if-self-place.false
    c.if-kind-ne4.false
    (sym c.ends_at.ensures ∙ c.if-not-ends_at.false)
