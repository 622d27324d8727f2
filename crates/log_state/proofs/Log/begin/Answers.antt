use mathlib.Core.Path.{ap}
use Rattle.repertoire.specs.Repertoire.{catalogue}
use Rattle.log_state.specs.declared.Log.{Log}
use Rattle.log_state.specs.Outcomes.{begin_out}
use Rattle.log_state.specs.Calls.{Lent, lent, sizes_of, value_of}
use Rattle.log_state.proofs.Answers.{answered_as}
use Rattle.log_state.proofs.Groups.{begin_high, begin_full, begin-mark, begin_takes}
use Rattle.log_state.proofs.Log.begin.Goals as goal
use Rattle.log_state.proofs.Log.begin.Goals.{Start}

abbrev lending : Start → Lent
lending s = lent s.args.records.now s.args.texts.now s.args.self

pub returns-then-self-ge255 : goal.returns-then-self-ge255
returns-then-self-ge255 c =
    let a = c.args in
    let l = lent a.records.now a.texts.now a.self in
    answered_as a.f l (begin_out a.f (sizes_of l) (value_of catalogue a.f l)) _ _ _ _ c.refused.ensures
    (begin_high a.f l c.requires.ready c.if-self-ge255.true)

pub returns-then-records-ur : goal.returns-then-records-ur
returns-then-records-ur c =
    let a = c.args in
    let l = lent a.records.now a.texts.now a.self in
    answered_as a.f l (begin_out a.f (sizes_of l) (value_of catalogue a.f l)) _ _ _ _ c.refused-then-records-ur.ensures
    (begin_full a.f l c.requires.ready c.if-self-ge255.false c.if-records-ur.true)

pub returns : goal.returns
returns c =
    let f = c.args.f in
    let l = lending (goal.at.returns c).Start in
    let count = c.args.newest.count in
    answered_as f l (begin_out f (sizes_of l) (value_of catalogue f l)) _ _ _ _
    (ap (λ (g : Log). record { number = 0; from = count; to = 0; log = g }) c.only_undo.ensures)
    (begin_takes f l c.requires.ready count c.if-self-ge255.false c.if-records-ur.false
    (begin-mark f l c.requires.ready c.args.newest c.requires.newest_at))
