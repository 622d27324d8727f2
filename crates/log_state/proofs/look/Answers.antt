use mathlib.Core.Path.{ap, ◌∙◌}
use Rattle.std.specs.Prelude.{is_some}
use Rattle.repertoire.specs.Repertoire.{catalogue}
use Rattle.log_state.specs.Logs.{damaged}
use Rattle.log_state.proofs.Sums.{list_behind}
use Rattle.log_state.proofs.Passed.{high_level, undo_bad, redo_bad, sound_is}
use Rattle.log_state.proofs.look.Goals as goal

pub returns-then-log-gt255-clause-sound : goal.returns-then-log-gt255-clause-sound
unfolding damaged
returns-then-log-gt255-clause-sound c = high_level c.args.log.level _ _ c.if-log-gt255.true

pub returns-in_err-newest-clause-sound : goal.returns-in_err-newest-clause-sound
unfolding damaged
returns-in_err-newest-clause-sound c =
    ap is_some c.from_residual.ensures ∙ undo_bad c.args.log.level c.if-log-gt255.false _ _ c.in_err-newest.ensures.sound

pub returns-in_err-check_list-clause-sound : goal.returns-in_err-check_list-clause-sound
unfolding damaged
returns-in_err-check_list-clause-sound c =
    let a = c.args in
    let u = a.log.undo in
    let r = a.log.redo in
    ap is_some c.from_residual-in_err-check_list.ensures
    ∙ redo_bad a.log.level c.if-log-gt255.false _ _ c.in_ok-newest.ensures.sound
    (list_behind catalogue a.f a.records.now a.texts.now u.records r.records u.texts r.texts _ c.in_err-check_list.ensures.sound)

pub returns-clause-sound : goal.returns-clause-sound
unfolding damaged
returns-clause-sound c =
    let a = c.args in
    let u = a.log.undo in
    let r = a.log.redo in
    sound_is a.log.level c.if-log-gt255.false _ _ c.in_ok-newest.ensures.sound
    (list_behind catalogue a.f a.records.now a.texts.now u.records r.records u.texts r.texts _ c.in_ok-check_list.ensures.sound)
