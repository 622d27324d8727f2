use Rattle.formats.proofs.Formats.{fit_for}
use Rattle.log_state.proofs.Recorded.{lays}
use Rattle.edit.specs.Calls.{lent, log_lent}
use Rattle.undo.proofs.undo.Goals as goal

pub admit-requires : goal.admit-requires
admit-requires c = fit_for _ c.format_for-f.ensures

pub undo_units-requires-clause-last_start : goal.undo_units-requires-clause-last_start
undo_units-requires-clause-last_start c =
    let a = c.args in
    let l = lent a.text.now a.records.now a.texts.now a.line a.log in
    let passes = c.in-Ok.ensures.passes in
    rw passes.same (passes.last _ _ (lays c.format_for-f.result (log_lent l) passes.ready.log))
