use Rattle.repertoire.specs.Repertoire.{catalogue}
use Rattle.checks.specs.Outcome.{called}
use Rattle.formats.specs.declared.Format.{Format}
use Rattle.log_state.specs.Calls.{lent, sizes_of, value_of, checked, begin_call}
use Rattle.log_state.proofs.Answers.{refused_by, passed_by, answered_as}
use Rattle.formats.proofs.Formats.{fit_for}
use Rattle.log_state.proofs.Formats.{in_format}
use mathlib.Core.Bool.{false}
use Rattle.log_state.specs.Outcomes.{begin_out}
use Rattle.log_calls.proofs.begin.Goals as goal

pub check-requires : goal.check-requires
check-requires c = fit_for _ c.format_for-f.ensures

pub returns-in-Err : goal.returns-in-Err
returns-in-Err c =
    let l = lent c.args.records.now c.args.texts.now c.args.log in
    let checked1 = checked catalogue c.format_for-f.result l in
    in_format l (λ (F : Format). begin_call catalogue F l) c.format_for-f.ensures
    (answered_as c.format_for-f.result l
    (called (checked1 false)
    (begin_out c.format_for-f.result (sizes_of l) (value_of catalogue c.format_for-f.result l))) _ _ _ _
    c.refused.ensures
    (refused_by c.format_for-f.result l c.in-Err.why (checked1 false) _ c.in-Err.ensures.number))

pub begin-requires : goal.begin-requires
begin-requires c = record {
  fit = fit_for _ c.format_for-f.ensures;
  ready = c.in-Ok.ensures.ready;
  newest_at = c.in-Ok.ensures.newest;
}

pub returns : goal.returns
returns c =
    let l = lent c.args.records.now c.args.texts.now c.args.log in
    in_format l (λ (F : Format). begin_call catalogue F l) c.format_for-f.ensures
    (passed_by c.format_for-f.result l
    ((checked catalogue c.format_for-f.result l) false)
    (begin_out c.format_for-f.result (sizes_of l) (value_of catalogue c.format_for-f.result l)) _ _ _
    c.in-Ok.ensures.number c.begin.ensures)
