use Rattle.repertoire.specs.Repertoire.{catalogue}
use Rattle.checks.specs.Outcome.{called}
use Rattle.formats.specs.declared.Format.{Format}
use Rattle.log_state.specs.Calls.{lent, value_of, checked, truncate_call}
use Rattle.log_state.proofs.Answers.{refused_by, passed_by, answered_as}
use Rattle.formats.proofs.Formats.{fit_for}
use Rattle.log_state.proofs.Formats.{in_format}
use mathlib.Core.Bool.{false}
use Rattle.log_state.specs.Outcomes.{truncate_out}
use Rattle.log_calls.proofs.truncate.Goals as goal

pub check-requires : goal.check-requires
check-requires c = fit_for _ c.format_for-f.ensures

pub returns-in-Err : goal.returns-in-Err
returns-in-Err c =
    let a = c.args in
    let l = lent a.records.now a.texts.now a.log in
    let checked1 = checked catalogue c.format_for-f.result l in
    in_format l (λ (F : Format). truncate_call catalogue F l a.len) c.format_for-f.ensures
    (answered_as c.format_for-f.result l
    (called (checked1 false) (truncate_out a.len (value_of catalogue c.format_for-f.result l))) _ _ _ _ c.refused.ensures
    (refused_by c.format_for-f.result l c.in-Err.why (checked1 false) _ c.in-Err.ensures.number))

pub truncate-requires : goal.truncate-requires
truncate-requires c = record {
  fit = fit_for _ c.format_for-f.ensures;
  ready = c.in-Ok.ensures.ready;
}

pub returns : goal.returns
returns c =
    let a = c.args in
    let l = lent a.records.now a.texts.now a.log in
    in_format l (λ (F : Format). truncate_call catalogue F l a.len) c.format_for-f.ensures
    (passed_by c.format_for-f.result l
    ((checked catalogue c.format_for-f.result l) false)
    (truncate_out a.len (value_of catalogue c.format_for-f.result l)) _ _ _ c.in-Ok.ensures.number
    c.truncate.ensures)
