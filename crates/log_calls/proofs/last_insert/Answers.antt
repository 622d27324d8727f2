use mathlib.Core.Path.{◌∙◌}
use Rattle.repertoire.specs.Repertoire.{catalogue}
use Rattle.formats.specs.declared.Format.{Format}
use Rattle.log_state.specs.Calls.{lent, value_of, checked, last_insert_call}
use Rattle.formats.proofs.Formats.{fit_for}
use Rattle.log_state.proofs.Formats.{says_in_format}
use mathlib.Core.Bool.{false}
use Rattle.log_state.specs.Outcomes.{last_insert_out}
use Rattle.log_state.proofs.Answers.{refused_says, passed-says}
use Rattle.log_calls.proofs.last_insert.Goals as goal

pub check-requires : goal.check-requires
check-requires c = fit_for _ c.format_for-f.ensures

pub returns-in-Err : goal.returns-in-Err
returns-in-Err c =
    let l = lent c.args.records.now c.args.texts.now c.args.log in
    says_in_format l (λ (F : Format). last_insert_call catalogue F l) c.format_for-f.ensures
    (c.refused.ensures
    ∙ refused_says c.format_for-f.result l c.in-Err.why
    ((checked catalogue c.format_for-f.result l) false)
    (last_insert_out (value_of catalogue c.format_for-f.result l)) c.in-Err.ensures.number)

pub last_insert-requires : goal.last_insert-requires
last_insert-requires c = record {
  fit = fit_for _ c.format_for-f.ensures;
  ready = c.in-Ok.ensures.ready;
  newest_at = c.in-Ok.ensures.newest;
}

pub returns : goal.returns
returns c =
    let l = lent c.args.records.now c.args.texts.now c.args.log in
    says_in_format l (λ (F : Format). last_insert_call catalogue F l) c.format_for-f.ensures
    (passed-says c.format_for-f.result l
    ((checked catalogue c.format_for-f.result l) false)
    (last_insert_out (value_of catalogue c.format_for-f.result l)) _ c.in-Ok.ensures.number
    c.last_insert.ensures)
