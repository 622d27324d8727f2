use native.Mathlib.Omega.{arith}
use mathlib.Core.Path.{◌≡◌, refl, sym, ap, ◌∙◌}
use mathlib.Core.Bool.{Bool, true, false, not}
use mathlib.Core.List.{List}
use borrow.Author.Tests.{not-false}
use Rattle.lists.proofs.Bools.{never}
use Rattle.repertoire.specs.Repertoire.{catalogue}
use Rattle.repertoire.specs.Text.{is_text}
use Rattle.formats.specs.declared.Format.{Format}
use Rattle.formats.proofs.Formats.{fit_for}
use Rattle.log_model.specs.Change.{Change}
use Rattle.log_model.specs.Recording.{record_insert_str}
use Rattle.log_model.proofs.Recording.{insert_none, insert_some}
use Rattle.log_state.specs.Calls.{Lent, lent, checked, says}
use Rattle.log_state.proofs.Passed.{own-passed}
use Rattle.log_calls.proofs.Recorded.{an_insert, call_refused_by, call_dropped, call_recorded}
use Rattle.log_calls.proofs.insert_str.Goals as goal
use Rattle.log_calls.proofs.insert_str.Goals.{After-check, In-Ok}

-- ---- where the check is made: the format, what is lent, what is recorded, and the number
abbrev format : After-check → Format
format c = c.format_for-f.result

abbrev lending : After-check → Lent
lending c = lent c.args.records.now c.args.texts.now c.args.log

abbrev recorded : After-check → List Change → List Change
recorded c = record_insert_str c.args.idx c.args.buf.now

same : (c : After-check) → checked catalogue c.format_for-f.result (lending c) (not c.check_text.result) ≡
    checked catalogue c.format_for-f.result (lending c)
    (not (is_text catalogue c.args.buf.now))
same c = ap (λ (b : Bool). checked catalogue c.format_for-f.result (lending c) (not b)) c.check_text.ensures

-- the checks pass
passed : (c : In-Ok) → 0 ≡ checked catalogue c.format_for-f.result (lent c.args.records.now c.args.texts.now c.args.log)
    (not (is_text catalogue c.args.buf.now))
passed c = c.in-Ok.ensures.number ∙ same (goal.at.In-Ok c).After-check

is-text : (c : In-Ok) → is_text catalogue c.args.buf.now ≡ true
is-text c = not-false _ (own-passed c.format_for-f.result (lent c.args.records.now c.args.texts.now c.args.log) _ (sym (passed c)))

pub check-requires : goal.check-requires
check-requires c = fit_for _ c.format_for-f.ensures

pub returns-in-Err : goal.returns-in-Err
returns-in-Err c =
    let here = goal.at.returns-in-Err c in
    call_refused_by (lending here.After-check) _ (recorded here.After-check)
    c.format_for-f.ensures c.in-Err.why (c.in-Err.ensures.number ∙ same here.After-check) c.refused.ensures

pub returns-then-buf-eq0 : goal.returns-then-buf-eq0
returns-then-buf-eq0 c =
    let here = goal.at.returns-then-buf-eq0 c in
    call_dropped (lending here.After-check) _ (recorded here.After-check)
    c.format_for-f.ensures (passed here.In-Ok)
    c.in-Ok.ensures.ready (insert_none c.args.idx _ c.args.buf.now c.if-buf-eq0.true)
    (c.says.ensures ∙ ap (says 0) c.drop_redo.ensures)

pub record-requires : goal.record-requires
record-requires c = record {
  fit = fit_for _ c.format_for-f.ensures;
  ready = c.in-Ok.ensures.ready;
  last_at = (λ e. never _ false e refl);
  numbered = an_insert c.args.idx c.args.buf.now;
  ok = is-text (goal.at.record-requires c).In-Ok;
}

pub returns : goal.returns
returns c =
    let here = goal.at.returns c in
    call_recorded (lending here.After-check) _ (recorded here.After-check) c.format_for-f.ensures
    (passed here.In-Ok)
    (insert_some c.args.idx _ c.args.buf.now (omega (arith, c.if-buf-eq0.false))) c.record.ensures
