use mathlib.Core.Path.{◌≡◌, sym, ap₂, ◌∙◌}
use mathlib.Core.Bool.{Bool, not, ◌||◌}
use mathlib.Core.List.{List}
use Rattle.repertoire.specs.Repertoire.{catalogue}
use Rattle.repertoire.specs.Text.{is_text}
use Rattle.formats.specs.declared.Format.{Format}
use Rattle.formats.proofs.Formats.{fit_for}
use Rattle.log_model.specs.Change.{Change}
use Rattle.log_model.specs.Recording.{record_replace}
use Rattle.log_records.proofs.Walks.{newest_last}
use Rattle.log_state.specs.Calls.{Lent, lent, checked}
use Rattle.log_state.proofs.Passed.{own-passed}
use Rattle.log_calls.proofs.Recorded.{a_replace, neither, replace-is, call_refused_by, call_recorded}
use Rattle.log_calls.proofs.replace.Goals as goal
use Rattle.log_calls.proofs.replace.Goals.{After-check}

-- ---- where the check is made: the format, what is lent, what is recorded, and the number
abbrev format : After-check → Format
format c = c.format_for-f.result

abbrev lending : After-check → Lent
lending c = lent c.args.records.now c.args.texts.now c.args.log

abbrev recorded : After-check → List Change → List Change
recorded c = record_replace c.args.idx c.args.old.now c.args.new.now

abbrev foreign : After-check → Bool
foreign c = not (is_text catalogue c.args.old.now) || not (is_text catalogue c.args.new.now)

same : (c : After-check) → checked catalogue c.format_for-f.result (lending c) (not c.check_text.result || not c.check_text-2.result) ≡
    checked catalogue c.format_for-f.result (lending c) (foreign c)
same c =
    ap₂ (λ (a b : Bool). checked catalogue c.format_for-f.result (lending c) (not a || not b)) c.check_text.ensures c.check_text-2.ensures

pub check-requires : goal.check-requires
check-requires c = fit_for _ c.format_for-f.ensures

pub returns-in-Err : goal.returns-in-Err
returns-in-Err c =
    let here = goal.at.returns-in-Err c in
    call_refused_by (lending here.After-check) _ (recorded here.After-check)
    c.format_for-f.ensures c.in-Err.why (c.in-Err.ensures.number ∙ same here.After-check) c.refused.ensures

pub record-requires : goal.record-requires
record-requires c =
    let here = goal.at.record-requires c in
    let a = c.args in
    record {
      fit = fit_for _ c.format_for-f.ensures;
      ready = c.in-Ok.ensures.ready;
      last_at = (λ e. newest_last catalogue (format here.After-check) _ _
          c.in-Ok.ensures.newest);
      numbered = a_replace a.idx a.old.now a.new.now;
      ok = neither (is_text catalogue a.old.now) (is_text catalogue a.new.now)
          (own-passed (format here.After-check) (lending here.After-check)
          (foreign here.After-check) (sym (c.in-Ok.ensures.number ∙ same here.After-check)));
    }

pub returns : goal.returns
returns c =
    let here = goal.at.returns c in
    let a = c.args in
    call_recorded (lending here.After-check) _ (recorded here.After-check) c.format_for-f.ensures
    (c.in-Ok.ensures.number ∙ same here.After-check)
    (replace-is a.idx a.old.now a.new.now _) c.record.ensures
