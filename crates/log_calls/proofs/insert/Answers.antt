use native.Mathlib.Omega.{arith}
use mathlib.Core.Path.{◌≡◌, sym, ap, ◌∙◌}
use mathlib.Core.Bool.{Bool, true, not}
use mathlib.Core.List.{List}
use lib.ListN.{take}
use lib.Seq.{length-take-le}
use borrow.Author.Tests.{not-false}
use Rattle.repertoire.specs.Repertoire.{catalogue}
use Rattle.repertoire.specs.Text.{is_char, is_text}
use Rattle.repertoire.proofs.Typed.{typed-text, typed-some, typed-within, typed-bytes}
use Rattle.utf8.specs.Encode.{encode}
use Rattle.formats.specs.declared.Format.{Format}
use Rattle.formats.proofs.Formats.{fit_for}
use Rattle.log_model.specs.Change.{Change}
use Rattle.log_model.specs.Recording.{record_insert}
use Rattle.log_records.proofs.Walks.{newest_last}
use Rattle.log_state.specs.Calls.{Lent, lent, checked}
use Rattle.log_state.proofs.Passed.{own-passed}
use Rattle.log_calls.proofs.Recorded.{an_insert, insert-is, call_refused_by, call_recorded}
use Rattle.log_calls.proofs.insert.Goals as goal
use Rattle.log_calls.proofs.insert.Goals.{After-check, After-unwrap-n, In-Ok}

-- ---- where the check is made: the format, what is lent, what is recorded, and the number
abbrev format : After-check → Format
format c = c.format_for-f.result

abbrev lending : After-check → Lent
lending c = lent c.args.records.now c.args.texts.now c.args.log

abbrev recorded : After-check → List Change → List Change
recorded c = record_insert catalogue c.args.idx c.args.ch

same : (c : After-check) → checked catalogue c.format_for-f.result (lending c) (not c.check_char.result) ≡ checked catalogue c.format_for-f.result (lending c)
    (not (is_char catalogue c.args.ch))
same c = ap (λ (b : Bool). checked catalogue c.format_for-f.result (lending c) (not b)) c.check_char.ensures

-- the checks pass
passed : (c : In-Ok) → 0 ≡ checked catalogue c.format_for-f.result (lent c.args.records.now c.args.texts.now c.args.log)
    (not (is_char catalogue c.args.ch))
passed c = c.in-Ok.ensures.number ∙ same (goal.at.In-Ok c).After-check

is-char : (c : In-Ok) → is_char catalogue c.args.ch ≡ true
is-char c = not-false _ (own-passed c.format_for-f.result (lent c.args.records.now c.args.texts.now c.args.log) _ (sym (passed c)))

-- the character's bytes
typed : (c : After-unwrap-n) → take c.unwrap-n.result c.encode_at.new.out ≡ encode c.args.ch
typed c = typed-bytes _ (is-char (goal.at.After-unwrap-n c).In-Ok) _ c.encode_at.new.out c.encode_at.result (omega arith)
    c.encode_at.ensures c.unwrap-n.result c.unwrap-n.ensures

pub check-requires : goal.check-requires
check-requires c = fit_for _ c.format_for-f.ensures

pub returns-in-Err : goal.returns-in-Err
returns-in-Err c =
    let here = goal.at.returns-in-Err c in
    call_refused_by (lending here.After-check) _ (recorded here.After-check)
    c.format_for-f.ensures c.in-Err.why (c.in-Err.ensures.number ∙ same here.After-check) c.refused.ensures

pub unwrap-n-requires : goal.unwrap-n-requires
unwrap-n-requires c =
    typed-some _ (is-char (goal.at.unwrap-n-requires c).In-Ok) _ c.encode_at.new.out c.encode_at.result (omega arith)
    c.encode_at.ensures

pub slice_bounds-buf-end : goal.slice_bounds-buf-end
slice_bounds-buf-end c =
    typed-within _ (is-char (goal.at.slice_bounds-buf-end c).In-Ok) _ c.encode_at.new.out c.encode_at.result (omega arith)
    c.encode_at.ensures c.unwrap-n.result c.unwrap-n.ensures

pub slice_bounds-s-end : goal.slice_bounds-s-end
slice_bounds-s-end c = sym
    (length-take-le _ _
    (typed-within _ (is-char (goal.at.slice_bounds-s-end c).In-Ok) _ c.encode_at.new.out c.encode_at.result (omega arith)
    c.encode_at.ensures c.unwrap-n.result c.unwrap-n.ensures))

pub record-requires : goal.record-requires
record-requires c =
    let here = goal.at.record-requires c in
    record {
      fit = fit_for _ c.format_for-f.ensures;
      ready = c.in-Ok.ensures.ready;
      last_at = (λ e. newest_last catalogue (format here.After-check) _ _ c.in-Ok.ensures.newest);
      numbered = an_insert c.args.idx _;
      ok = ap (is_text catalogue) (typed here.After-unwrap-n) ∙ typed-text _
          (is-char here.In-Ok);
    }

pub returns : goal.returns
returns c =
    let here = goal.at.returns c in
    call_recorded (lending here.After-check) _ (recorded here.After-check) c.format_for-f.ensures
    (passed here.In-Ok)
    (insert-is c.args.idx c.args.ch _ _ _ c.is_alnum.ensures (typed here.After-unwrap-n)) c.record.ensures
