use mathlib.Core.Path.{◌≡◌, refl, ◌∙◌}
use mathlib.Core.Bool.{true}
use Prim.Native.Nat.{◌-◌, ◌≤◌}
use lib.ListN.{length}
use Rattle.utf8.specs.Chars.{boundary}
use Rattle.repertoire.specs.Repertoire.{catalogue}
use Rattle.repertoire.specs.Text.{is_text}
use Rattle.formats.proofs.Formats.{fit_for}
use Rattle.checks.proofs.Refusals.{never-passes}
use Rattle.edit.specs.Calls.{lent, text_of}
use Rattle.edit.proofs.Called.{call_refused, call_made}
use Rattle.edit_insert.specs.Inserts.{yank_pop_plan}
use Rattle.edit_insert.proofs.Twice.{as_pop, pop_passed}
use Rattle.edit_insert.proofs.yank_pop.Goals.{In-Ok}
use Rattle.edit_insert.proofs.yank_pop.Goals as goal

pub admit-requires : goal.admit-requires
admit-requires c = fit_for _ c.format_for-f.ensures

pub returns-in-Err : goal.returns-in-Err
returns-in-Err c =
    let a = c.args in
    let l = lent a.text.now a.records.now a.texts.now a.line a.log in
    call_refused l _ (yank_pop_plan a.line.cursor a.size a.buf.now) c.format_for-f.ensures
    (as_pop c.format_for-f.result l a.size a.buf.now c.back-at.ensures c.in-Err.ensures.number c.check_text.ensures c.is_split-split.ensures)
    (never-passes c.in-Err.why) c.refused.ensures

-- ---- where the checks have passed
passed : (c : In-Ok)
    → let a = c.args in (is_text catalogue a.buf.now ≡ true)
    × (length a.buf.now ≤ length a.text.now) × (a.size ≤ a.line.cursor)
    × (boundary (text_of (lent a.text.now a.records.now a.texts.now a.line a.log)) (a.line.cursor - a.size) ≡ true)
passed c =
    let a = c.args in
    let l = lent a.text.now a.records.now a.texts.now a.line a.log in
    pop_passed c.format_for-f.result l a.size a.buf.now
    (as_pop c.format_for-f.result l a.size a.buf.now c.back-at.ensures c.in-Ok.ensures.number c.check_text.ensures c.is_split-split.ensures)

pub yank_pop_checked-requires-clause-buf_value : goal.yank_pop_checked-requires-clause-buf_value
yank_pop_checked-requires-clause-buf_value c = (passed (goal.at.yank_pop_checked-requires-clause-buf_value c).In-Ok).0

pub yank_pop_checked-requires-clause-buf_in_bounds : goal.yank_pop_checked-requires-clause-buf_in_bounds
yank_pop_checked-requires-clause-buf_in_bounds c = (passed (goal.at.yank_pop_checked-requires-clause-buf_in_bounds c).In-Ok).1

pub yank_pop_checked-requires-clause-size_le_cursor : goal.yank_pop_checked-requires-clause-size_le_cursor
yank_pop_checked-requires-clause-size_le_cursor c =
    rw c.in-Ok.ensures.passes.same (passed (goal.at.yank_pop_checked-requires-clause-size_le_cursor c).In-Ok).2

pub yank_pop_checked-requires-clause-size_value : goal.yank_pop_checked-requires-clause-size_value
yank_pop_checked-requires-clause-size_value c =
    rw c.in-Ok.ensures.passes.same (passed (goal.at.yank_pop_checked-requires-clause-size_value c).In-Ok).3

pub returns : goal.returns
returns c =
    let a = c.args in
    let l = lent a.text.now a.records.now a.texts.now a.line a.log in
    call_made l _ (yank_pop_plan a.line.cursor a.size a.buf.now) c.format_for-f.ensures
    (as_pop c.format_for-f.result l a.size a.buf.now c.back-at.ensures c.in-Ok.ensures.number c.check_text.ensures c.is_split-split.ensures)
    refl refl (rw c.in-Ok.ensures.passes.same at c.yank_pop_checked.ensures)
