use mathlib.Core.Bool.{false}
use Rattle.formats.proofs.Formats.{fit_for}
use Rattle.edit.specs.Calls.{lent}
use Rattle.edit_insert.proofs.Calls.{as_text, text-passed}
use Rattle.edit_insert.proofs.yank.Goals as goal

pub admit-requires : goal.admit-requires
admit-requires c = fit_for _ c.format_for-f.ensures

pub yank_checked-requires-clause-buf_value : goal.yank_checked-requires-clause-buf_value
yank_checked-requires-clause-buf_value c =
    let a = c.args in
    let l = lent a.text.now a.records.now a.texts.now a.line a.log in
    (text-passed c.format_for-f.result l a.buf.now false false
    (as_text c.format_for-f.result l a.buf.now false false c.in-Ok.ensures.number c.check_text.ensures)).0

pub yank_checked-requires-clause-buf_in_bounds : goal.yank_checked-requires-clause-buf_in_bounds
yank_checked-requires-clause-buf_in_bounds c =
    let a = c.args in
    let l = lent a.text.now a.records.now a.texts.now a.line a.log in
    (text-passed c.format_for-f.result l a.buf.now false false
    (as_text c.format_for-f.result l a.buf.now false false c.in-Ok.ensures.number c.check_text.ensures)).1
