use Rattle.formats.proofs.Formats.{fit_for}
use Rattle.edit.specs.Calls.{lent}
use Rattle.edit_insert.proofs.Calls.{as_char, char-passed}
use Rattle.edit_insert.proofs.insert.Goals as goal

pub admit-requires : goal.admit-requires
admit-requires c = fit_for _ c.format_for-f.ensures

pub insert_checked-requires-clause-ch_value : goal.insert_checked-requires-clause-ch_value
insert_checked-requires-clause-ch_value c =
    let a = c.args in
    let l = lent a.text.now a.records.now a.texts.now a.line a.log in
    char-passed c.format_for-f.result l a.ch (as_char c.format_for-f.result l a.ch c.in-Ok.ensures.number c.check_char.ensures)
