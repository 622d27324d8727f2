use Rattle.formats.specs.declared.Format.{Format}
use Rattle.formats.proofs.Formats.{fit_for}
use Rattle.checks.proofs.Refusals.{never-passes}
use Rattle.edit.specs.Calls.{lent}
use Rattle.edit.proofs.Formats.{in_format}
use Rattle.repertoire.specs.Repertoire.{catalogue}
use Rattle.edit_insert.specs.Inserts.{update_call}
use Rattle.edit_insert.proofs.Twice.{update-refused, new_suits, update-done}
use mathlib.Core.Path.{refl}
use Rattle.edit_insert.proofs.update.Goals as goal

pub admit-requires : goal.admit-requires
admit-requires c = fit_for _ c.format_for-f.ensures

pub returns-in-Err : goal.returns-in-Err
returns-in-Err c =
    let a = c.args in
    let l = lent a.text.now a.records.now a.texts.now a.line a.log in
    in_format l (λ (F : Format). update_call catalogue F l a.buf.now a.pos) c.format_for-f.ensures
    (update-refused c.format_for-f.result l a.buf.now a.pos _ c.check_text.result c.is_boundary.result c.in-Err.ensures.number
    c.check_text.ensures c.is_boundary.ensures.text (never-passes c.in-Err.why) _ c.refused.ensures)

pub cut_and_put-requires-clause-all_suit : goal.cut_and_put-requires-clause-all_suit
cut_and_put-requires-clause-all_suit c =
    let a = c.args in
    let l = lent a.text.now a.records.now a.texts.now a.line a.log in
    let passes = c.in-Ok.ensures.passes in
    rw passes.same
    (new_suits c.format_for-f.result l a.buf.now a.pos _ c.check_text.result c.is_boundary.result
    c.in-Ok.ensures.number c.check_text.ensures c.is_boundary.ensures.text refl passes.ready)

pub returns : goal.returns
returns c =
    let a = c.args in
    let l = lent a.text.now a.records.now a.texts.now a.line a.log in
    let passes = c.in-Ok.ensures.passes in
    in_format l (λ (F : Format). update_call catalogue F l a.buf.now a.pos) c.format_for-f.ensures
    (update-done c.format_for-f.result l a.buf.now a.pos _ c.check_text.result c.is_boundary.result
    c.in-Ok.ensures.number c.check_text.ensures c.is_boundary.ensures.text refl passes.ready _ _ _ _
    (rw passes.same at c.cut_and_put.ensures))
