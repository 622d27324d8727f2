use Rattle.formats.specs.declared.Format.{Format}
use Rattle.formats.proofs.Formats.{fit_for}
use Rattle.checks.proofs.Refusals.{never-passes}
use Rattle.repertoire.specs.Repertoire.{catalogue}
use Rattle.edit.specs.Calls.{lent}
use Rattle.edit.proofs.Formats.{in_format}
use mathlib.Core.Path.{refl}
use Rattle.edit_range.specs.Ranges.{delete_range_call}
use Rattle.edit_range.proofs.Calls.{delete-refused, delete_in, delete-done}
use Rattle.edit_range.proofs.delete_range.Goals as goal

pub admit-requires : goal.admit-requires
admit-requires c = fit_for _ c.format_for-f.ensures

pub returns-in-Err : goal.returns-in-Err
returns-in-Err c =
    let a = c.args in
    let l = lent a.text.now a.records.now a.texts.now a.line a.log in
    in_format l (λ (F : Format). delete_range_call catalogue F l a.start a.end) c.format_for-f.ensures
    (delete-refused c.format_for-f.result l a.start a.end _ _ c.is_split.ensures c.is_split-2.ensures
    _ c.in-Err.ensures.number (never-passes c.in-Err.why) _ c.refused.ensures)

pub cut_out-requires-clause-in_text : goal.cut_out-requires-clause-in_text
cut_out-requires-clause-in_text c =
    let a = c.args in
    let l = lent a.text.now a.records.now a.texts.now a.line a.log in
    let passes = c.in-Ok.ensures.passes in
    rw passes.same
    (delete_in c.format_for-f.result l a.start a.end _ _ c.is_split.ensures c.is_split-2.ensures _ c.in-Ok.ensures.number refl passes.ready)

pub returns : goal.returns
returns c =
    let a = c.args in
    let l = lent a.text.now a.records.now a.texts.now a.line a.log in
    in_format l (λ (F : Format). delete_range_call catalogue F l a.start a.end) c.format_for-f.ensures
    (delete-done c.format_for-f.result l a.start a.end _ _ c.is_split.ensures c.is_split-2.ensures _
    c.in-Ok.ensures.number refl _ _ _ _ (rw c.in-Ok.ensures.passes.same at c.cut_out.ensures))
