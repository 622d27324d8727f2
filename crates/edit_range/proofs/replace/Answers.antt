use native.Mathlib.Omega.{arith}
use Rattle.formats.specs.declared.Format.{Format}
use Rattle.formats.proofs.Formats.{fit_for}
use Rattle.checks.proofs.Refusals.{never-passes}
use Rattle.repertoire.specs.Repertoire.{catalogue}
use Rattle.edit.specs.Calls.{lent}
use Rattle.edit.proofs.Formats.{in_format}
use mathlib.Core.Path.{refl}
use Rattle.edit_range.specs.Ranges.{replace_call}
use Rattle.edit_range.proofs.Calls.{replace-refused, replace-places, replace-cursor, replace-texts, replace-done}
use Rattle.edit_range.proofs.replace.Goals as goal

pub admit-requires : goal.admit-requires
admit-requires c = fit_for _ c.format_for-f.ensures

pub returns-in-Err : goal.returns-in-Err
returns-in-Err c =
    let a = c.args in
    let l = lent a.text.now a.records.now a.texts.now a.line a.log in
    in_format l (λ (F : Format). replace_call catalogue F l a.start a.end a.buf.now) c.format_for-f.ensures
    (replace-refused c.format_for-f.result l a.start a.end _ _ c.is_split.ensures
    c.is_split-2.ensures a.buf.now _ c.check_text.ensures _ c.in-Err.ensures.number (never-passes c.in-Err.why) _ c.refused.ensures)

pub overflow_add-start : goal.overflow_add-start
overflow_add-start c =
    let a = c.args in
    omega (
      arith,
      replace-cursor c.format_for-f.result (lent a.text.now a.records.now a.texts.now a.line a.log) a.start a.end _ _
          c.is_split.ensures c.is_split-2.ensures a.buf.now _ c.check_text.ensures _ c.in-Ok.ensures.number refl
          c.in-Ok.ensures.passes.ready,
    )

pub change-requires-clause-from_le_to : goal.change-requires-clause-from_le_to
change-requires-clause-from_le_to c =
    let a = c.args in
    let l = lent a.text.now a.records.now a.texts.now a.line a.log in
    let passes = c.in-Ok.ensures.passes in
    rw passes.same
    (replace-places c.format_for-f.result l a.start a.end _ _ c.is_split.ensures c.is_split-2.ensures a.buf.now _ c.check_text.ensures _
    c.in-Ok.ensures.number refl passes.ready)

pub change-requires-clause-ok : goal.change-requires-clause-ok
change-requires-clause-ok c =
    let a = c.args in
    let l = lent a.text.now a.records.now a.texts.now a.line a.log in
    let passes = c.in-Ok.ensures.passes in
    rw passes.same
    (replace-texts c.format_for-f.result l a.start a.end _ _ c.is_split.ensures c.is_split-2.ensures a.buf.now _ c.check_text.ensures _
    c.in-Ok.ensures.number refl passes.ready)

pub returns : goal.returns
returns c =
    let a = c.args in
    let l = lent a.text.now a.records.now a.texts.now a.line a.log in
    let passes = c.in-Ok.ensures.passes in
    in_format l (λ (F : Format). replace_call catalogue F l a.start a.end a.buf.now) c.format_for-f.ensures
    (replace-done c.format_for-f.result l a.start a.end _ _ c.is_split.ensures c.is_split-2.ensures
    a.buf.now _ c.check_text.ensures _ c.in-Ok.ensures.number refl passes.ready _ _ _ _ (rw passes.same at c.change.ensures))
