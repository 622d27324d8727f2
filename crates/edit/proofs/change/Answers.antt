use native.Mathlib.Omega.{arith}
use mathlib.Core.Path.{sym, ap, ◌∙◌}
use Prim.Native.Nat.{◌-◌}
use lib.ListN.{length, take, drop}
use Rattle.lists.specs.Lists.{part}
use Rattle.repertoire.specs.Repertoire.{catalogue}
use Rattle.log_state.specs.declared.Log.{Log}
use Rattle.log_state.specs.Calls.{edit_of}
use Rattle.edit.specs.Plan.{change_out}
use Rattle.edit.specs.Calls.{lent, sizes_of, state_of, says}
use Rattle.edit.proofs.Parts.{raw_part}
use Rattle.edit.proofs.Made.{is-blank, blank-by, too_long, unrecorded, no_room, made, numbered_as, ok_as, logged_as, edited_as}
use Rattle.edit.proofs.change.Goals as goal

pub overflow_sub-left : goal.overflow_sub-left
overflow_sub-left c = c.requires.from_le_to.0

pub overflow_sub-left-2 : goal.overflow_sub-left-2
overflow_sub-left-2 c = omega (arith, c.requires.from_le_to.0, c.requires.from_le_to.1)

pub overflow_sub-text : goal.overflow_sub-text
overflow_sub-text c = omega (arith, c.requires.from_le_to.0, c.requires.from_le_to.1, c.requires.ready.used)

pub returns-then-text-left : goal.returns-then-text-left
returns-then-text-left c =
    let a = c.args in
    let editOf1 = edit_of a.kind a.from (part (take a.checked.line.len a.text.now) a.from a.to) a.new.now in
    let l = lent a.text.now a.records.now a.texts.now a.checked.line a.checked.log in
    edited_as a.checked.format l (change_out a.checked.format (sizes_of l) (length a.text.now) a.joins editOf1 a.cursor (state_of catalogue a.checked.format l)) _ _ _ _ _
    c.refused.ensures
    (too_long a.checked.format l c.requires.ready a.joins editOf1 a.kind a.from a.to a.new.now a.cursor c.requires.numbered c.requires.from_le_to.0
    c.requires.from_le_to.1 c.if-text-left.true)

pub returns-then-ne-from : goal.returns-then-ne-from
returns-then-ne-from c =
    let a = c.args in
    let editOf1 = edit_of a.kind a.from (part (take a.checked.line.len a.text.now) a.from a.to) a.new.now in
    let l = lent a.text.now a.records.now a.texts.now a.checked.line a.checked.log in
    edited_as a.checked.format l (change_out a.checked.format (sizes_of l) (length a.text.now) a.joins editOf1 a.cursor (state_of catalogue a.checked.format l)) _ _ _ _ _
    (c.says.ensures ∙ ap (λ (g : Log). says 0 (record { len = a.checked.line.len; cursor = a.cursor }) g) c.drop_redo.ensures)
    (unrecorded a.checked.format l c.requires.ready a.joins editOf1 a.kind a.from a.to a.new.now a.cursor c.requires.numbered c.requires.from_le_to.0
    c.requires.from_le_to.1 c.if-text-left.false
    (sym
    (is-blank a.checked.format l c.requires.ready a.joins editOf1 a.kind a.from a.to a.new.now a.cursor c.requires.numbered c.requires.from_le_to.0
    c.requires.from_le_to.1)
    ∙ blank-by _ _ c.ne.ensures ∙ c.if-ne-from.true))

pub slice_bounds-record-count : goal.slice_bounds-record-count
slice_bounds-record-count c = c.requires.from_le_to.0

pub slice_bounds-record-start : goal.slice_bounds-record-start
slice_bounds-record-start c = c.requires.from_le_to.0

pub slice_bounds-record-end : goal.slice_bounds-record-end
slice_bounds-record-end c = omega (arith, c.requires.from_le_to.1, c.requires.ready.used)

pub record-a-requires : goal.record-a-requires
record-a-requires c =
    let a = c.args in
    let l = lent a.text.now a.records.now a.texts.now a.checked.line a.checked.log in
    let raw-part1 = raw_part a.text.now a.checked.line.len a.from a.to c.requires.from_le_to.1 in
    let take1 = take (a.to - a.from) (drop a.from a.text.now) in
    let part1 = part (take a.checked.line.len a.text.now) a.from a.to in
    record {
      fit = c.requires.fit;
      ready = c.requires.ready.log;
      last_at = c.requires.last_at;
      numbered = numbered_as a.checked.format l a.joins a.kind a.from a.new.now part1 take1 raw-part1 c.requires.numbered;
      ok = ok_as a.checked.format l a.joins a.kind a.from a.new.now part1 take1 raw-part1 c.requires.ok;
    }

pub returns-then-a-ne0 : goal.returns-then-a-ne0
returns-then-a-ne0 c =
    let a = c.args in
    let part1 = part (take a.checked.line.len a.text.now) a.from a.to in
    let editOf1 = edit_of a.kind a.from part1 a.new.now in
    let l = lent a.text.now a.records.now a.texts.now a.checked.line a.checked.log in
    edited_as a.checked.format l (change_out a.checked.format (sizes_of l) (length a.text.now) a.joins editOf1 a.cursor (state_of catalogue a.checked.format l)) _ _ _ _ _
    c.refused-then-a-ne0.ensures
    (no_room a.checked.format l c.requires.ready a.joins editOf1 a.kind a.from a.to a.new.now a.cursor c.requires.numbered c.requires.from_le_to.0
    c.requires.from_le_to.1 c.if-text-left.false
    (sym
    (is-blank a.checked.format l c.requires.ready a.joins editOf1 a.kind a.from a.to a.new.now a.cursor c.requires.numbered c.requires.from_le_to.0
    c.requires.from_le_to.1)
    ∙ blank-by _ _ c.ne.ensures ∙ c.if-ne-from.false) c.record-a.result _ _
    (logged_as a.checked.format l a.joins a.kind a.from a.new.now (take (a.to - a.from) (drop a.from a.text.now)) part1
    (sym (raw_part a.text.now a.checked.line.len a.from a.to c.requires.from_le_to.1)) c.record-a.result c.record-a.new.records
    c.record-a.new.texts c.record-a.ensures) c.if-a-ne0.true)

pub cut_bytes-requires : goal.cut_bytes-requires
cut_bytes-requires c = (c.requires.from_le_to.0, (c.requires.from_le_to.1, c.requires.ready.used))

pub insert_bytes-requires : goal.insert_bytes-requires
insert_bytes-requires c = (
  omega (arith, c.requires.from_le_to.0, c.requires.from_le_to.1),
  omega (arith, c.if-text-left.false, c.cut_bytes.auto.s, c.requires.from_le_to.0, c.requires.from_le_to.1, c.requires.ready.used),
)

pub overflow_add-left : goal.overflow_add-left
overflow_add-left c =
    omega (
      arith,
      c.if-text-left.false,
      c.requires.ready.limit,
      c.requires.ready.log.fit.text,
      c.requires.ready.used,
      c.requires.from_le_to.0,
      c.requires.from_le_to.1,
    )

pub returns : goal.returns
returns c =
    let a = c.args in
    let part1 = part (take a.checked.line.len a.text.now) a.from a.to in
    let editOf1 = edit_of a.kind a.from part1 a.new.now in
    let l = lent a.text.now a.records.now a.texts.now a.checked.line a.checked.log in
    edited_as a.checked.format l (change_out a.checked.format (sizes_of l) (length a.text.now) a.joins editOf1 a.cursor (state_of catalogue a.checked.format l)) _ _ _ _ _
    c.says-2.ensures
    (made a.checked.format l c.requires.ready a.joins editOf1 a.kind a.from a.to a.new.now a.cursor c.requires.numbered c.requires.from_le_to.0
    c.requires.from_le_to.1 c.if-text-left.false
    (sym
    (is-blank a.checked.format l c.requires.ready a.joins editOf1 a.kind a.from a.to a.new.now a.cursor c.requires.numbered c.requires.from_le_to.0
    c.requires.from_le_to.1)
    ∙ blank-by _ _ c.ne.ensures ∙ c.if-ne-from.false) c.record-a.result _ _
    (logged_as a.checked.format l a.joins a.kind a.from a.new.now (take (a.to - a.from) (drop a.from a.text.now)) part1
    (sym (raw_part a.text.now a.checked.line.len a.from a.to c.requires.from_le_to.1)) c.record-a.result c.record-a.new.records
    c.record-a.new.texts c.record-a.ensures) c.if-a-ne0.false c.cut_bytes.new.s _
    c.cut_bytes.ensures c.insert_bytes.ensures)
