use native.Mathlib.Omega.{arith}
use mathlib.Core.Path.{sym, ap, ◌∙◌}
use lib.Seq.{length-take-le}
use Rattle.repertoire.specs.Repertoire.{catalogue}
use Rattle.log_model.specs.Recording.{note}
use Rattle.numbers.proofs.Read.{top_max}
use Rattle.log_state.specs.Outcomes.{record_out}
use Rattle.log_state.specs.Calls.{lent, sizes_of, says, value_of, edit_of}
use Rattle.log_state.proofs.Answers.{answered_as}
use Rattle.log_state.proofs.Recorded.{full_texts, in_range, full_records, full_place, size_fits, at-fits, takes}
use Rattle.log_state.proofs.Log.record.Goals as goal

pub overflow_sub-space : goal.overflow_sub-space
overflow_sub-space c = omega (arith, c.requires.ready.hold.space)

pub returns-then-space-old : goal.returns-then-space-old
returns-then-space-old c =
    let a = c.args in
    let l = lent a.records.now a.texts.now a.self in
    let valueOf1 = value_of catalogue a.f l in
    let editOf1 = edit_of a.kind a.place a.old.now a.new.now in
    answered_as a.f l (record_out a.f (sizes_of l) (note a.joins editOf1 valueOf1.undo) valueOf1) _ _ _ _ c.refused.ensures
    (full_texts a.f l c.requires.ready a.joins a.kind a.place a.old.now a.new.now editOf1 c.requires.numbered c.requires.ok
    (omega (arith, c.if-space-old.true, c.requires.ready.hold.space)))

pub returns-then-space-old-2 : goal.returns-then-space-old-2
returns-then-space-old-2 c =
    let a = c.args in
    let l = lent a.records.now a.texts.now a.self in
    let valueOf1 = value_of catalogue a.f l in
    let editOf1 = edit_of a.kind a.place a.old.now a.new.now in
    answered_as a.f l (record_out a.f (sizes_of l) (note a.joins editOf1 valueOf1.undo) valueOf1) _ _ _ _ c.refused-then-space-old-2.ensures
    (full_texts a.f l c.requires.ready a.joins a.kind a.place a.old.now a.new.now editOf1 c.requires.numbered c.requires.ok
    (omega (arith, c.if-space-old-2.true, c.if-space-old.false, c.requires.ready.hold.space)))

pub slice_bounds-tail_for-end-2 : goal.slice_bounds-tail_for-end-2
slice_bounds-tail_for-end-2 c = sym (length-take-le _ _ (omega (arith, c.requires.ready.hold.room)))

pub tail_for-tail-requires : goal.tail_for-tail-requires
tail_for-tail-requires c = record { fit = c.requires.fit; last_at = c.requires.last_at }

pub note-n-requires : goal.note-n-requires
note-n-requires c =
    let a = c.args in
    record {
      fit = c.requires.fit;
      in_range = in_range a.f (lent a.records.now a.texts.now a.self) c.requires.ready a.joins a.kind a.place a.old.now a.new.now
          (edit_of a.kind a.place a.old.now a.new.now) c.requires.numbered c.requires.ok c.tail_for-tail.result c.tail_for-tail.ensures
          (omega (arith, c.if-space-old.false, c.if-space-old-2.false, c.requires.ready.hold.space))
          (omega (arith, c.requires.ready.fit.lengths))
          (top_max _ c.requires.fit.width.most);
    }

pub returns-then-records-n : goal.returns-then-records-n
returns-then-records-n c =
    let a = c.args in
    let l = lent a.records.now a.texts.now a.self in
    let valueOf1 = value_of catalogue a.f l in
    let editOf1 = edit_of a.kind a.place a.old.now a.new.now in
    answered_as a.f l (record_out a.f (sizes_of l) (note a.joins editOf1 valueOf1.undo) valueOf1) _ _ _ _ c.refused-then-records-n.ensures
    (full_records a.f l c.requires.ready a.joins a.kind a.place a.old.now a.new.now editOf1 c.requires.numbered c.requires.ok
    c.tail_for-tail.result c.tail_for-tail.ensures c.note-n.result c.note-n.ensures c.if-records-n.true)

pub top_of-requires : goal.top_of-requires
top_of-requires c = c.requires.fit.width.most

pub returns-then-top_of-n : goal.returns-then-top_of-n
returns-then-top_of-n c =
    let a = c.args in
    let l = lent a.records.now a.texts.now a.self in
    let valueOf1 = value_of catalogue a.f l in
    let editOf1 = edit_of a.kind a.place a.old.now a.new.now in
    answered_as a.f l (record_out a.f (sizes_of l) (note a.joins editOf1 valueOf1.undo) valueOf1) _ _ _ _ c.refused-then-top_of-n.ensures
    (full_place a.f l c.requires.ready a.joins a.kind a.place a.old.now a.new.now editOf1 c.requires.numbered c.requires.ok
    c.tail_for-tail.result c.tail_for-tail.ensures c.note-n.result c.note-n.ensures
    (omega (arith, c.top_of.ensures, c.if-top_of-n.true)))

pub write_noted-requires : goal.write_noted-requires
write_noted-requires c =
    let a = c.args in
    let editOf1 = edit_of a.kind a.place a.old.now a.new.now in
    let l = lent a.records.now a.texts.now a.self in
    record {
      fit = c.requires.fit;
      kind_bound = (
        size_fits a.f l c.requires.ready a.joins a.kind a.place a.old.now a.new.now editOf1 c.requires.numbered
            c.requires.ok c.tail_for-tail.result c.tail_for-tail.ensures c.note-n.result
            c.note-n.ensures,
        c.if-records-n.false,
      );
      at_le_used = (
        at-fits a.f l c.requires.ready a.joins a.kind a.place a.old.now a.new.now editOf1 c.requires.numbered
            c.requires.ok c.tail_for-tail.result c.tail_for-tail.ensures c.note-n.result
            c.note-n.ensures,
        (omega (arith, c.if-space-old.false, c.if-space-old-2.false, c.requires.ready.hold.space)),
      );
    }

pub returns : goal.returns
returns c =
    let a = c.args in
    let l = lent a.records.now a.texts.now a.self in
    let valueOf1 = value_of catalogue a.f l in
    let editOf1 = edit_of a.kind a.place a.old.now a.new.now in
    answered_as a.f l (record_out a.f (sizes_of l) (note a.joins editOf1 valueOf1.undo) valueOf1) _ _ _ _
    (c.says.ensures ∙ ap (says 0) c.only_undo.ensures)
    (takes a.f l c.requires.ready a.joins a.kind a.place a.old.now a.new.now editOf1 c.requires.numbered c.requires.ok
    c.tail_for-tail.result c.tail_for-tail.ensures c.note-n.result c.note-n.ensures
    c.write_noted.new.records c.write_noted.new.texts
    (omega (arith, c.if-space-old.false, c.if-space-old-2.false, c.requires.ready.hold.space)) c.if-records-n.false
    (omega (arith, c.top_of.ensures, c.if-top_of-n.false)) c.write_noted.ensures
    c.write_noted.auto.texts)
