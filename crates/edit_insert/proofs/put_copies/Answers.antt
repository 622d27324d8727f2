use mathlib.Core.Bool.{not}
use mathlib.Core.Bool.{false}
use Rattle.lists.proofs.Bools.{never}
use native.Mathlib.Omega.{arith}
use mathlib.Core.Path.{refl, sym, ◌∙◌, ap}
use lib.ListN.{length}
use Rattle.lists.proofs.Parts.{none_left}
use Rattle.repertoire.specs.Repertoire.{catalogue}
use Rattle.repertoire.proofs.Text.{text_nil}
use Rattle.buffer.specs.Edit.{copies}
use Rattle.buffer.proofs.Copies.{copies_length}
use Rattle.edit.specs.Calls.{lent}
use Rattle.edit.proofs.Answers.{cursor_in}
use Rattle.edit_insert.proofs.Copied.{product_fits}
use Rattle.edit_insert.proofs.Puts.{copies_long, copies-put}
use Rattle.edit_insert.proofs.InPlace.{copies_in_range, copies_full, new-text, copies-made}
use Rattle.edit_insert.proofs.put_copies.Goals as goal

pub overflow_mul-size : goal.overflow_mul-size
overflow_mul-size c =
    omega (arith, (product_fits (length c.args.s.now) c.args.n c.requires.s_len_bound.0 c.requires.s_len_bound.1))

pub returns-then-text-len : goal.returns-then-text-len
returns-then-text-len c =
    let a = c.args in
    copies_long a.checked.format (lent a.text.now a.records.now a.texts.now a.checked.line a.checked.log) c.requires.ready a.s.now a.n _ c.if-text-len.true
    c.refused.ensures

pub put_in-requires : goal.put_in-requires
put_in-requires c =
    let a = c.args in
    record {
      fit = c.requires.ready.log.fit;
      ready = c.requires.ready;
      in_text = cursor_in a.checked.format (lent a.text.now a.records.now a.texts.now a.checked.line a.checked.log) c.requires.ready;
      new_text = text_nil catalogue;
    }

pub returns-then-size-eq0 : goal.returns-then-size-eq0
returns-then-size-eq0 c =
    let a = c.args in
    copies-put a.checked.format (lent a.text.now a.records.now a.texts.now a.checked.line a.checked.log) _ _ _ _ _ _ a.s.now a.n
    (sym (none_left (copies a.n a.s.now) (copies_length a.n a.s.now ∙ c.if-size-eq0.true))) refl c.put_in.ensures

pub room_put-requires : goal.room_put-requires
room_put-requires c =
    let a = c.args in
    record {
      fit = c.requires.ready.log.fit;
      in_range = copies_in_range a.checked.format (lent a.text.now a.records.now a.texts.now a.checked.line a.checked.log) c.requires.ready a.s.now c.requires.s_value
          a.n
          c.if-text-len.false _ c.room_now-now.ensures;
    }

pub returns-then-is_err : goal.returns-then-is_err
returns-then-is_err c =
    let a = c.args in
    copies_full a.checked.format (lent a.text.now a.records.now a.texts.now a.checked.line a.checked.log) c.requires.ready a.s.now c.requires.s_value a.n
    c.if-text-len.false
    _ c.room_now-now.ensures _ c.room_put.ensures (c.is_err.ensures.negation ∙ ap not c.if-is_err.true) _ c.refused-then-is_err.ensures

pub insert_copies-requires : goal.insert_copies-requires
insert_copies-requires c = (c.requires.ready.within, omega (arith, c.if-text-len.false, c.requires.ready.used))

pub slice_bounds-record-end-2 : goal.slice_bounds-record-end-2
slice_bounds-record-end-2 c =
    omega (arith, c.insert_copies.auto.s, c.if-text-len.false, c.requires.ready.used, c.requires.ready.within)

pub record-a-requires : goal.record-a-requires
record-a-requires c =
    let a = c.args in
    record {
      fit = c.requires.ready.log.fit;
      ready = c.requires.ready.log;
      last_at = (λ e. never _ false e refl);
      numbered = record { kind = refl; place = refl; old = refl; new = refl };
      ok = new-text a.checked.format (lent a.text.now a.records.now a.texts.now a.checked.line a.checked.log) c.requires.ready a.s.now c.requires.s_value
          a.n c.if-text-len.false _ c.room_now-now.ensures _ c.room_put.ensures
          (c.is_err.ensures.negation ∙ ap not c.if-is_err.false) c.if-size-eq0.false _ c.insert_copies.ensures;
    }

pub overflow_add-made : goal.overflow_add-made
overflow_add-made c =
    omega (arith, c.if-text-len.false, c.requires.ready.used, c.requires.ready.limit, c.requires.ready.log.fit.text)

pub returns : goal.returns
returns c =
    let a = c.args in
    copies-made a.checked.format (lent a.text.now a.records.now a.texts.now a.checked.line a.checked.log) c.requires.ready a.s.now c.requires.s_value a.n
    c.if-text-len.false
    _ c.room_now-now.ensures _ c.room_put.ensures (c.is_err.ensures.negation ∙ ap not c.if-is_err.false) c.if-size-eq0.false _
    c.insert_copies.ensures _ _ _ c.record-a.ensures _ c.says.ensures
