use native.Mathlib.Omega.{arith}
use mathlib.Core.Path.{sym, ap, ◌∙◌}
use Prim.Native.Nat.{◌≤◌}
use lib.ListN.{length, take}
use lib.Seq.{length-take-le}
use Rattle.repertoire.specs.Repertoire.{catalogue}
use Rattle.buffer.proofs.Inserted.{copied}
use Rattle.edit.specs.Calls.{lent}
use Rattle.edit.proofs.Answers.{length-kept, nine, ten}
use Rattle.edit.proofs.Parts.{part_length, raw_part}
use Rattle.edit_transpose.specs.WordPairs.{words_plan}
use Rattle.edit_transpose.proofs.Four.{words_long, words_short}
use Rattle.edit_transpose.proofs.FourRoom.{text-within, small1, small2}
use Rattle.edit_transpose.proofs.exchange_words.Goals as goal

pub overflow_sub-left : goal.overflow_sub-left
overflow_sub-left c =
    let a = c.args in
    omega (
      arith,
      (let z : a.w.end2 ≤ a.checked.line.len = omega
          (arith, c.requires.apart.second.1, (length-kept a.checked.format (lent a.text.now a.records.now a.texts.now a.checked.line a.checked.log) c.requires.ready)) in
          z),
    )

pub returns-then-text-left : goal.returns-then-text-left
returns-then-text-left c =
    let a = c.args in
    let l = lent a.text.now a.records.now a.texts.now a.checked.line a.checked.log in
    nine a.checked.format l (words_plan (take a.checked.line.len a.text.now) a.w) _
    (words_long catalogue (take a.checked.line.len a.text.now) c.requires.ready.text a.w c.requires.apart (length a.text.now)
    (text-within a.checked.format l c.requires.ready a.w c.requires.apart)
    (omega (arith, c.if-text-left.true, (length-kept a.checked.format l c.requires.ready), c.requires.ready.used))) c.refused.ensures

pub words_fit-requires : goal.words_fit-requires
words_fit-requires c =
    let a = c.args in
    let l = lent a.text.now a.records.now a.texts.now a.checked.line a.checked.log in
    record {
      ready = c.requires.ready;
      last_at = c.requires.last_at;
      apart = c.requires.apart;
      text_value = (words_short catalogue (take a.checked.line.len a.text.now) c.requires.ready.text a.w c.requires.apart (length a.text.now)
          (text-within a.checked.format l c.requires.ready a.w c.requires.apart)
          (omega (arith, c.if-text-left.false, (length-kept a.checked.format l c.requires.ready), c.requires.ready.used)));
    }

pub returns-then-not-words_fit : goal.returns-then-not-words_fit
returns-then-not-words_fit c =
    let a = c.args in
    let l = lent a.text.now a.records.now a.texts.now a.checked.line a.checked.log in
    ten a.checked.format l (words_plan (take a.checked.line.len a.text.now) a.w) _
    (words_short catalogue (take a.checked.line.len a.text.now) c.requires.ready.text a.w c.requires.apart (length a.text.now)
    (text-within a.checked.format l c.requires.ready a.w c.requires.apart)
    (omega (arith, c.if-text-left.false, (length-kept a.checked.format l c.requires.ready), c.requires.ready.used)))
    (sym c.words_fit.ensures ∙ c.if-not-words_fit.true) c.refused-then-not-words_fit.ensures

pub slice_bounds-insert_bytes-end-2 : goal.slice_bounds-insert_bytes-end-2
slice_bounds-insert_bytes-end-2 c =
    let a = c.args in
    omega (
      arith,
      (let z : a.w.end1 ≤ a.checked.line.len = omega
          (arith, c.requires.apart.first.1, (length-kept a.checked.format (lent a.text.now a.records.now a.texts.now a.checked.line a.checked.log) c.requires.ready)) in
          z),
      c.requires.ready.used,
    )

pub slice_bounds-insert_bytes-end-4 : goal.slice_bounds-insert_bytes-end-4
slice_bounds-insert_bytes-end-4 c =
    let a = c.args in
    omega (
      arith,
      (let z : a.w.end2 ≤ a.checked.line.len = omega
          (arith, c.requires.apart.second.1, (length-kept a.checked.format (lent a.text.now a.records.now a.texts.now a.checked.line a.checked.log) c.requires.ready)) in
          z),
      c.requires.ready.used,
    )

pub insert_bytes-requires-2 : goal.insert_bytes-requires-2
insert_bytes-requires-2 c =
    let a = c.args in
    let l = lent a.text.now a.records.now a.texts.now a.checked.line a.checked.log in (
      omega arith,
      omega (
        arith,
        (ap length
            (sym
            (raw_part a.text.now a.checked.line.len a.w.beg2 a.w.end2
            (let z : a.w.end2 ≤ a.checked.line.len = omega (arith, c.requires.apart.second.1, (length-kept a.checked.format l c.requires.ready)) in z)))
            ∙ part_length catalogue (take a.checked.line.len a.text.now) a.w.beg2 a.w.end2 c.requires.apart.second),
        small2 a.checked.format l c.requires.ready a.w c.requires.apart,
      ),
    )

pub slice_bounds-put_words-end : goal.slice_bounds-put_words-end
slice_bounds-put_words-end c =
    let a = c.args in
    sym
    (length-take-le _ _
    (omega (
      arith,
      c.insert_bytes.auto.s,
      small1 a.checked.format (lent a.text.now a.records.now a.texts.now a.checked.line a.checked.log) c.requires.ready a.w c.requires.apart,
    )))

pub slice_bounds-second-end : goal.slice_bounds-second-end
slice_bounds-second-end c =
    let a = c.args in
    omega (
      arith,
      c.insert_bytes-2.auto.s,
      small2 a.checked.format (lent a.text.now a.records.now a.texts.now a.checked.line a.checked.log) c.requires.ready a.w c.requires.apart,
    )

pub slice_bounds-put_words-end-2 : goal.slice_bounds-put_words-end-2
slice_bounds-put_words-end-2 c =
    let a = c.args in
    sym
    (length-take-le _ _
    (omega (
      arith,
      c.insert_bytes-2.auto.s,
      small2 a.checked.format (lent a.text.now a.records.now a.texts.now a.checked.line a.checked.log) c.requires.ready a.w c.requires.apart,
    )))

pub put_words-requires : goal.put_words-requires
put_words-requires c =
    let a = c.args in
    let l = lent a.text.now a.records.now a.texts.now a.checked.line a.checked.log in
    let length-kept1 = length-kept a.checked.format l c.requires.ready in
    let raw-part1 = raw_part a.text.now a.checked.line.len a.w.beg2 a.w.end2
    (let z : a.w.end2 ≤ a.checked.line.len = omega (arith, c.requires.apart.second.1, length-kept1) in z) in
    let raw-part2 = raw_part a.text.now a.checked.line.len a.w.beg1 a.w.end1
    (let z : a.w.end1 ≤ a.checked.line.len = omega (arith, c.requires.apart.first.1, length-kept1) in z) in
    record {
      ready = c.requires.ready;
      last_at = c.requires.last_at;
      apart = c.requires.apart;
      first_value = (copied _ _ _
          (sym
          (ap length (sym raw-part2)
          ∙ part_length catalogue (take a.checked.line.len a.text.now) a.w.beg1 a.w.end1 c.requires.apart.first))
          c.insert_bytes.ensures
          ∙ sym raw-part2);
      second_value = (copied _ _ _
          (sym
          (ap length (sym raw-part1)
          ∙ part_length catalogue (take a.checked.line.len a.text.now) a.w.beg2 a.w.end2 c.requires.apart.second))
          c.insert_bytes-2.ensures
          ∙ sym raw-part1);
      text_value = (words_short catalogue (take a.checked.line.len a.text.now) c.requires.ready.text a.w c.requires.apart
          (length a.text.now) (text-within a.checked.format l c.requires.ready a.w c.requires.apart)
          (omega (arith, c.if-text-left.false, length-kept1, c.requires.ready.used)));
      log_value = (sym c.words_fit.ensures ∙ c.if-not-words_fit.false);
    }
