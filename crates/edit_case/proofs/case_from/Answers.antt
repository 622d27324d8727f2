use native.Mathlib.Omega.{arith}
use mathlib.Core.Path.{sym, ap, ◌∙◌}
use Prim.Native.Nat.{◌≤◌}
use lib.ListN.{length, take}
use lib.Seq.{length-take-le}
use Rattle.repertoire.specs.Repertoire.{catalogue}
use Rattle.edit.specs.Calls.{lent}
use Rattle.edit.proofs.Answers.{length-kept}
use Rattle.edit.proofs.Parts.{part_length, raw_part}
use Rattle.edit.proofs.Stored.{take_within}
use Rattle.edit_case.specs.EditWord.{in_case}
use Rattle.edit_case.proofs.Recased.{word_in, recased_suits, recased}
use Rattle.edit_case.proofs.case_from.Goals as goal

pub slice_bounds-words_on-end-2 : goal.slice_bounds-words_on-end-2
slice_bounds-words_on-end-2 c = sym (length-take-le _ _ c.requires.ready.used)

pub slice_bounds-write_case-count : goal.slice_bounds-write_case-count
slice_bounds-write_case-count c =
    let a = c.args in
    (word_in a.checked.format (lent a.text.now a.records.now a.texts.now a.checked.line a.checked.log) c.requires.ready a.from c.requires.in_text c.words_on-to.result
    c.words_on-to.ensures).0

pub slice_bounds-write_case-start : goal.slice_bounds-write_case-start
slice_bounds-write_case-start c =
    let a = c.args in
    (word_in a.checked.format (lent a.text.now a.records.now a.texts.now a.checked.line a.checked.log) c.requires.ready a.from c.requires.in_text c.words_on-to.result
    c.words_on-to.ensures).0

pub slice_bounds-write_case-end : goal.slice_bounds-write_case-end
slice_bounds-write_case-end c =
    let a = c.args in
    let l = lent a.text.now a.records.now a.texts.now a.checked.line a.checked.log in
    omega (
      arith,
      (let w : c.words_on-to.result ≤ a.checked.line.len = omega (
        arith,
        (word_in a.checked.format l c.requires.ready a.from c.requires.in_text c.words_on-to.result c.words_on-to.ensures).1,
        (length-kept a.checked.format l c.requires.ready),
      ) in
          w),
      c.requires.ready.used,
    )

pub write_case-n-requires : goal.write_case-n-requires
write_case-n-requires c =
    let a = c.args in
    let l = lent a.text.now a.records.now a.texts.now a.checked.line a.checked.log in
    let word-in1 = word_in a.checked.format l c.requires.ready a.from c.requires.in_text c.words_on-to.result c.words_on-to.ensures in
    let length-kept1 = length-kept a.checked.format l c.requires.ready in
    record {
      s_in_bounds = omega (
        arith,
        (ap length
            (sym
            (raw_part a.text.now a.checked.line.len a.from c.words_on-to.result
            (let w : c.words_on-to.result ≤ a.checked.line.len = omega (arith, word-in1.1, length-kept1) in w)))
            ∙ part_length catalogue (take a.checked.line.len a.text.now) a.from c.words_on-to.result word-in1),
        (let w : c.words_on-to.result ≤ a.checked.line.len = omega (arith, word-in1.1, length-kept1) in w),
        c.requires.ready.used,
        c.requires.ready.limit,
        c.requires.ready.log.fit.text,
      );
      out_len_bound = omega arith;
    }

pub overflow_add-behind : goal.overflow_add-behind
overflow_add-behind c =
    let a = c.args in
    let l = lent a.text.now a.records.now a.texts.now a.checked.line a.checked.log in
    let word-in1 = word_in a.checked.format l c.requires.ready a.from c.requires.in_text c.words_on-to.result c.words_on-to.ensures in
    omega (
      arith,
      (take_within c.write_case-n.result _
          (sym (c.write_case-n.ensures.counted ∙ ap length (sym c.write_case-n.ensures.bytes)))),
      c.write_case-n.auto.out,
      (let w : c.words_on-to.result ≤ a.checked.line.len = omega (arith, word-in1.1, (length-kept a.checked.format l c.requires.ready)) in w),
      word-in1.0,
      c.requires.ready.used,
      c.requires.ready.limit,
      c.requires.ready.log.fit.text,
    )

pub slice_bounds-word-end : goal.slice_bounds-word-end
slice_bounds-word-end c = (take_within c.write_case-n.result _
    (sym (c.write_case-n.ensures.counted ∙ ap length (sym c.write_case-n.ensures.bytes))))

pub slice_bounds-cut_and_put-end : goal.slice_bounds-cut_and_put-end
slice_bounds-cut_and_put-end c = sym
    (length-take-le _ _
    (take_within c.write_case-n.result _
    (sym (c.write_case-n.ensures.counted ∙ ap length (sym c.write_case-n.ensures.bytes)))))

pub cut_and_put-requires : goal.cut_and_put-requires
cut_and_put-requires c =
    let a = c.args in
    let l = lent a.text.now a.records.now a.texts.now a.checked.line a.checked.log in
    record {
      fit = c.requires.ready.log.fit;
      ready = c.requires.ready;
      last_at = c.requires.last_at;
      all_suit = recased_suits a.checked.format l c.requires.ready a.from c.requires.in_text c.words_on-to.result c.words_on-to.ensures
          a.action _
          (c.write_case-n.ensures.bytes
          ∙ ap (in_case catalogue a.action)
          (sym
          (raw_part a.text.now a.checked.line.len a.from c.words_on-to.result
          (let w : c.words_on-to.result ≤ a.checked.line.len = omega (
            arith,
            (word_in a.checked.format l c.requires.ready a.from c.requires.in_text c.words_on-to.result c.words_on-to.ensures).1,
            (length-kept a.checked.format l c.requires.ready),
          ) in
          w))));
    }

pub returns : goal.returns
returns c =
    let a = c.args in
    let l = lent a.text.now a.records.now a.texts.now a.checked.line a.checked.log in
    recased a.checked.format l c.requires.ready a.from c.requires.in_text c.words_on-to.result c.words_on-to.ensures a.action _
    (c.write_case-n.ensures.bytes
    ∙ ap (in_case catalogue a.action)
    (sym
    (raw_part a.text.now a.checked.line.len a.from c.words_on-to.result
    (let w : c.words_on-to.result ≤ a.checked.line.len = omega (
      arith,
      (word_in a.checked.format l c.requires.ready a.from c.requires.in_text c.words_on-to.result c.words_on-to.ensures).1,
      (length-kept a.checked.format l c.requires.ready),
    ) in
    w)))) _ (c.write_case-n.ensures.counted ∙ ap length (sym c.write_case-n.ensures.bytes)) _ _ _ _
    c.cut_and_put.ensures
