use native.Mathlib.Omega.{arith}
use mathlib.Core.Path.{sym, ap, ◌∙◌}
use mathlib.Core.List.{List}
use Prim.Native.Nat.{ℕ, ◌≤◌}
use lib.ListN.{take}
use Rattle.repertoire.specs.Repertoire.{catalogue}
use Rattle.repertoire.specs.Text.{is_text}
use Rattle.cluster.specs.Clusters.{clusters_of}
use Rattle.log_model.specs.Recording.{is_single}
use Rattle.edit.specs.Calls.{lent}
use Rattle.edit.proofs.Answers.{length-kept}
use Rattle.edit.proofs.Parts.{part-text, raw_part}
use Rattle.edit_transpose.proofs.FourRoom.{in_range0, in_range1, in_range2, in_range3, four-room}
use Rattle.edit_transpose.proofs.words_fit.Goals as goal

pub slice_bounds-is_single-end : goal.slice_bounds-is_single-end
slice_bounds-is_single-end c =
    let a = c.args in
    omega (
      arith,
      (let z : a.w.end2 ≤ a.checked.line.len = omega
          (arith, c.requires.apart.second.1, (length-kept a.checked.format (lent a.text.now a.records.now a.texts.now a.checked.line a.checked.log) c.requires.ready)) in
          z),
      c.requires.ready.used,
    )

pub is_single-second-requires : goal.is_single-second-requires
is_single-second-requires c =
    let a = c.args in
    ap (is_text catalogue)
    (sym
    (raw_part a.text.now a.checked.line.len a.w.beg2 a.w.end2
    (let z : a.w.end2 ≤ a.checked.line.len = omega
    (arith, c.requires.apart.second.1, (length-kept a.checked.format (lent a.text.now a.records.now a.texts.now a.checked.line a.checked.log) c.requires.ready)) in
    z)))
    ∙ part-text catalogue (take a.checked.line.len a.text.now) a.w.beg2 a.w.end2 c.requires.apart.second c.requires.ready.text

pub slice_bounds-is_single-end-2 : goal.slice_bounds-is_single-end-2
slice_bounds-is_single-end-2 c =
    let a = c.args in
    omega (
      arith,
      (let z : a.w.end1 ≤ a.checked.line.len = omega
          (arith, c.requires.apart.first.1, (length-kept a.checked.format (lent a.text.now a.records.now a.texts.now a.checked.line a.checked.log) c.requires.ready)) in
          z),
      c.requires.ready.used,
    )

pub is_single-first-requires : goal.is_single-first-requires
is_single-first-requires c =
    let a = c.args in
    ap (is_text catalogue)
    (sym
    (raw_part a.text.now a.checked.line.len a.w.beg1 a.w.end1
    (let z : a.w.end1 ≤ a.checked.line.len = omega
    (arith, c.requires.apart.first.1, (length-kept a.checked.format (lent a.text.now a.records.now a.texts.now a.checked.line a.checked.log) c.requires.ready)) in
    z)))
    ∙ part-text catalogue (take a.checked.line.len a.text.now) a.w.beg1 a.w.end1 c.requires.apart.first c.requires.ready.text

pub room_cut-r1-requires : goal.room_cut-r1-requires
room_cut-r1-requires c =
    let a = c.args in
    record {
      fit = c.requires.ready.log.fit;
      from_le_to = c.requires.apart.second.0;
      in_range = in_range0 a.checked.format (lent a.text.now a.records.now a.texts.now a.checked.line a.checked.log) c.requires.ready a.w c.requires.apart
          c.requires.text_value _
          c.room_now-r0.ensures;
    }

pub overflow_sub-b : goal.overflow_sub-b
overflow_sub-b c = c.requires.apart.first.0

pub room_put-r2-requires : goal.room_put-r2-requires
room_put-r2-requires c =
    let a = c.args in
    let l = lent a.text.now a.records.now a.texts.now a.checked.line a.checked.log in
    record {
      fit = c.requires.ready.log.fit;
      in_range = in_range1 a.checked.format l c.requires.ready a.w c.requires.apart c.requires.text_value _ c.room_now-r0.ensures _
          (c.is_single-second.ensures
          ∙ ap (λ (x : List ℕ). is_single catalogue (clusters_of catalogue x))
          (sym
          (raw_part a.text.now a.checked.line.len a.w.beg2 a.w.end2
          (let z : a.w.end2 ≤ a.checked.line.len = omega (arith, c.requires.apart.second.1, (length-kept a.checked.format l c.requires.ready)) in z)))) _
          c.room_cut-r1.ensures;
    }

pub room_cut-r3-requires : goal.room_cut-r3-requires
room_cut-r3-requires c =
    let a = c.args in
    let l = lent a.text.now a.records.now a.texts.now a.checked.line a.checked.log in
    record {
      fit = c.requires.ready.log.fit;
      from_le_to = c.requires.apart.first.0;
      in_range = in_range2 a.checked.format l c.requires.ready a.w c.requires.apart c.requires.text_value _ c.room_now-r0.ensures _
          (c.is_single-second.ensures
          ∙ ap (λ (x : List ℕ). is_single catalogue (clusters_of catalogue x))
          (sym
          (raw_part a.text.now a.checked.line.len a.w.beg2 a.w.end2
          (let z : a.w.end2 ≤ a.checked.line.len = omega (arith, c.requires.apart.second.1, (length-kept a.checked.format l c.requires.ready)) in z)))) _
          c.room_cut-r1.ensures _ c.room_put-r2.ensures;
    }

pub overflow_sub-d : goal.overflow_sub-d
overflow_sub-d c = c.requires.apart.second.0

pub room_put-requires : goal.room_put-requires
room_put-requires c =
    let a = c.args in
    let l = lent a.text.now a.records.now a.texts.now a.checked.line a.checked.log in
    let length-kept1 = length-kept a.checked.format l c.requires.ready in
    record {
      fit = c.requires.ready.log.fit;
      in_range = in_range3 a.checked.format l c.requires.ready a.w c.requires.apart c.requires.text_value _ c.room_now-r0.ensures _
          (c.is_single-second.ensures
          ∙ ap (λ (x : List ℕ). is_single catalogue (clusters_of catalogue x))
          (sym
          (raw_part a.text.now a.checked.line.len a.w.beg2 a.w.end2
          (let z : a.w.end2 ≤ a.checked.line.len = omega (arith, c.requires.apart.second.1, length-kept1) in z)))) _
          c.room_cut-r1.ensures _ c.room_put-r2.ensures _
          (c.is_single-first.ensures
          ∙ ap (λ (x : List ℕ). is_single catalogue (clusters_of catalogue x))
          (sym
          (raw_part a.text.now a.checked.line.len a.w.beg1 a.w.end1
          (let z : a.w.end1 ≤ a.checked.line.len = omega (arith, c.requires.apart.first.1, length-kept1) in z)))) _ c.room_cut-r3.ensures;
    }

pub returns : goal.returns
returns c =
    let a = c.args in
    let l = lent a.text.now a.records.now a.texts.now a.checked.line a.checked.log in
    let length-kept1 = length-kept a.checked.format l c.requires.ready in
    c.is_ok.ensures.value ∙ four-room a.checked.format l c.requires.ready a.w c.requires.apart c.requires.text_value _ c.room_now-r0.ensures _
    (c.is_single-second.ensures
    ∙ ap (λ (x : List ℕ). is_single catalogue (clusters_of catalogue x))
    (sym
    (raw_part a.text.now a.checked.line.len a.w.beg2 a.w.end2
    (let z : a.w.end2 ≤ a.checked.line.len = omega (arith, c.requires.apart.second.1, length-kept1) in z)))) _ c.room_cut-r1.ensures _
    c.room_put-r2.ensures _
    (c.is_single-first.ensures
    ∙ ap (λ (x : List ℕ). is_single catalogue (clusters_of catalogue x))
    (sym
    (raw_part a.text.now a.checked.line.len a.w.beg1 a.w.end1
    (let z : a.w.end1 ≤ a.checked.line.len = omega (arith, c.requires.apart.first.1, length-kept1) in z)))) _ c.room_cut-r3.ensures _
    c.room_put.ensures
