use native.Mathlib.Omega.{arith}
use mathlib.Core.Path.{sym, ap, ◌∙◌}
use mathlib.Core.List.{List}
use Prim.Native.Nat.{ℕ, ◌≤◌}
use lib.ListN.{take}
use Rattle.repertoire.specs.Repertoire.{catalogue}
use Rattle.repertoire.specs.Text.{is_text}
use Rattle.cluster.specs.Clusters.{clusters_of}
use Rattle.log_model.specs.Recording.{is_single}
use Rattle.numbers.proofs.Read.{top_max}
use Rattle.edit.specs.Calls.{lent}
use Rattle.edit.proofs.Answers.{length-kept}
use Rattle.edit.proofs.Parts.{part-text, raw_part}
use Rattle.edit.proofs.Pair.{cut_suits, first_in_range, second_in_range, pair_room}
use Rattle.edit.proofs.pair_fits.Goals as goal

pub slice_bounds-is_single-count : goal.slice_bounds-is_single-count
slice_bounds-is_single-count c =
    let a = c.args in
    (cut_suits a.checked.format (lent a.text.now a.records.now a.texts.now a.checked.line a.checked.log) c.requires.ready a.from a.to a.at a.new.now
    c.requires.all_suit).0

pub slice_bounds-is_single-start : goal.slice_bounds-is_single-start
slice_bounds-is_single-start c =
    let a = c.args in
    (cut_suits a.checked.format (lent a.text.now a.records.now a.texts.now a.checked.line a.checked.log) c.requires.ready a.from a.to a.at a.new.now
    c.requires.all_suit).0

pub slice_bounds-is_single-end : goal.slice_bounds-is_single-end
slice_bounds-is_single-end c =
    let a = c.args in
    let l = lent a.text.now a.records.now a.texts.now a.checked.line a.checked.log in
    omega (
      arith,
      (let w : a.to ≤ a.checked.line.len = omega
          (arith, (cut_suits a.checked.format l c.requires.ready a.from a.to a.at a.new.now c.requires.all_suit).1, length-kept a.checked.format l c.requires.ready)
          in
          w),
      c.requires.ready.used,
    )

pub is_single-joins-requires : goal.is_single-joins-requires
is_single-joins-requires c =
    let a = c.args in
    let l = lent a.text.now a.records.now a.texts.now a.checked.line a.checked.log in
    let cut-suits1 = cut_suits a.checked.format l c.requires.ready a.from a.to a.at a.new.now c.requires.all_suit in
    ap (is_text catalogue)
    (sym
    (raw_part a.text.now a.checked.line.len a.from a.to
    (let w : a.to ≤ a.checked.line.len = omega (arith, cut-suits1.1, length-kept a.checked.format l c.requires.ready) in w)))
    ∙ part-text catalogue (take a.checked.line.len a.text.now) a.from a.to cut-suits1 c.requires.ready.text

pub room_cut-b-requires : goal.room_cut-b-requires
room_cut-b-requires c =
    let a = c.args in
    let l = lent a.text.now a.records.now a.texts.now a.checked.line a.checked.log in
    record {
      fit = c.requires.fit;
      from_le_to = (cut_suits a.checked.format l c.requires.ready a.from a.to a.at a.new.now c.requires.all_suit).0;
      in_range = first_in_range a.checked.format l c.requires.ready a.from a.to a.at a.new.now c.requires.all_suit
          (top_max a.checked.format.width c.requires.fit.width.most) _
          c.room_now-a.ensures;
    }

pub room_put-requires : goal.room_put-requires
room_put-requires c =
    let a = c.args in
    let l = lent a.text.now a.records.now a.texts.now a.checked.line a.checked.log in
    record {
      fit = c.requires.fit;
      in_range = second_in_range a.checked.format l c.requires.ready a.from a.to a.at a.new.now c.requires.all_suit
          (top_max a.checked.format.width c.requires.fit.width.most) _
          c.room_now-a.ensures _
          (c.is_single-joins.ensures
          ∙ ap (λ (x : List ℕ). is_single catalogue (clusters_of catalogue x))
          (sym
          (raw_part a.text.now a.checked.line.len a.from a.to
          (let w : a.to ≤ a.checked.line.len = omega
          (arith, (cut_suits a.checked.format l c.requires.ready a.from a.to a.at a.new.now c.requires.all_suit).1, length-kept a.checked.format l c.requires.ready)
          in
          w)))) _ c.room_cut-b.ensures c.requires.len_bound;
    }

pub returns : goal.returns
returns c =
    let a = c.args in
    let l = lent a.text.now a.records.now a.texts.now a.checked.line a.checked.log in
    c.is_ok.ensures.value ∙ pair_room a.checked.format l c.requires.ready a.from a.to a.at a.new.now c.requires.all_suit (top_max a.checked.format.width c.requires.fit.width.most) _
    c.room_now-a.ensures _
    (c.is_single-joins.ensures
    ∙ ap (λ (x : List ℕ). is_single catalogue (clusters_of catalogue x))
    (sym
    (raw_part a.text.now a.checked.line.len a.from a.to
    (let w : a.to ≤ a.checked.line.len = omega
    (arith, (cut_suits a.checked.format l c.requires.ready a.from a.to a.at a.new.now c.requires.all_suit).1, length-kept a.checked.format l c.requires.ready) in
    w)))) _ c.room_cut-b.ensures _ c.room_put.ensures
