use native.Mathlib.Omega.{arith}
use mathlib.Core.Path.{sym, ◌∙◌}
use mathlib.Core.List.{[], ◌∷◌}
use Prim.Native.Nat.{◌≤◌}
use Rattle.edit.specs.Plan.{cutting, pasted}
use Rattle.edit.specs.Calls.{lent}
use Rattle.edit.proofs.Answers.{length-kept, nine, ten}
use Rattle.edit.proofs.Pair.{cut_suits, pair_long, pair_short, pair_mid, pair_made}
use Rattle.edit.proofs.Underway.{next_suits}
use Rattle.edit.proofs.cut_and_put.Goals as goal

pub overflow_sub-left : goal.overflow_sub-left
overflow_sub-left c =
    let a = c.args in
    (cut_suits a.checked.format (lent a.text.now a.records.now a.texts.now a.checked.line a.checked.log) c.requires.ready a.from a.to a.at a.new.now
    c.requires.all_suit).0

pub overflow_sub-left-2 : goal.overflow_sub-left-2
overflow_sub-left-2 c =
    let a = c.args in
    let l = lent a.text.now a.records.now a.texts.now a.checked.line a.checked.log in
    let cut-suits1 = cut_suits a.checked.format l c.requires.ready a.from a.to a.at a.new.now c.requires.all_suit in
    omega (arith, (let w : a.to ≤ a.checked.line.len = omega (arith, cut-suits1.1, length-kept a.checked.format l c.requires.ready) in w), cut-suits1.0)

pub returns-then-text-left : goal.returns-then-text-left
returns-then-text-left c =
    let a = c.args in
    let l = lent a.text.now a.records.now a.texts.now a.checked.line a.checked.log in
    nine a.checked.format l
    (record { changes = cutting a.from a.to ∷ pasted a.at a.new.now ∷ []; cursor = a.cursor; number = a.number; from = 0; to = 0 }) _
    (pair_long a.checked.format l c.requires.ready a.from a.to a.at a.new.now c.requires.all_suit c.if-text-left.true) c.refused.ensures

pub pair_fits-requires : goal.pair_fits-requires
pair_fits-requires c = record {
  fit = c.requires.fit;
  ready = c.requires.ready;
  last_at = c.requires.last_at;
  all_suit = c.requires.all_suit;
  len_bound = omega (arith, c.if-text-left.false, c.requires.ready.limit);
}

pub returns-then-not-pair_fits : goal.returns-then-not-pair_fits
returns-then-not-pair_fits c =
    let a = c.args in
    let l = lent a.text.now a.records.now a.texts.now a.checked.line a.checked.log in
    ten a.checked.format l
    (record { changes = cutting a.from a.to ∷ pasted a.at a.new.now ∷ []; cursor = a.cursor; number = a.number; from = 0; to = 0 }) _
    (pair_short a.checked.format l c.requires.ready a.from a.to a.at a.new.now c.requires.all_suit c.if-text-left.false)
    (sym c.pair_fits.ensures ∙ c.if-not-pair_fits.true) c.refused-then-not-pair_fits.ensures

pub cut_out-a-requires : goal.cut_out-a-requires
cut_out-a-requires c =
    let a = c.args in
    record {
      fit = c.requires.fit;
      ready = c.requires.ready;
      in_text = cut_suits a.checked.format (lent a.text.now a.records.now a.texts.now a.checked.line a.checked.log) c.requires.ready a.from a.to a.at a.new.now
          c.requires.all_suit;
      last_at = (λ e. c.requires.last_at);
    }

pub put_in-b-requires : goal.put_in-b-requires
put_in-b-requires c =
    let a = c.args in
    let l = lent a.text.now a.records.now a.texts.now a.checked.line a.checked.log in
    let pair-mid1 = pair_mid a.checked.format l c.requires.ready a.from a.to a.at a.new.now c.requires.all_suit a.cursor a.number
    (pair_short a.checked.format l c.requires.ready a.from a.to a.at a.new.now c.requires.all_suit c.if-text-left.false)
    (sym c.pair_fits.ensures ∙ c.if-not-pair_fits.false) _ _ _ _ c.cut_out-a.ensures
    c.cut_out-a.auto.text c.cut_out-a.auto.records c.cut_out-a.auto.texts in
    let next-suits1 = next_suits a.checked.format l
    (record { changes = cutting a.from a.to ∷ pasted a.at a.new.now ∷ []; cursor = a.cursor; number = a.number; from = 0; to = 0 })
    (pasted a.at a.new.now) [] _ pair-mid1 in
    record {
      fit = c.requires.fit;
      ready = pair-mid1.ready;
      in_text = next-suits1.0;
      new_text = next-suits1.1;
    }

pub returns : goal.returns
returns c =
    let a = c.args in
    let l = lent a.text.now a.records.now a.texts.now a.checked.line a.checked.log in
    pair_made a.checked.format l c.requires.ready a.from a.to a.at a.new.now c.requires.all_suit a.cursor a.number
    (pair_short a.checked.format l c.requires.ready a.from a.to a.at a.new.now c.requires.all_suit c.if-text-left.false)
    (sym c.pair_fits.ensures ∙ c.if-not-pair_fits.false) _ _ _ _ c.cut_out-a.ensures
    c.cut_out-a.auto.text c.cut_out-a.auto.records c.cut_out-a.auto.texts _ _ _ _ c.put_in-b.ensures
    c.put_in-b.auto.text c.put_in-b.auto.records c.put_in-b.auto.texts
