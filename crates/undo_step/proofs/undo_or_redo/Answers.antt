use native.Mathlib.Omega.{arith}
use mathlib.Core.Path.{sym, subst}
use mathlib.Core.Bool.{Bool}
use lib.ListN.{length}
use Rattle.undo_step.proofs.TakesAndPuts.{TakesAndPuts, Within, within, unmoved, stops_at, out_within, left-within, moves}
use Rattle.undo_step.proofs.undo_or_redo.Goals as goal
use Rattle.undo_step.proofs.undo_or_redo.Goals.{Joined-back, then-back, else-back}

-- what the record, undone or redone, takes out and puts in
takes-and-puts : (c : Joined-back) → TakesAndPuts c.args.back
    c.args.r c.args.t c.if-back.out c.if-back.from c.if-back.to
takes-and-puts c =
    let a = c.args in
    elim c.if-back.branch [
      | then-back w ↦ subst (λ (b : Bool). TakesAndPuts b a.r a.t c.if-back.out c.if-back.from c.if-back.to) (sym w.if-back.true)
          (w.out-is, w.from-is, w.to-is)
      | else-back w ↦ subst (λ (b : Bool). TakesAndPuts b a.r a.t c.if-back.out c.if-back.from c.if-back.to) (sym w.if-back.false)
          (w.out-is, w.from-is, w.to-is)
    ]

-- it lies in the texts
inside : (c : Joined-back) → Within c.if-back.out c.if-back.from c.if-back.to (length c.args.texts.now)
inside c = let a = c.args in
    within a.back a.r a.t c.if-back.out c.if-back.from c.if-back.to (length a.texts.now) (takes-and-puts c) c.requires.number_value.3

pub returns-in_default : goal.returns-in_default
returns-in_default c =
    let a = c.args in
    λ F x h. unmoved a.r a.texts.now a.t a.s a.text.now c.requires.number_value.1 c.requires.number_value.0 a.back F x h c.in_default.not-Edit

pub overflow_sub-put : goal.overflow_sub-put
overflow_sub-put c = (inside (goal.at.overflow_sub-put c).Joined-back).order

pub slice_bounds-exchange-count : goal.slice_bounds-exchange-count
slice_bounds-exchange-count c = (inside (goal.at.slice_bounds-exchange-count c).Joined-back).order

pub slice_bounds-exchange-start : goal.slice_bounds-exchange-start
slice_bounds-exchange-start c = (inside (goal.at.slice_bounds-exchange-start c).Joined-back).order

pub slice_bounds-exchange-end : goal.slice_bounds-exchange-end
slice_bounds-exchange-end c = (inside (goal.at.slice_bounds-exchange-end c).Joined-back).last

pub exchange-requires : goal.exchange-requires
exchange-requires c = record {
  len_in_bounds = (
    c.requires.number_value.1,
    c.requires.number_value.2,
    omega (arith, (inside (goal.at.exchange-requires c).Joined-back).taken, c.requires.number_value.4),
  );
  text_value = c.requires.text_value;
}

pub overflow_sub-result : goal.overflow_sub-result
overflow_sub-result c =
    let a = c.args in
    let w = inside (goal.at.overflow_sub-result c).Joined-back in
    out_within a.r a.texts.now a.t a.s a.text.now c.requires.number_value.1 c.if-back.out c.if-back.from c.if-back.to
    c.exchange.result _ w c.exchange.ensures _ c.in-Ok.is

pub overflow_add-result : goal.overflow_add-result
overflow_add-result c =
    let a = c.args in
    let w = inside (goal.at.overflow_add-result c).Joined-back in
    let l = left-within a.r a.texts.now a.t a.s a.text.now c.requires.number_value.1 c.if-back.out c.if-back.from c.if-back.to
    c.exchange.result _ w c.exchange.ensures _ c.in-Ok.is in
    omega (arith, l)

pub overflow_add-result-in-Ok : goal.overflow_add-result-in-Ok
overflow_add-result-in-Ok c =
    omega (arith, (inside (goal.at.overflow_add-result-in-Ok c).Joined-back).last, c.requires.number_value.2, c.requires.number_value.4)

pub returns-in-Ok : goal.returns-in-Ok
returns-in-Ok c =
    let here = goal.at.returns-in-Ok c in
    let a = c.args in
    λ F x h. moves a.r a.texts.now a.t a.s a.text.now c.requires.number_value.1 c.if-back.out c.if-back.from c.if-back.to
    c.exchange.result _ (inside here.Joined-back) c.exchange.ensures _ c.in-Ok.is a.back F x h _ c.in-Edit.is
    (takes-and-puts here.Joined-back)

pub returns-in-Err : goal.returns-in-Err
returns-in-Err c =
    let here = goal.at.returns-in-Err c in
    let a = c.args in
    λ F x h. stops_at a.r a.texts.now a.t a.s a.text.now c.requires.number_value.1 c.if-back.out c.if-back.from c.if-back.to
    c.exchange.result _ (inside here.Joined-back) c.exchange.ensures a.back F x h _ c.in-Edit.is
    (takes-and-puts here.Joined-back) _ c.in-Err.is
