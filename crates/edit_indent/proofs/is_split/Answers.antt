use mathlib.Core.Path.{sym, ◌∙◌}
use lib.Seq.{length-take-le}
use Rattle.checks.proofs.Refusals.{passes, refuses}
use Rattle.edit_indent.proofs.Calls.{text-used, text-fit, lines-in, lines_end, raw_valid, tested, untried}
use Rattle.edit_indent.proofs.is_split.Goals as goal

pub returns-then-not-dedent : goal.returns-then-not-dedent
returns-then-not-dedent c =
    let a = c.args in
    λ z. untried a.f a.text.now a.line a.m a.amount a.dedent c.if-not-dedent.true

pub returns-then-is_err : goal.returns-then-is_err
returns-then-is_err c = λ z. absurd (refuses _ (sym c.is_err.ensures.value ∙ c.if-is_err.true) (c.refusal_in.ensures ∙ z))

pub slice_bounds-touched-end : goal.slice_bounds-touched-end
slice_bounds-touched-end c =
    let a = c.args in
    let z = passes _ (sym c.is_err.ensures.value ∙ c.if-is_err.false) in
    sym (length-take-le _ _ (text-used a.f a.text.now a.line a.m a.amount c.refusal_in.ensures z))

pub touched-r-requires : goal.touched-r-requires
touched-r-requires c =
    let a = c.args in
    let z = passes _ (sym c.is_err.ensures.value ∙ c.if-is_err.false) in
    text-fit a.f a.text.now a.line a.m a.amount c.refusal_in.ensures z

pub slice_bounds-splits-count : goal.slice_bounds-splits-count
slice_bounds-splits-count c =
    let a = c.args in
    let z = passes _ (sym c.is_err.ensures.value ∙ c.if-is_err.false) in
    (lines-in a.f a.text.now a.line a.m a.amount c.refusal_in.ensures z c.touched-r.result
    c.touched-r.ensures).0

pub slice_bounds-splits-start : goal.slice_bounds-splits-start
slice_bounds-splits-start c =
    let a = c.args in
    let z = passes _ (sym c.is_err.ensures.value ∙ c.if-is_err.false) in
    (lines-in a.f a.text.now a.line a.m a.amount c.refusal_in.ensures z c.touched-r.result
    c.touched-r.ensures).0

pub slice_bounds-splits-end : goal.slice_bounds-splits-end
slice_bounds-splits-end c =
    let a = c.args in
    let z = passes _ (sym c.is_err.ensures.value ∙ c.if-is_err.false) in
    lines_end a.f a.text.now a.line a.m a.amount c.refusal_in.ensures z c.touched-r.result
    c.touched-r.ensures

pub splits-requires : goal.splits-requires
splits-requires c =
    let a = c.args in
    let z = passes _ (sym c.is_err.ensures.value ∙ c.if-is_err.false) in
    raw_valid a.f a.text.now a.line a.m a.amount c.refusal_in.ensures z c.touched-r.result
    c.touched-r.ensures

pub returns : goal.returns
returns c =
    let a = c.args in
    let z = passes _ (sym c.is_err.ensures.value ∙ c.if-is_err.false) in
    λ _. tested a.f a.text.now a.line a.m a.amount c.refusal_in.ensures z c.touched-r.result
    c.touched-r.ensures c.splits.result a.dedent c.if-not-dedent.false c.splits.ensures
