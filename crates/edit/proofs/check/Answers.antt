use native.Mathlib.Omega.{arith}
use mathlib.Core.Path.{refl, sym, ◌∙◌}
use borrow.Author.Tests.{not-true, not-false}
use Rattle.std.proofs.lemmas.Result.{err_from_is_err_and}
use Rattle.checks.proofs.Refusals.{never-passes}
use Rattle.log_state.proofs.Passed.{sized}
use Rattle.edit.specs.Calls.{Lent, lent, log_lent}
use Rattle.edit.proofs.Numbers.{by_log-sizes, by_sizes, by_text, by_split, by_damage, by_none, ready}
use Rattle.edit.proofs.check.Goals as goal
use Rattle.edit.proofs.check.Goals.{Start}

abbrev lending : Start → Lent
lending s = lent s.args.text.now s.args.records.now s.args.texts.now s.args.line s.args.log

pub returns-then-over_sizes-clause-number : goal.returns-then-over_sizes-clause-number
returns-then-over_sizes-clause-number c =
    by_log-sizes c.args.f (lending (goal.at.returns-then-over_sizes-clause-number c).Start) c.args.o
    (sym c.over_sizes.ensures ∙ c.if-over_sizes.true)

pub returns-then-o-clause-number : goal.returns-then-o-clause-number
returns-then-o-clause-number c = by_sizes c.args.f (lending (goal.at.returns-then-o-clause-number c).Start) c.args.o c.if-o.true

pub returns-in_err-refusal_in-clause-number : goal.returns-in_err-refusal_in-clause-number
returns-in_err-refusal_in-clause-number c =
    let p = err_from_is_err_and c.from_residual.result c.from_residual.ensures.1 in
    rw (p.1, p.2)
    (by_text c.args.f (lending (goal.at.returns-in_err-refusal_in-clause-number c).Start) c.args.o
    (sym c.over_sizes.ensures ∙ c.if-over_sizes.false) c.if-o.false _ c.in_err-refusal_in.ensures (never-passes _))

pub returns-then-o-2-clause-number : goal.returns-then-o-2-clause-number
returns-then-o-2-clause-number c =
    by_split c.args.f (lending (goal.at.returns-then-o-2-clause-number c).Start) c.args.o (sym c.over_sizes.ensures ∙ c.if-over_sizes.false)
    c.if-o.false 0 c.in_ok-refusal_in.ensures refl c.if-o-2.true

pub look-requires-clause-records_in_bounds : goal.look-requires-clause-records_in_bounds
look-requires-clause-records_in_bounds c =
    let s = sized c.args.f (log_lent (lending (goal.at.look-requires-clause-records_in_bounds c).Start))
    (sym c.over_sizes.ensures ∙ c.if-over_sizes.false) in
    (s.room, s.space)

pub returns-in-Some-clause-number : goal.returns-in-Some-clause-number
returns-in-Some-clause-number c =
    by_none c.args.f (lending (goal.at.returns-in-Some-clause-number c).Start) c.args.o (sym c.over_sizes.ensures ∙ c.if-over_sizes.false)
    c.if-o.false 0 c.in_ok-refusal_in.ensures refl c.if-o-2.false (not-true _ (sym c.in-Some.ensures.sound))

pub returns-in-Some-clause-ready : goal.returns-in-Some-clause-ready
returns-in-Some-clause-ready c =
    ready c.args.f (lending (goal.at.returns-in-Some-clause-ready c).Start) c.args.o (sym c.over_sizes.ensures ∙ c.if-over_sizes.false)
    c.if-o.false 0 c.in_ok-refusal_in.ensures refl (λ i. omega (arith, c.type_inv.records i)) (not-true _ (sym c.in-Some.ensures.sound))
    c.requires

pub returns-in-None-clause-number : goal.returns-in-None-clause-number
returns-in-None-clause-number c =
    by_damage c.args.f (lending (goal.at.returns-in-None-clause-number c).Start) c.args.o (sym c.over_sizes.ensures ∙ c.if-over_sizes.false)
    c.if-o.false 0 c.in_ok-refusal_in.ensures refl c.if-o-2.false (not-false _ (sym c.in-None.ensures.sound))
