use mathlib.Core.Path.{sym, ◌∙◌}
use native.Mathlib.Omega.{arith}
use borrow.Author.Tests.{not-true, not-false}
use Rattle.log_state.specs.Calls.{Lent, lent}
use Rattle.log_state.proofs.Passed.{sized, ready, says-sizes, says-foreign, says-damaged, says-passed}
use Rattle.log_state.proofs.check.Goals as goal
use Rattle.log_state.proofs.check.Goals.{Start}

abbrev lending : Start → Lent
lending s = lent s.args.records.now s.args.texts.now s.args.log

pub returns-then-over_sizes-clause-number : goal.returns-then-over_sizes-clause-number
returns-then-over_sizes-clause-number c =
    says-sizes c.args.f (lending (goal.at.returns-then-over_sizes-clause-number c).Start) c.args.foreign
    (sym c.over_sizes.ensures ∙ c.if-over_sizes.true)

pub returns-then-foreign-clause-number : goal.returns-then-foreign-clause-number
returns-then-foreign-clause-number c =
    says-foreign c.args.f (lending (goal.at.returns-then-foreign-clause-number c).Start) c.args.foreign
    (sym c.over_sizes.ensures ∙ c.if-over_sizes.false) c.if-foreign.true

pub look-requires-clause-records_in_bounds : goal.look-requires-clause-records_in_bounds
look-requires-clause-records_in_bounds c =
    let s = sized c.args.f (lending (goal.at.look-requires-clause-records_in_bounds c).Start)
    (sym c.over_sizes.ensures ∙ c.if-over_sizes.false) in
    (s.room, s.space)

pub returns-in-Some-clause-number : goal.returns-in-Some-clause-number
returns-in-Some-clause-number c =
    says-passed c.args.f (lending (goal.at.returns-in-Some-clause-number c).Start) c.args.foreign
    (sym c.over_sizes.ensures ∙ c.if-over_sizes.false) c.if-foreign.false (not-true _ (sym c.in-Some.ensures.sound))

pub returns-in-Some-clause-ready : goal.returns-in-Some-clause-ready
returns-in-Some-clause-ready c =
    ready c.args.f (lending (goal.at.returns-in-Some-clause-ready c).Start) (λ i. omega (arith, c.type_inv.records i)) c.requires
    (sym c.over_sizes.ensures ∙ c.if-over_sizes.false) (not-true _ (sym c.in-Some.ensures.sound))

pub returns-in-None-clause-number : goal.returns-in-None-clause-number
returns-in-None-clause-number c =
    says-damaged c.args.f (lending (goal.at.returns-in-None-clause-number c).Start) c.args.foreign
    (sym c.over_sizes.ensures ∙ c.if-over_sizes.false) c.if-foreign.false (not-false _ (sym c.in-None.ensures.sound))
