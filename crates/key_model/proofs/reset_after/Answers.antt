use mathlib.Core.Path.{ap, ◌∙◌}
use Rattle.kill_ring.specs.declared.AnswerAndRing.{AnswerAndRing}
use Rattle.key_model.specs.Contract.{with_ring}
use Rattle.key_model.proofs.RingLeft.{ring_stays, ring_goes_on}
use Rattle.key_model.proofs.reset_after.Goals as goal

pub returns-then-a-gt1 : goal.returns-then-a-gt1
returns-then-a-gt1 c =
    let a = c.args in
    c.with_ring.ensures ∙ ring_stays a.a _ a.ring c.if-a-gt1.true

pub returns : goal.returns
returns c =
    let a = c.args in
    c.with_ring-2.ensures
    ∙ ap (λ (b : AnswerAndRing). with_ring a.a b.ring) c.reset_checked-b.ensures
    ∙ ring_goes_on a.a _ a.ring c.if-a-gt1.false
