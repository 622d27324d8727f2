use mathlib.Core.Path.{◌∙◌}
use Rattle.key_model.proofs.RingLeft.{ring_stays, ring_goes_on}
use Rattle.key_yank.proofs.yanked.Goals as goal

pub returns-then-a-gt1 : goal.returns-then-a-gt1
returns-then-a-gt1 c =
    let a = c.args in
    c.with_ring.ensures ∙ ring_stays a.a a.given a.was c.if-a-gt1.true

pub returns : goal.returns
returns c =
    let a = c.args in
    c.with_ring-2.ensures ∙ ring_goes_on a.a a.given a.was c.if-a-gt1.false
