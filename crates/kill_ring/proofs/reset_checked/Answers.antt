use mathlib.Core.Path.{ap, ◌∙◌}
use Rattle.kill_ring.specs.Calls.{lent}
use Rattle.kill_ring.proofs.Answers.{alone, reset_left}
use Rattle.kill_ring.proofs.reset_checked.Goals as goal

pub returns : goal.returns
returns c =
    let a = c.args in
    c.says.ensures ∙ ap (alone 0) c.with_action.ensures ∙ reset_left (lent a.slots.now a.lens.now a.ring)
