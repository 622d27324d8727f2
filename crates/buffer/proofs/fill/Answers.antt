-- `fill` meets its contract: the part from `at` on is lent to the slice's own `fill`. Assumes nothing.
use Rattle.buffer.proofs.Shifts.{fill_law}
use Rattle.buffer.proofs.fill.Goals as goal

pub returns : goal.returns
returns c = let a = c.args in
    fill_law a.s.now c.fill.new.self a.at a.count a.b c.requires (c.fill.ensures.after (λ y e. e))
