use Rattle.slip_calls.proofs.Places.{line-ended}
use Rattle.slip_calls.proofs.line_end.Goals as goal

pub returns : goal.returns
returns c =
    let a = c.args in
    line-ended a.filled a.next _ c.filled_to.ensures
