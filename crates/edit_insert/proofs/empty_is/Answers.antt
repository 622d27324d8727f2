use Rattle.edit_insert.proofs.Twice.{empty-one, empty-zero}
use Rattle.edit_insert.proofs.empty_is.Goals as goal

pub returns-then-s-eq0 : goal.returns-then-s-eq0
returns-then-s-eq0 c = empty-one c.args.s.now c.if-s-eq0.true

pub returns : goal.returns
returns c = empty-zero c.args.s.now c.if-s-eq0.false
