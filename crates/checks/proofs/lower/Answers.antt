use Rattle.checks.proofs.LowerNumbers.{only_first, second_less, first-least}
use Rattle.checks.proofs.lower.Goals as goal

pub returns-then-b-eq0 : goal.returns-then-b-eq0
returns-then-b-eq0 c = only_first _ _ c.if-b-eq0.true

pub returns-then-b-a : goal.returns-then-b-a
returns-then-b-a c = second_less _ _ c.if-b-eq0.false c.if-b-a.true

pub returns-else-b-a : goal.returns-else-b-a
returns-else-b-a c = first-least _ _ c.if-a-eq0.false c.if-b-a.false
