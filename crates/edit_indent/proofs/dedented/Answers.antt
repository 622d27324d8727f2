use borrow.Author.Tests.{lt-ltb, le-ltb}
use Rattle.edit_indent.proofs.dedented.Goals as goal

pub returns-then-pos-at : goal.returns-then-pos-at
returns-then-pos-at c = simp (lt-ltb _ _ c.if-pos-at.true)

pub returns-then-pos-at-2 : goal.returns-then-pos-at-2
returns-then-pos-at-2 c = simp (le-ltb _ _ c.if-pos-at.false, lt-ltb _ _ c.if-pos-at-2.true)

pub returns-else-pos-at-2 : goal.returns-else-pos-at-2
returns-else-pos-at-2 c = simp (le-ltb _ _ c.if-pos-at.false, le-ltb _ _ c.if-pos-at-2.false)
