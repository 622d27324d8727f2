use borrow.Author.Tests.{lt-ltb, le-ltb}
use Rattle.edit_indent.proofs.indented.Goals as goal

pub returns-then-pos-at : goal.returns-then-pos-at
returns-then-pos-at c = simp (lt-ltb _ _ c.if-pos-at.true)

pub returns-else-pos-at : goal.returns-else-pos-at
returns-else-pos-at c = simp (le-ltb _ _ c.if-pos-at.false)
