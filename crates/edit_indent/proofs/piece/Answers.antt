use borrow.Author.Tests.{lt-ltb, le-ltb}
use Rattle.edit_indent.proofs.piece.Goals as goal

pub returns-then-m-lt32 : goal.returns-then-m-lt32
returns-then-m-lt32 c = simp (lt-ltb _ _ c.if-m-lt32.true)

pub returns-else-m-lt32 : goal.returns-else-m-lt32
returns-else-m-lt32 c = simp (le-ltb _ _ c.if-m-lt32.false)
