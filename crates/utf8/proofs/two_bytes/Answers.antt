use Rattle.utf8.specs.Utf8.{two}
use lib.Bits.{and_mask}
use Rattle.utf8.proofs.two_bytes.Goals as goal
use Rattle.utf8.proofs.two_bytes.Goals.{else-between-via-then-between+else-is_tail, else-between-via-else-between}

pub returns-then-is_tail : goal.returns-then-is_tail
unfolding two
returns-then-is_tail c = simp (← c.between.ensures, c.if-between.true, ← c.is_tail.ensures, c.if-is_tail.true)
    (cc (and_mask c.args.a 5))

pub returns : goal.returns
unfolding two
returns c = elim c.else-between.branch [
  | else-between-via-then-between+else-is_tail w ↦ simp (← c.between.ensures, w.if-between.true, ← w.is_tail.ensures, w.if-is_tail.false)
  | else-between-via-else-between w ↦ simp (← c.between.ensures, w.if-between.false)
]
