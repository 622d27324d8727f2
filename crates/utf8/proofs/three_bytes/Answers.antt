use Rattle.utf8.specs.Utf8.{three}
use lib.Bits.{and_mask}
use Rattle.utf8.proofs.three_bytes.Goals as goal
use Rattle.utf8.proofs.three_bytes.Goals.{else-starts_three-via-then-starts_three+else-is_tail, else-starts_three-via-else-starts_three}

pub returns-then-is_tail : goal.returns-then-is_tail
unfolding three
returns-then-is_tail c = simp (← c.starts_three.ensures, c.if-starts_three.true, ← c.is_tail.ensures, c.if-is_tail.true)
    (cc (and_mask c.args.a 4))

pub returns : goal.returns
unfolding three
returns c = elim c.else-starts_three.branch [
  | else-starts_three-via-then-starts_three+else-is_tail w ↦
      simp (← c.starts_three.ensures, w.if-starts_three.true, ← w.is_tail.ensures, w.if-is_tail.false)
  | else-starts_three-via-else-starts_three w ↦ simp (← c.starts_three.ensures, w.if-starts_three.false)
]
