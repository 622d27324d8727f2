use Rattle.utf8.specs.Utf8.{four}
use lib.Bits.{and_mask}
use Rattle.utf8.proofs.four_bytes.Goals as goal
use Rattle.utf8.proofs.four_bytes.Goals.{else-starts_four-via-then-starts_four+then-is_tail+else-is_tail-2}
use Rattle.utf8.proofs.four_bytes.Goals.{else-starts_four-via-then-starts_four+else-is_tail}
use Rattle.utf8.proofs.four_bytes.Goals.{else-starts_four-via-else-starts_four}

pub returns-then-is_tail-2 : goal.returns-then-is_tail-2
unfolding four
returns-then-is_tail-2 c = simp (
  ← c.starts_four.ensures,
  c.if-starts_four.true,
  ← c.is_tail.ensures,
  c.if-is_tail.true,
  ← c.is_tail-then-is_tail.ensures,
  c.if-is_tail-2.true,
) (cc (and_mask c.args.a 3))

pub returns : goal.returns
unfolding four
returns c = elim c.else-starts_four.branch [
  | else-starts_four-via-then-starts_four+then-is_tail+else-is_tail-2 w ↦ simp (
    ← c.starts_four.ensures,
    w.if-starts_four.true,
    ← w.is_tail.ensures,
    w.if-is_tail.true,
    ← w.is_tail-then-is_tail.ensures,
    w.if-is_tail-2.false,
  )
  | else-starts_four-via-then-starts_four+else-is_tail w ↦
      simp (← c.starts_four.ensures, w.if-starts_four.true, ← w.is_tail.ensures, w.if-is_tail.false)
  | else-starts_four-via-else-starts_four w ↦ simp (← c.starts_four.ensures, w.if-starts_four.false)
]
