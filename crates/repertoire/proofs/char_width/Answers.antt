use Rattle.repertoire.specs.Repertoire.{width_of}
use Rattle.repertoire.proofs.char_width.Goals as goal

pub returns-then-is_mark : goal.returns-then-is_mark
unfolding width_of
returns-then-is_mark c = rw (← c.is_mark.ensures, c.if-is_mark.true)

pub returns-else-is_mark : goal.returns-else-is_mark
unfolding width_of
returns-else-is_mark c = rw (← c.is_mark.ensures, c.if-is_mark.false)
