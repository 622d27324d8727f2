use mathlib.Core.Path.{ap}
use borrow.Author.Tests.{eq-eqb, ne_eqb}
use Rattle.std.specs.Prelude.{Some}
use Rattle.motion_words.specs.Words.{prev_word_pos}
use Rattle.motion_words.proofs.prev_word_pos.Goals as goal

pub returns-then-pos-eq0 : goal.returns-then-pos-eq0
unfolding prev_word_pos
returns-then-pos-eq0 c = simp (eq-eqb _ _ c.if-pos-eq0.true)

pub returns : goal.returns
unfolding prev_word_pos
returns c = simp (ne_eqb _ _ c.if-pos-eq0.false) (ap Some c.prev_word.ensures)
