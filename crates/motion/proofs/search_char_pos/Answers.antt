use borrow.Author.Rules.{rules}
use mathlib.Core.Path.{sym, ◌∙◌}
use Rattle.motion.proofs.Matches.{backward_stands}
use Rattle.motion.proofs.search_char_pos.Goals as goal

-- a match ends in the text, so its end fits
pub map-requires-in-BackwardAfter : goal.map-requires-in-BackwardAfter
map-requires-in-BackwardAfter c = λ p e.
    let fits = (backward_stands c.args.s.now c.args.pos _ _ p c.requires.1 c.requires.2
    (sym c.match_backward-in-BackwardAfter.ensures ∙ e)).0 in
    search rules
