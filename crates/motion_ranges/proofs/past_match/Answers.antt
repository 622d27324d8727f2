use borrow.Author.Rules.{rules}
use mathlib.Core.Path.{sym, ◌∙◌}
use Rattle.repertoire.specs.Repertoire.{catalogue}
use Rattle.motion.proofs.Matches.{forward-stands}
use Rattle.motion_ranges.proofs.past_match.Goals as goal

-- a match ends in the text, so its end fits
pub map-requires : goal.map-requires
map-requires c = λ p e.
    let a = c.args in
    let fits = (forward-stands catalogue a.s.now a.pos a.c a.n p c.requires.0 c.requires.1 c.requires.2
    (sym c.match_forward.ensures ∙ e)).1.fits in
    search rules
