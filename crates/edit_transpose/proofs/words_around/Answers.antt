use native.Mathlib.Omega.{arith}
use Rattle.repertoire.specs.Repertoire.{catalogue}
use Rattle.edit_transpose.proofs.Four.{place_d, place_c, within_a, around_is}
use Rattle.edit_transpose.proofs.words_around.Goals as goal

pub words_back-beg2-requires : goal.words_back-beg2-requires
words_back-beg2-requires c = place_d catalogue c.args.s.now c.requires.0 c.args.n c.args.pos
    (omega arith, c.requires.2, c.requires.1, c.requires.1) c.words_on-end2.result c.words_on-end2.ensures

pub words_back-beg1-requires : goal.words_back-beg1-requires
words_back-beg1-requires c =
    place_c catalogue c.args.s.now c.requires.0 c.args.n c.args.pos (omega arith, c.requires.2, c.requires.1, c.requires.1) _
    c.words_on-end2.ensures _ c.words_back-beg2.ensures

pub words_on-end1-requires : goal.words_on-end1-requires
words_on-end1-requires c =
    within_a catalogue c.args.s.now c.requires.0 c.args.n c.args.pos (omega arith, c.requires.2, c.requires.1, c.requires.1) _
    c.words_on-end2.ensures _ c.words_back-beg2.ensures _ c.words_back-beg1.ensures

pub returns : goal.returns
returns c =
    around_is catalogue c.args.s.now c.requires.0 c.args.n c.args.pos (omega arith, c.requires.2, c.requires.1, c.requires.1) _
    c.words_on-end2.ensures _ c.words_back-beg2.ensures _ c.words_back-beg1.ensures _ c.words_on-end1.ensures
