use borrow.Author.Tests.{eq-eqb, ne_eqb}
use Rattle.repertoire.specs.Repertoire.{catalogue}
use Rattle.edit_transpose.proofs.Starts.{starts_nowhere, starts-back, starts_here}
use Rattle.edit_transpose.proofs.starts_at.Goals as goal

pub returns-then-pos-under_two : goal.returns-then-pos-under_two
returns-then-pos-under_two c =
    starts_nowhere catalogue c.args.s.now c.args.pos _ (c.under_two.ensures c.requires.0) c.if-pos-under_two.true

pub returns-then-pos-s : goal.returns-then-pos-s
returns-then-pos-s c = starts-back catalogue c.args.s.now c.args.pos _ (c.under_two.ensures c.requires.0) c.if-pos-under_two.false
    (eq-eqb _ _ c.if-pos-s.true) _ c.back_from.ensures

pub returns : goal.returns
returns c = starts_here catalogue c.args.s.now c.args.pos _ (c.under_two.ensures c.requires.0) c.if-pos-under_two.false
    (ne_eqb _ _ c.if-pos-s.false)
