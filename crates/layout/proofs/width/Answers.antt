use Prim.Native.Nat.{ℕ}
use mathlib.Core.Path.{sym, ap, ◌∙◌}
use native.Mathlib.Omega.{arith}
use Rattle.utf8.specs.Answer.{as_first}
use Rattle.repertoire.specs.Repertoire.{catalogue}
use Rattle.repertoire.proofs.Text.{within-at}
use Rattle.repertoire.proofs.Catalogue.{catalogue_lawful}
use Rattle.layout.specs.Width.{most_columns}
use Rattle.layout.proofs.Columns.{Reach, measure_start, measure_on, measure_end, lawful_reach}
use Rattle.layout.proofs.width.Goals as goal

abbrev reach : (col c : ℕ) → Reach most_columns catalogue col c
reach = lawful_reach catalogue catalogue_lawful

pub loop-cp-init : goal.loop-cp-init
loop-cp-init c = measure_start catalogue most_columns reach c.args.s.now c.args.col

pub advance-column-requires : goal.advance-column-requires
advance-column-requires c = omega (arith, c.loop-cp.invariant.high, c.loop-cp.invariant.within, c.requires)

pub overflow_add-at : goal.overflow_add-at
overflow_add-at c = omega (
  arith,
  within-at c.args.s.now _ _ _ c.loop-cp.invariant.within
      (sym c.decode_at.ensures ∙ ap as_first c.in-Some.is),
)

pub loop-cp-smaller : goal.loop-cp-smaller
loop-cp-smaller c = omega (
  arith,
  c.loop-cp.invariant.within,
  within-at c.args.s.now _ _ _ c.loop-cp.invariant.within
      (sym c.decode_at.ensures ∙ ap as_first c.in-Some.is),
)

pub loop-cp-preserved : goal.loop-cp-preserved
loop-cp-preserved c = measure_on catalogue most_columns reach c.args.s.now c.args.col _ _ c.loop-cp.invariant _ _ _
    (sym c.decode_at.ensures ∙ ap as_first c.in-Some.is) c.advance-column.ensures

pub returns : goal.returns
returns c = measure_end catalogue most_columns reach c.args.s.now c.args.col _ _ c.loop-cp.invariant
    (sym c.decode_at.ensures ∙ ap as_first c.in_default.is)
