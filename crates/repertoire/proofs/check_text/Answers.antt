use borrow.Author.Rules.{rules}
use mathlib.Core.Path.{refl, sym, subst, ◌∙◌}
use native.Mathlib.Omega.{arith}
use Rattle.repertoire.specs.Repertoire.{catalogue}
use Rattle.repertoire.specs.Text.{plain, ReadTo}
use Rattle.repertoire.proofs.Text.{scan-end}
use Rattle.repertoire.proofs.Plain.{block, plain-one}
use Rattle.repertoire.proofs.check_text.Goals as goal

pub loop-i-init : goal.loop-i-init
loop-i-init c = (search rules, refl)

pub loop-i-preserved-then-all_plain : goal.loop-i-preserved-then-all_plain
loop-i-preserved-then-all_plain c = (
  c.block_end-end.ensures.1,
  c.loop-i.invariant.1
      ∙ block catalogue plain plain-one c.args.s.now c.loop-i.i c.block_end-end.result (omega (arith, c.block_end-end.ensures.0))
      (sym c.all_plain.ensures ∙ c.if-all_plain.true),
)

pub returns-in_default : goal.returns-in_default
returns-in_default c = sym
    (c.loop-i.invariant.1
    ∙ subst (ReadTo c.args.s.now c.loop-i.i c.block_end-end.result) c.in_default.is
    c.read_chars.ensures)

pub loop-i-smaller : goal.loop-i-smaller
loop-i-smaller c = let h = subst (ReadTo c.args.s.now c.loop-i.i c.block_end-end.result) c.in-Some.is
    c.read_chars.ensures in
    omega (arith, h.0, h.1, c.block_end-end.ensures)

pub loop-i-preserved : goal.loop-i-preserved
loop-i-preserved c = let h = subst (ReadTo c.args.s.now c.loop-i.i c.block_end-end.result) c.in-Some.is
    c.read_chars.ensures in
    (h.1, c.loop-i.invariant.1 ∙ h.2)

pub returns : goal.returns
returns c = sym (c.loop-i.invariant.1 ∙ scan-end catalogue c.args.s.now c.loop-i.i c.loop-i-test.false)
