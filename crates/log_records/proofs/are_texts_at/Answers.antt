use native.Mathlib.Omega.{arith}
use mathlib.Core.Path.{sym, ◌∙◌}
use Rattle.repertoire.specs.Repertoire.{catalogue}
use Rattle.log_records.proofs.Check.{no_room-at, bad-end, one_at, middle_says}
use Rattle.log_records.proofs.are_texts_at.Goals as goal

pub returns-then-texts-t : goal.returns-then-texts-t
returns-then-texts-t c =
    let a = c.args in
    no_room-at catalogue a.texts.now a.t a.old a.new c.requires.t_in_bounds.1 (omega (arith, c.if-texts-t.true, c.requires.t_in_bounds.0))

pub returns-then-not-is_boundary : goal.returns-then-not-is_boundary
returns-then-not-is_boundary c =
    let a = c.args in
    bad-end catalogue a.texts.now a.t a.old a.new c.requires.t_in_bounds.1 (omega (arith, c.if-texts-t.false, c.requires.t_in_bounds.0))
    (sym c.is_boundary.ensures.any ∙ c.if-not-is_boundary.true)

pub returns-then-old-new : goal.returns-then-old-new
returns-then-old-new c =
    let a = c.args in
    one_at catalogue a.texts.now a.t a.old a.new c.requires.t_in_bounds.1 (omega (arith, c.if-texts-t.false, c.requires.t_in_bounds.0))
    (sym c.is_boundary.ensures.any ∙ c.if-not-is_boundary.false) c.if-old-new.true

pub returns : goal.returns
returns c =
    let a = c.args in
    middle_says catalogue a.texts.now a.t a.old a.new c.requires.t_in_bounds.1 (omega (arith, c.if-texts-t.false, c.requires.t_in_bounds.0))
    (sym c.is_boundary.ensures.any ∙ c.if-not-is_boundary.false) _ c.is_boundary-2.ensures.any
