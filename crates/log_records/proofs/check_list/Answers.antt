use native.Mathlib.Omega.{arith}
use mathlib.Core.Path.{◌≡◌, sym, ◌∙◌}
use mathlib.Core.Bool.{true, true≢false}
use lib.Dec.{eqb}
use lib.ListN.{length}
use borrow.Author.Tests.{eq-eqb, ne_eqb}
use Rattle.repertoire.specs.Repertoire.{catalogue}
use Rattle.log_model.specs.Layout.{is_some, decode}
use Rattle.log_model.proofs.Texts.{no_text}
use Rattle.log_records.specs.Check.{are_texts_at}
use Rattle.log_records.specs.Walks.{NewestAt}
use Rattle.log_records.proofs.Walks.{newest-same, passes}
use Rattle.log_records.proofs.Check.{no_record, bare_texts, no_texts, looks_first, looks_bad, looks_on, looks_end}
use Rattle.log_records.proofs.check_list.Goals as goal
use Rattle.log_records.proofs.check_list.Goals.{After-loop-at, in-Edit, in_default}
use Rattle.log_records.proofs.check_list.Goals.{else-matches-via-then-matches+else-not-are_texts_at, else-matches-via-else-matches}

pub returns-then-not-check_text-clause-sound : goal.returns-then-not-check_text-clause-sound
returns-then-not-check_text-clause-sound c = sym
    (no_text catalogue c.args.f c.args.records.now c.args.texts.now
    (sym c.check_text.ensures ∙ c.if-not-check_text.true))

pub loop-at-init : goal.loop-at-init
loop-at-init c =
    let e = c.default-newest.ensures in
    looks_first catalogue c.args.f c.args.records.now c.args.texts.now _
    (newest-same _ _ _ _ _ _ _ _ _ _ e.0 e.1.0 e.1.1.0 e.1.1.1.0 e.1.1.1.1)
    (sym c.check_text.ensures ∙ c.if-not-check_text.false)

pub returns-in_err-r-clause-sound : goal.returns-in_err-r-clause-sound
returns-in_err-r-clause-sound c =
    let a = c.args in
    rw c.from_residual.ensures
    (looks_bad catalogue a.f a.records.now a.texts.now c.loop-at.newest c.loop-at.at c.loop-at.t c.loop-at.invariant
    c.loop-at-test.true
    (no_record catalogue a.f a.records.now a.texts.now c.loop-at.at c.loop-at.t c.in_err-r.ensures.same))

pub returns-then-not-are_texts_at-clause-sound : goal.returns-then-not-are_texts_at-clause-sound
returns-then-not-are_texts_at-clause-sound c =
    let a = c.args in
    looks_bad catalogue a.f a.records.now a.texts.now c.loop-at.newest c.loop-at.at c.loop-at.t c.loop-at.invariant
    c.loop-at-test.true
    (no_texts catalogue a.f a.records.now a.texts.now c.loop-at.at c.loop-at.t _ c.in_ok-r.ensures.same
    (sym c.are_texts_at.ensures ∙ c.if-not-are_texts_at.true))

pub loop-at-smaller : goal.loop-at-smaller
loop-at-smaller c =
    let w = passes catalogue c.args.f c.args.records.now c.loop-at.at _ c.in_ok-r.ensures.same in
    omega (arith, w.1, w.2)

pub loop-at-preserved : goal.loop-at-preserved
loop-at-preserved c =
    let a = c.args in
    let r = c.in_ok-r.r in
    -- an edit's texts were asked for, and a Begin and an End have none
    let stand : are_texts_at catalogue a.texts.now c.loop-at.t r.old r.new ≡ true = elim c.else-matches.branch [
      | else-matches-via-then-matches+else-not-are_texts_at w ↦ sym w.are_texts_at.ensures ∙ w.if-not-are_texts_at.false
      | else-matches-via-else-matches w ↦ elim c.match-matches.branch [
        | in-Edit v ↦ absurd (true≢false (sym v.matches-is ∙ w.if-matches.false))
        | in_default v ↦ bare_texts catalogue a.f a.records.now a.texts.now c.loop-at.at c.loop-at.t r c.in_ok-r.ensures.same
            v.in_default.not-Edit c.loop-at.invariant.texts
      ]
    ] in
    looks_on catalogue a.f a.records.now a.texts.now c.loop-at.newest c.loop-at.at c.loop-at.t c.loop-at.invariant _ c.in_ok-r.ensures.same
    stand _ c.pass-newest.ensures

-- all records are passed
passed : (c : After-loop-at) → (eqb c.loop-at.t (length c.args.texts.now) ≡
    is_some (decode catalogue c.args.f c.args.records.now c.args.texts.now)) ×
    NewestAt catalogue c.args.f c.args.records.now c.loop-at.newest
passed c = looks_end catalogue c.args.f c.args.records.now c.args.texts.now c.loop-at.newest c.loop-at.at c.loop-at.t
    c.loop-at.invariant c.loop-at-test.false

pub returns-then-t-texts-clause-sound : goal.returns-then-t-texts-clause-sound
returns-then-t-texts-clause-sound c = sym (eq-eqb _ _ c.if-t-texts.true)
    ∙ (passed (goal.at.returns-then-t-texts-clause-sound c).After-loop-at).0

pub returns-then-t-texts-clause-newest : goal.returns-then-t-texts-clause-newest
returns-then-t-texts-clause-newest c = (passed (goal.at.returns-then-t-texts-clause-newest c).After-loop-at).1

pub returns-else-t-texts-clause-sound : goal.returns-else-t-texts-clause-sound
returns-else-t-texts-clause-sound c = sym (ne_eqb _ _ c.if-t-texts.false)
    ∙ (passed (goal.at.returns-else-t-texts-clause-sound c).After-loop-at).0
