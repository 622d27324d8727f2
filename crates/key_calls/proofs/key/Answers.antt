use mathlib.Core.Path.{refl, sym, ap, ◌∙◌}
use Rattle.checks.proofs.Refusals.{never-passes}
use Rattle.repertoire.specs.Repertoire.{catalogue}
use Rattle.formats.proofs.Formats.{fit_for}
use Rattle.edit.specs.Calls.{Lent, lent, checked}
use Rattle.kill_ring.specs.Calls as rings
use Rattle.key_calls.proofs.Numbers.{by_ring, by_checks, fit, passed, does}
use Rattle.key_calls.proofs.key.Goals as goal
use Rattle.key_calls.proofs.key.Goals.{Start}

-- ---- at the start: what is lent
abbrev lending : Start → Lent
lending s = let a = s.args in lent a.text.now a.records.now a.texts.now a.line a.log

abbrev given : Start → rings.Lent
given s = let a = s.args in rings.lent a.slots.now a.lens.now a.ring

pub check-on_line-requires : goal.check-on_line-requires
check-on_line-requires c = fit_for _ c.format_for-f.ensures

-- the ring's checks refuse
pub returns-in-Err : goal.returns-in-Err
returns-in-Err c =
    let here = goal.at.returns-in-Err c in
    by_ring c.args.key.now (lending here.Start) (given here.Start) c.format_for-f.ensures c.press_of-p.ensures c.is_foreign_key-foreign.ensures
    (c.number.ensures ∙ c.check-on_line.ensures.number ∙ ap (checked catalogue c.format_for-f.result (lending here.Start)) c.only_foreign.ensures)
    (c.into.ensures ∙ c.in-Err.ensures) (λ z. never-passes c.in-Err.why (sym c.into.ensures ∙ z)) c.lower.ensures c.says.ensures

pub admit-requires : goal.admit-requires
admit-requires c = fit_for _ c.format_for-f.ensures

-- they pass, and the line's refuse
pub returns-in-Err-admit : goal.returns-in-Err-admit
returns-in-Err-admit c =
    let here = goal.at.returns-in-Err-admit c in
    let a = c.args in
    by_checks a.key.now (lending here.Start) (given here.Start) c.format_for-f.ensures c.press_of-p.ensures c.is_foreign_key-foreign.ensures
    (sym c.in_default.ensures)
    (c.in-Err-admit.ensures.number ∙ c.own_of-own.ensures c.format_for-f.result a.records.now a.texts.now a.log) (never-passes c.in-Err-admit.why)
    c.refused.ensures

pub key_checked-requires-clause-passed : goal.key_checked-requires-clause-passed
key_checked-requires-clause-passed c =
    let here = goal.at.key_checked-requires-clause-passed c in
    let a = c.args in
    let passes = c.in-Ok.ensures.passes in
    rw passes.same
    (passed a.key.now (lending here.Start) (given here.Start) c.format_for-f.ensures c.press_of-p.ensures c.is_foreign_key-foreign.ensures
    (sym c.in_default.ensures) (c.in-Ok.ensures.number ∙ c.own_of-own.ensures c.format_for-f.result a.records.now a.texts.now a.log) refl
    passes.ready _ passes.last)

pub key_checked-requires-clause-p_value : goal.key_checked-requires-clause-p_value
key_checked-requires-clause-p_value c =
    let here = goal.at.key_checked-requires-clause-p_value c in
    let a = c.args in
    fit a.key.now (lending here.Start) (given here.Start) c.format_for-f.ensures c.press_of-p.ensures c.is_foreign_key-foreign.ensures
    (sym c.in_default.ensures) (c.in-Ok.ensures.number ∙ c.own_of-own.ensures c.format_for-f.result a.records.now a.texts.now a.log) refl

pub returns : goal.returns
returns c =
    let here = goal.at.returns c in
    let a = c.args in
    does a.key.now (lending here.Start) (given here.Start) c.format_for-f.ensures c.press_of-p.ensures c.is_foreign_key-foreign.ensures
    (sym c.in_default.ensures) (c.in-Ok.ensures.number ∙ c.own_of-own.ensures c.format_for-f.result a.records.now a.texts.now a.log) refl
    (rw c.in-Ok.ensures.passes.same at c.key_checked.ensures)
