use mathlib.Core.Path.{◌≡◌, sym, subst}
use mathlib.Core.Bool.{true}
use Rattle.repertoire.specs.Repertoire.{catalogue}
use Rattle.edit.specs.Calls.{Lent, lent}
use Rattle.kill_ring.specs.Calls as rings
use Rattle.key_press.specs.declared.Press.{Press}
use Rattle.key_model.specs.declared.KeyAnswer.{KeyAnswer}
use Rattle.key_model.specs.Stands.{stands_for}
use Rattle.key_model.specs.Own.{fit_press}
use Rattle.key_model.specs.Contract.{KeyBuffers, Passed, Does}
use Rattle.key_calls.proofs.Refused.{unbound_does}
use Rattle.key_calls.proofs.key_checked.Goals as goal
use Rattle.key_calls.proofs.key_checked.Goals.{Start}

-- ---- at the start: what is lent, and what holds of the press that was told
abbrev lending : Start → Lent
lending s = let a = s.args in lent a.text.now a.records.now a.texts.now a.checked.line a.checked.log

abbrev given : Start → rings.Lent
given s = let a = s.args in rings.lent a.slots.now a.lens.now a.ring

module _ (s : Start) {q : Press} (told : s.args.p ≡ q) where
  passed : Passed s.args.checked.format (lending s) (given s) (stands_for q) s.args.checked.last
  passed = subst (λ (x : Press). Passed s.args.checked.format (lending s) (given s) (stands_for x) s.args.checked.last) told s.requires.passed

  fit : fit_press catalogue q ≡ true
  fit = subst (λ (x : Press). fit_press catalogue x ≡ true) told s.requires.p_value

  does : {r : KeyAnswer} {b : KeyBuffers} → Does s.args.checked.format (lending s) (given s) (stands_for q) r b
      → Does s.args.checked.format (lending s) (given s) (stands_for s.args.p) r b
  does {r} {b} d = subst (λ (x : Press). Does s.args.checked.format (lending s) (given s) (stands_for x) r b) (sym told) d

pub move_key-requires : goal.move_key-requires
move_key-requires c = passed (goal.at.move_key-requires c).Start c.in-Move.is

pub edit_key-requires : goal.edit_key-requires
edit_key-requires c =
    let here = goal.at.edit_key-requires c in
    record {
      passed = passed here.Start c.in-Edit.is;
      k_value = fit
          here.Start c.in-Edit.is;
    }

pub undo_key-requires : goal.undo_key-requires
undo_key-requires c = passed (goal.at.undo_key-requires c).Start c.in-Undo.is

pub kill_key-requires : goal.kill_key-requires
kill_key-requires c = passed (goal.at.kill_key-requires c).Start c.in-Kill.is

pub yank_key-requires : goal.yank_key-requires
yank_key-requires c = passed (goal.at.yank_key-requires c).Start c.in-Yank.is

pub yank_pop_key-requires : goal.yank_pop_key-requires
yank_pop_key-requires c = passed (goal.at.yank_pop_key-requires c).Start c.in-YankPop.is

pub returns-in-Unbound : goal.returns-in-Unbound
returns-in-Unbound c =
    let here = goal.at.returns-in-Unbound c in
    does here.Start c.in-Unbound.is
    (unbound_does c.args.checked.format (lending here.Start) (given here.Start) c.refused.ensures)

pub returns-in-Move : goal.returns-in-Move
returns-in-Move c = does (goal.at.returns-in-Move c).Start c.in-Move.is c.move_key.ensures

pub returns-in-Edit : goal.returns-in-Edit
returns-in-Edit c = does (goal.at.returns-in-Edit c).Start c.in-Edit.is c.edit_key.ensures

pub returns-in-Undo : goal.returns-in-Undo
returns-in-Undo c = does (goal.at.returns-in-Undo c).Start c.in-Undo.is c.undo_key.ensures

pub returns-in-Kill : goal.returns-in-Kill
returns-in-Kill c = does (goal.at.returns-in-Kill c).Start c.in-Kill.is c.kill_key.ensures

pub returns-in-Yank : goal.returns-in-Yank
returns-in-Yank c = does (goal.at.returns-in-Yank c).Start c.in-Yank.is c.yank_key.ensures

pub returns-in-YankPop : goal.returns-in-YankPop
returns-in-YankPop c = does (goal.at.returns-in-YankPop c).Start c.in-YankPop.is c.yank_pop_key.ensures
