use native.Mathlib.Omega.{arith}
use mathlib.Core.Path.{◌≡◌, sym, ◌∙◌}
use mathlib.Core.List.{List}
use Prim.Native.Nat.{ℕ, ◌-◌}
use lib.ListN.{length, take, drop}
use Rattle.lists.specs.Lists.{part}
use Rattle.repertoire.specs.Repertoire.{catalogue}
use Rattle.checks.specs.Outcome.{Outcome, answered}
use Rattle.edit.specs.Plan.{State, edited, planned, cutting, once}
use Rattle.edit.specs.Calls.{Lent, lent, text_of, sizes_of, state_of}
use Rattle.edit.proofs.Parts.{raw_part}
use Rattle.kill_ring.specs.Calls as rings
use Rattle.key_kill.proofs.CutRoom.{within, no_room, roomy}
use Rattle.key_kill.proofs.Both.{ten, eleven, both-done}
use Rattle.key_kill.proofs.cut_to_ring.Goals as goal
use Rattle.key_kill.proofs.cut_to_ring.Goals.{Else-not-cut_fits, Start}

-- ---- at the start: what is lent, and what is cut
abbrev lending : Start → Lent
lending s = let a = s.args in lent a.text.now a.records.now a.texts.now a.checked.line a.checked.log

abbrev given : Start → rings.Lent
given s = let a = s.args in rings.lent a.slots.now a.lens.now a.ring

abbrev cut : Start → List ℕ
cut s = part (text_of (lending s)) s.args.from s.args.to

-- what the cut comes to
abbrev cutting-out : Start → Outcome State
cutting-out s = let a = s.args in
    let l = lending s in
    edited catalogue a.checked.format (sizes_of l) (length l.text) (once (cutting a.from a.to) a.from) (state_of catalogue a.checked.format l)

-- ---- where there is room: the cut can not be refused any more
made : (c : Else-not-cut_fits) → (let a = c.args in let l = (let a = c.args in lent a.text.now a.records.now a.texts.now a.checked.line a.checked.log) in
    edited catalogue a.checked.format (sizes_of l) (length l.text) (once (cutting a.from a.to) a.from) (state_of catalogue a.checked.format l)) ≡ answered 0 0 0
    (planned catalogue (once (cutting c.args.from c.args.to)
    c.args.from) (state_of catalogue c.args.checked.format (let a = c.args in lent a.text.now a.records.now a.texts.now a.checked.line a.checked.log)))
made c = let a = c.args in
    roomy a.checked.format (let a = c.args in lent a.text.now a.records.now a.texts.now a.checked.line a.checked.log) c.requires.ready a.from a.to c.requires.in_text
    (sym c.cut_fits.ensures ∙ c.if-not-cut_fits.false)

-- what is cut, as it is lent from the buffer
lent-part : (s : Start) → let a = s.args in take (a.to - a.from) (drop a.from a.text.now) ≡ cut s
lent-part s = let a = s.args in sym (raw_part a.text.now a.checked.line.len a.from a.to
    (within a.checked.format (lending s) s.requires.ready a.from a.to s.requires.in_text))

pub returns-then-not-cut_fits : goal.returns-then-not-cut_fits
returns-then-not-cut_fits c =
    let here = goal.at.returns-then-not-cut_fits c in
    ten c.args.checked.format (lending here.Start) (given here.Start) c.args.m
    (cut here.Start) (cutting-out here.Start)
    (no_room c.args.checked.format (lending here.Start) c.requires.ready c.args.from c.args.to c.requires.in_text
    (sym c.cut_fits.ensures ∙ c.if-not-cut_fits.true)) c.refused.ensures

pub slice_bounds-kill_checked-end : goal.slice_bounds-kill_checked-end
slice_bounds-kill_checked-end c =
    omega (
      arith,
      within c.args.checked.format (lending (goal.at.slice_bounds-kill_checked-end c).Start) c.requires.ready c.args.from c.args.to
          c.requires.in_text,
      c.requires.ready.used,
    )

pub returns-then-answer-ne0 : goal.returns-then-answer-ne0
returns-then-answer-ne0 c =
    let here = goal.at.returns-then-answer-ne0 c in
    eleven c.args.checked.format (lending here.Start) (given here.Start) c.args.m
    (cut here.Start) (cutting-out here.Start) _
    (made here.Else-not-cut_fits) _ (lent-part here.Start)
    c.kill_checked-killed.ensures c.if-answer-ne0.true c.refused-then-answer-ne0.ensures

pub cut_out-a-requires : goal.cut_out-a-requires
cut_out-a-requires c = record {
  fit = c.requires.ready.log.fit;
  ready = c.requires.ready;
  in_text = c.requires.in_text;
  last_at = (λ e. c.requires.last_at);
}

pub shape_of-slots : goal.shape_of-slots
shape_of-slots c = c.kill_checked-killed.auto.slots

pub shape_of-lens : goal.shape_of-lens
shape_of-lens c = c.kill_checked-killed.auto.lens

pub returns : goal.returns
returns c =
    let here = goal.at.returns c in
    both-done c.args.checked.format (lending here.Start) (given here.Start) c.args.m (cut here.Start)
    (cutting-out here.Start) _ (made here.Else-not-cut_fits) _ (lent-part here.Start)
    c.kill_checked-killed.ensures c.if-answer-ne0.false c.cut_out-a.ensures c.with_ring.ensures
