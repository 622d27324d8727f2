use mathlib.Core.Path.{◌≡◌, sym, ap, ◌∙◌}
use mathlib.Core.Bool.{true}
use lib.Seq.{length-take-le}
use Rattle.utf8.specs.Chars.{In, valid}
use Rattle.repertoire.specs.Repertoire.{catalogue}
use Rattle.repertoire.proofs.Text.{text-valid}
use Rattle.edit.specs.Calls.{Lent, lent, text_of}
use Rattle.edit.proofs.Answers.{cursor_in}
use Rattle.edit_kill.specs.Kills.{kill_range}
use Rattle.edit_kill.proofs.Ranges.{kill_in}
use Rattle.kill_ring.specs.Calls as rings
use Rattle.key_model.specs.Stands.{movement_for}
use Rattle.key_kill.proofs.Kills.{kill_does, nothing_does}
use Rattle.key_kill.proofs.kill_key.Goals as goal
use Rattle.key_kill.proofs.kill_key.Goals.{After-kill_range-r, Start}

-- ---- at the start: what is lent
abbrev lending : Start → Lent
lending s = let a = s.args in lent a.text.now a.records.now a.texts.now a.checked.line a.checked.log

abbrev given : Start → rings.Lent
given s = let a = s.args in rings.lent a.slots.now a.lens.now a.ring

inside : (s : Start) → let l = lending s in In (text_of l) l.line.cursor l.line.cursor
inside s = cursor_in s.args.checked.format (lending s) s.requires.ready

is-valid : (s : Start) → valid (text_of (lending s)) ≡ true
is-valid s = text-valid catalogue (text_of (lending s)) s.requires.ready.text

-- ---- the range
ranged : (c : After-kill_range-r) → let l = (let a = c.args in lent a.text.now a.records.now a.texts.now a.checked.line a.checked.log) in
    kill_range catalogue (text_of l) l.line.cursor (movement_for c.args.k) ≡ c.kill_range-r.result
ranged c = let l = (let a = c.args in lent a.text.now a.records.now a.texts.now a.checked.line a.checked.log) in
    ap (kill_range catalogue (text_of l) l.line.cursor) (sym c.movement_for.ensures) ∙ sym c.kill_range-r.ensures

pub slice_bounds-kill_range-end-2 : goal.slice_bounds-kill_range-end-2
slice_bounds-kill_range-end-2 c = sym (length-take-le _ _ c.requires.ready.used)

pub kill_range-r-requires : goal.kill_range-r-requires
kill_range-r-requires c =
    let here = goal.at.kill_range-r-requires c in (
      is-valid here.Start,
      (inside here.Start).2,
      (inside here.Start).1,
    )

pub cut_to_ring-requires : goal.cut_to_ring-requires
cut_to_ring-requires c =
    let here = goal.at.cut_to_ring-requires c in
    record {
      ready = c.requires.ready;
      last_at = c.requires.newest;
      false_value = c.requires.ring;
      in_text = kill_in catalogue (text_of (lending here.Start)) (is-valid here.Start)
          c.in-Some.cut.start c.in-Some.cut.end
          c.args.checked.line.cursor (inside here.Start).2 (inside here.Start).1
          (movement_for c.args.k)
          (ranged here.After-kill_range-r ∙ c.in-Some.is);
    }

pub returns-in-Some : goal.returns-in-Some
returns-in-Some c =
    let here = goal.at.returns-in-Some c in
    kill_does c.args.checked.format (lending here.Start) (given here.Start) c.args.k c.args.checked.last
    c.requires c.in-Some.cut.start c.in-Some.cut.end
    (ranged here.After-kill_range-r ∙ c.in-Some.is) _ c.mode_for.ensures c.cut_to_ring.ensures

pub returns-in-None : goal.returns-in-None
returns-in-None c =
    let here = goal.at.returns-in-None c in
    nothing_does c.args.checked.format (lending here.Start) (given here.Start) c.args.k c.args.checked.last
    c.requires
    (ranged here.After-kill_range-r ∙ c.in-None.is) c.says.ensures
