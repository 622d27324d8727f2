use mathlib.Core.Path.{◌≡◌, sym, ap, ◌∙◌}
use mathlib.Core.Bool.{true}
use lib.Seq.{length-take-le}
use Rattle.utf8.specs.Chars.{In, valid}
use Rattle.repertoire.specs.Repertoire.{catalogue}
use Rattle.repertoire.proofs.Text.{text-valid}
use Rattle.edit.specs.Calls.{Lent, lent, text_of}
use Rattle.edit.proofs.Answers.{cursor_in, stays}
use Rattle.edit.proofs.Made.{plan_made}
use Rattle.edit_kill.specs.Kills.{cut_plan}
use Rattle.edit_kill.proofs.Ranges.{kill_in}
use Rattle.edit_kill.proofs.kill_checked.Goals as goal
use Rattle.edit_kill.proofs.kill_checked.Goals.{Start}

-- ---- at the start: what is lent
abbrev lending : Start → Lent
lending s = let a = s.args in lent a.text.now a.records.now a.texts.now a.checked.line a.checked.log

inside : (s : Start) → let l = (lending s) in In (text_of l) l.line.cursor
    l.line.cursor
inside s = cursor_in s.args.checked.format (lending s) s.requires.ready

is-valid : (s : Start) → valid (text_of (lending s)) ≡ true
is-valid s = text-valid catalogue (text_of (lending s))
    s.requires.ready.text

pub slice_bounds-kill_range-end-2 : goal.slice_bounds-kill_range-end-2
slice_bounds-kill_range-end-2 c = sym (length-take-le _ _ c.requires.ready.used)

pub kill_range-r-requires : goal.kill_range-r-requires
kill_range-r-requires c =
    let here = goal.at.kill_range-r-requires c in (
      is-valid here.Start,
      (inside here.Start).2,
      (inside here.Start).1,
    )

pub cut_out-requires : goal.cut_out-requires
cut_out-requires c =
    let here = goal.at.cut_out-requires c in
    let a = c.args in
    record {
      fit = c.requires.ready.log.fit;
      ready = c.requires.ready;
      in_text = kill_in catalogue (text_of (lending here.Start)) (is-valid here.Start)
          c.in-Some.cut.start c.in-Some.cut.end a.checked.line.cursor
          (inside here.Start).2 (inside here.Start).1 a.m
          (sym c.kill_range-r.ensures ∙ c.in-Some.is);
      last_at = (λ e. c.requires.last_at);
    }

pub returns-in-Some : goal.returns-in-Some
returns-in-Some c = plan_made c.args.checked.format (lending (goal.at.returns-in-Some c).Start)
    (ap (cut_plan c.args.checked.line.cursor) (sym c.in-Some.is ∙ c.kill_range-r.ensures))
    c.cut_out.ensures

pub returns-in-None : goal.returns-in-None
returns-in-None c =
    let here = goal.at.returns-in-None c in
    plan_made c.args.checked.format (lending here.Start)
    (ap (cut_plan c.args.checked.line.cursor) (sym c.in-None.is ∙ c.kill_range-r.ensures))
    (stays c.args.checked.format (lending here.Start) c.requires.ready _ c.says.ensures)
