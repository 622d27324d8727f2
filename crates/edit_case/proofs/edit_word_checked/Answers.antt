use mathlib.Core.Path.{sym}
use lib.Seq.{length-take-le}
use Rattle.utf8.specs.Chars.{In}
use Rattle.repertoire.specs.Repertoire.{catalogue}
use Rattle.edit.specs.Calls.{Lent, lent, text_of}
use Rattle.edit.proofs.Answers.{cursor_in, stays}
use Rattle.edit.proofs.Made.{plan_made}
use Rattle.edit_case.proofs.Begins.{skip_in, case_at, case_none}
use Rattle.edit_case.proofs.edit_word_checked.Goals as goal
use Rattle.edit_case.proofs.edit_word_checked.Goals.{Start}

abbrev lending : Start → Lent
lending entry = let a = entry.args in lent a.text.now a.records.now a.texts.now a.checked.line a.checked.log

-- ---- what the check has passed
inside : (c : Start) → let l = (lending c) in In (text_of l) l.line.cursor
    l.line.cursor
inside c = cursor_in c.args.checked.format (lending c) c.requires.ready

-- ---- a place is sought in the text
pub slice_bounds-skip_whitespace-end-2 : goal.slice_bounds-skip_whitespace-end-2
slice_bounds-skip_whitespace-end-2 c = sym (length-take-le _ _ c.requires.ready.used)

pub skip_whitespace-found-requires : goal.skip_whitespace-found-requires
skip_whitespace-found-requires c = (inside (goal.at.skip_whitespace-found-requires c).Start).1

pub case_from-requires : goal.case_from-requires
case_from-requires c =
    let here = goal.at.case_from-requires c in
    let a = c.args in
    record {
      ready = c.requires.ready;
      last_at = c.requires.last_at;
      in_text = skip_in catalogue (text_of (lending here.Start)) a.action a.checked.line.cursor _
          c.skip_whitespace-found.ensures
          c.requires.ready.text (inside here.Start) _ c.in-Some.is;
    }

pub returns-in-Some : goal.returns-in-Some
returns-in-Some c =
    let here = goal.at.returns-in-Some c in
    let a = c.args in
    plan_made a.checked.format (lending here.Start)
    (case_at catalogue (text_of (lending here.Start)) a.action a.checked.line.cursor _ c.skip_whitespace-found.ensures _
    c.in-Some.is)
    c.case_from.ensures

pub returns-in-None : goal.returns-in-None
returns-in-None c =
    let here = goal.at.returns-in-None c in
    let a = c.args in
    plan_made a.checked.format (lending here.Start)
    (case_none catalogue (text_of (lending here.Start)) a.action a.checked.line.cursor _ c.skip_whitespace-found.ensures
    c.in-None.is)
    (stays a.checked.format (lending here.Start) c.requires.ready _ c.says.ensures)
