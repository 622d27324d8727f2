use mathlib.Core.Path.{◌≡◌, sym}
use mathlib.Core.Bool.{true}
use lib.Seq.{length-take-le}
use Rattle.utf8.specs.Chars.{In, valid}
use Rattle.repertoire.specs.Repertoire.{catalogue}
use Rattle.repertoire.proofs.Text.{text-valid}
use Rattle.edit.specs.Calls.{Lent, lent, text_of}
use Rattle.edit.proofs.Answers.{cursor_in, stays}
use Rattle.edit.proofs.Made.{plan_made}
use Rattle.edit_transpose.proofs.Begins.{starts_in, plan_at, plan_none}
use Rattle.edit_transpose.proofs.transpose_chars_checked.Goals as goal
use Rattle.edit_transpose.proofs.transpose_chars_checked.Goals.{Start}

abbrev lending : Start → Lent
lending entry = let a = entry.args in lent a.text.now a.records.now a.texts.now a.checked.line a.checked.log

-- ---- what the check has passed
is-valid : (c : Start) → valid (text_of (lending c)) ≡ true
is-valid c = text-valid catalogue (text_of (lending c))
    c.requires.ready.text

inside : (c : Start) → let l = (lending c) in In (text_of l) l.line.cursor
    l.line.cursor
inside c = cursor_in c.args.checked.format (lending c) c.requires.ready

-- ---- a place is sought in the text
pub slice_bounds-starts_at-end-2 : goal.slice_bounds-starts_at-end-2
slice_bounds-starts_at-end-2 c = sym (length-take-le _ _ c.requires.ready.used)

pub starts_at-found-requires : goal.starts_at-found-requires
starts_at-found-requires c =
    let here = goal.at.starts_at-found-requires c in (
      is-valid here.Start,
      (inside here.Start).2,
      (inside here.Start).1,
    )

pub exchange_at-requires : goal.exchange_at-requires
exchange_at-requires c =
    let here = goal.at.exchange_at-requires c in
    let a = c.args in
    record {
      ready = c.requires.ready;
      last_at = c.requires.last_at;
      in_text = starts_in catalogue (text_of (lending here.Start))
          (is-valid here.Start) a.checked.line.cursor (inside here.Start) _ _
          c.starts_at-found.ensures c.in-Some.is;
    }

pub returns-in-Some : goal.returns-in-Some
returns-in-Some c =
    let here = goal.at.returns-in-Some c in
    let a = c.args in
    plan_made a.checked.format (lending here.Start)
    (plan_at catalogue (text_of (lending here.Start)) a.checked.line.cursor _ c.starts_at-found.ensures _ c.in-Some.is)
    c.exchange_at.ensures

pub returns-in-None : goal.returns-in-None
returns-in-None c =
    let here = goal.at.returns-in-None c in
    let a = c.args in
    plan_made a.checked.format (lending here.Start)
    (plan_none catalogue (text_of (lending here.Start)) a.checked.line.cursor _ c.starts_at-found.ensures c.in-None.is)
    (stays a.checked.format (lending here.Start) c.requires.ready _ c.says.ensures)
