use Rattle.repertoire.specs.Repertoire.{catalogue}
use Rattle.edit.specs.Calls.{Lent, lent, text_of}
use Rattle.edit.proofs.Answers.{cursor_in}
use Rattle.edit_insert.proofs.Suits.{yank_pop_suits}
use Rattle.edit_insert.proofs.Twice.{pop_plan}
use Rattle.edit.proofs.Made.{plan_made}
use Rattle.edit_insert.proofs.yank_pop_checked.Goals as goal
use Rattle.edit_insert.proofs.yank_pop_checked.Goals.{Start}

-- ---- at the start: what is lent
abbrev lending : Start → Lent
lending s = let a = s.args in lent a.text.now a.records.now a.texts.now a.checked.line a.checked.log

pub cut_and_put-requires : goal.cut_and_put-requires
cut_and_put-requires c =
    let a = c.args in
    let l = lending (goal.at.cut_and_put-requires c).Start in
    record {
      fit = c.requires.ready.log.fit;
      ready = c.requires.ready;
      last_at = c.requires.last_at;
      all_suit = yank_pop_suits catalogue (text_of l) a.checked.line.cursor (cursor_in a.checked.format l c.requires.ready) a.size a.buf.now c.requires.buf_value
          c.requires.size_value;
    }

pub returns : goal.returns
returns c =
    let a = c.args in
    plan_made a.checked.format (lending (goal.at.returns c).Start) (pop_plan a.checked.line.cursor a.size a.buf.now c.empty_is-number.ensures)
    c.cut_and_put.ensures
