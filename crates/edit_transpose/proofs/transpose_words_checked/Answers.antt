use mathlib.Core.Path.{◌≡◌, sym}
use mathlib.Core.Bool.{true}
use lib.Seq.{length-take-le}
use Rattle.utf8.specs.Chars.{In, valid}
use Rattle.repertoire.specs.Repertoire.{catalogue}
use Rattle.repertoire.proofs.Text.{text-valid}
use Rattle.edit.specs.Calls.{Lent, lent, text_of}
use Rattle.edit.proofs.Answers.{cursor_in, stays_at}
use Rattle.edit.proofs.Made.{plan_made}
use Rattle.edit_transpose.proofs.Around.{words_one, words_two, words_apart}
use Rattle.edit_transpose.proofs.transpose_words_checked.Goals as goal
use Rattle.edit_transpose.proofs.transpose_words_checked.Goals.{Start}

abbrev lending : Start → Lent
lending entry = let a = entry.args in lent a.text.now a.records.now a.texts.now a.checked.line a.checked.log

-- ---- what the check has passed
is-valid : (c : Start) → valid (text_of (lending c)) ≡ true
is-valid c = text-valid catalogue (text_of (lending c))
    c.requires.ready.text

inside : (c : Start) → let l = (lending c) in In (text_of l) l.line.cursor
    l.line.cursor
inside c = cursor_in c.args.checked.format (lending c) c.requires.ready

pub slice_bounds-words_around-end-2 : goal.slice_bounds-words_around-end-2
slice_bounds-words_around-end-2 c = sym (length-take-le _ _ c.requires.ready.used)

pub words_around-w-requires : goal.words_around-w-requires
words_around-w-requires c =
    let here = goal.at.words_around-w-requires c in (
      is-valid here.Start,
      (inside here.Start).2,
      (inside here.Start).1,
    )

pub returns-then-w : goal.returns-then-w
returns-then-w c =
    let here = goal.at.returns-then-w c in
    let a = c.args in
    plan_made a.checked.format (lending here.Start)
    (words_one catalogue (text_of (lending here.Start)) a.n a.checked.line.cursor _ c.words_around-w.ensures c.if-w.true)
    (stays_at a.checked.format (lending here.Start) c.requires.ready _ _ c.says.ensures)

pub exchange_words-requires : goal.exchange_words-requires
exchange_words-requires c =
    let here = goal.at.exchange_words-requires c in
    let a = c.args in
    record {
      ready = c.requires.ready;
      last_at = c.requires.last_at;
      apart = words_apart catalogue (text_of (lending here.Start)) a.n a.checked.line.cursor _
          c.words_around-w.ensures (is-valid here.Start)
          (inside here.Start) c.if-w.false;
    }

-- ---- the words are sought in the text
pub returns : goal.returns
returns c =
    let here = goal.at.returns c in
    let a = c.args in
    plan_made a.checked.format (lending here.Start)
    (words_two catalogue (text_of (lending here.Start)) a.n a.checked.line.cursor _ c.words_around-w.ensures c.if-w.false)
    c.exchange_words.ensures
