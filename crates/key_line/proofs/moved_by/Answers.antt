use mathlib.Core.Path.{sym, ap, ◌∙◌}
use lib.ListN.{length}
use lib.Seq.{length-take-le}
use Rattle.repertoire.specs.Repertoire.{catalogue}
use Rattle.formats.specs.Formats.{format_for}
use Rattle.checks.specs.Checks.{no_tests}
use Rattle.checks.proofs.Fit.{Fit, fit, fit-valid, fit-within}
use Rattle.motion_calls.specs.Moves.{elsewhere}
use Rattle.key_press.specs.declared.MoveKey.TheVariants as mk
use Rattle.key_line.proofs.Moves.{key-moved}
use Rattle.key_line.proofs.moved_by.Goals as goal
use Rattle.key_line.proofs.moved_by.Goals.{Start}

fits : (s : Start) → Fit catalogue (format_for (length s.args.text.now)) s.args.text.now s.args.line
fits s = (fit catalogue _ s.args.text.now s.args.line no_tests s.requires).0

pub slice_bounds-s-end : goal.slice_bounds-s-end
slice_bounds-s-end c = sym (length-take-le _ _ (fits (goal.at.slice_bounds-s-end c).Start).used)

pub start_of_line-requires : goal.start_of_line-requires
start_of_line-requires c = fit-within catalogue _ c.args.text.now c.args.line (fits (goal.at.start_of_line-requires c).Start)

pub end_of_line-requires : goal.end_of_line-requires
end_of_line-requires c = fit-within catalogue _ c.args.text.now c.args.line (fits (goal.at.end_of_line-requires c).Start)

pub prev_pos-requires : goal.prev_pos-requires
prev_pos-requires c =
    let f = fits (goal.at.prev_pos-requires c).Start in
    (fit-valid catalogue _ c.args.text.now c.args.line f, f.at-boundary, fit-within catalogue _ c.args.text.now c.args.line f)

pub prev_word_pos-requires : goal.prev_word_pos-requires
prev_word_pos-requires c =
    let f = fits (goal.at.prev_word_pos-requires c).Start in
    (fit-valid catalogue _ c.args.text.now c.args.line f, f.at-boundary, fit-within catalogue _ c.args.text.now c.args.line f)

pub next_word_pos-requires : goal.next_word_pos-requires
next_word_pos-requires c = fit-within catalogue _ c.args.text.now c.args.line (fits (goal.at.next_word_pos-requires c).Start)

pub returns-in-Home : goal.returns-in-Home
returns-in-Home c = key-moved c.args.text.now c.args.line c.requires mk.Home c.in-Home.is
    (c.elsewhere.ensures ∙ ap (elsewhere c.args.line) c.start_of_line.ensures.0) c.moved_to.ensures

pub returns-in-End : goal.returns-in-End
returns-in-End c = key-moved c.args.text.now c.args.line c.requires mk.End c.in-End.is
    (c.elsewhere-in-End.ensures ∙ ap (elsewhere c.args.line) c.end_of_line.ensures.0) c.moved_to-in-End.ensures

pub returns-in-Backward : goal.returns-in-Backward
returns-in-Backward c =
    key-moved c.args.text.now c.args.line c.requires (mk.Backward c.in-Backward.n) c.in-Backward.is c.prev_pos.ensures
    c.moved_to-in-Backward.ensures

pub returns-in-Forward : goal.returns-in-Forward
returns-in-Forward c =
    key-moved c.args.text.now c.args.line c.requires (mk.Forward c.in-Forward.n) c.in-Forward.is c.next_pos.ensures
    c.moved_to-in-Forward.ensures

pub returns-in-PrevWord : goal.returns-in-PrevWord
returns-in-PrevWord c =
    key-moved c.args.text.now c.args.line c.requires (mk.PrevWord c.in-PrevWord.n) c.in-PrevWord.is c.prev_word_pos.ensures
    c.moved_to-in-PrevWord.ensures

pub returns-in-NextWord : goal.returns-in-NextWord
returns-in-NextWord c =
    key-moved c.args.text.now c.args.line c.requires (mk.NextWord c.in-NextWord.n) c.in-NextWord.is c.next_word_pos.ensures
    c.moved_to-in-NextWord.ensures
