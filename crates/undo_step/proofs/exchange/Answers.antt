use native.Mathlib.Omega.{arith}
use mathlib.Core.Path.{◌≡◌, sym, ◌∙◌}
use mathlib.Core.Bool.{true}
use lib.ListN.{length, take}
use lib.Seq.{length-take-le}
use Rattle.utf8.specs.Chars.{valid}
use Rattle.repertoire.specs.Repertoire.{catalogue}
use Rattle.repertoire.proofs.Text.{text-valid}
use Rattle.undo_step.proofs.Exchanges.{ends_outside, cuts_first, cuts_last, too_long, stopped, exchanged}
use Rattle.undo_step.proofs.exchange.Goals as goal
use Rattle.undo_step.proofs.exchange.Goals.{Start}

-- the text is as long as it is said to be, and is UTF-8
used : (s : Start) → length (take s.args.len s.args.text.now) ≡ s.args.len
used s = length-take-le s.args.len s.args.text.now s.requires.len_in_bounds.0

is-valid : (s : Start) → valid (take s.args.len s.args.text.now) ≡ true
is-valid s = text-valid catalogue (take s.args.len s.args.text.now) s.requires.text_value

pub returns-then-len-end : goal.returns-then-len-end
returns-then-len-end c =
    let a = c.args in
    stopped (length a.text.now) a.place a.out a.put.now (take a.len a.text.now) 12 a.text.now
    (ends_outside (length a.text.now) a.place a.out a.put.now (take a.len a.text.now)
    (omega (arith, c.if-len-end.true, used (goal.at.returns-then-len-end c).Start)))

pub slice_bounds-is_boundary-end-2 : goal.slice_bounds-is_boundary-end-2
slice_bounds-is_boundary-end-2 c = sym (used (goal.at.slice_bounds-is_boundary-end-2 c).Start)

pub returns-then-not-is_boundary : goal.returns-then-not-is_boundary
returns-then-not-is_boundary c =
    let a = c.args in
    stopped (length a.text.now) a.place a.out a.put.now (take a.len a.text.now) 12 a.text.now
    (cuts_first (length a.text.now) a.place a.out a.put.now (take a.len a.text.now)
    (sym (c.is_boundary.ensures.text (is-valid (goal.at.returns-then-not-is_boundary c).Start)) ∙ c.if-not-is_boundary.true))

pub slice_bounds-is_boundary-end-4 : goal.slice_bounds-is_boundary-end-4
slice_bounds-is_boundary-end-4 c = sym (used (goal.at.slice_bounds-is_boundary-end-4 c).Start)

pub returns-then-not-is_boundary-2 : goal.returns-then-not-is_boundary-2
returns-then-not-is_boundary-2 c =
    let a = c.args in
    stopped (length a.text.now) a.place a.out a.put.now (take a.len a.text.now) 12 a.text.now
    (cuts_last (length a.text.now) a.place a.out a.put.now (take a.len a.text.now)
    (sym (c.is_boundary-2.ensures.text (is-valid (goal.at.returns-then-not-is_boundary-2 c).Start)) ∙ c.if-not-is_boundary-2.true))

pub returns-then-text-left : goal.returns-then-text-left
returns-then-text-left c =
    let here = goal.at.returns-then-text-left c in
    let a = c.args in
    let h = c.if-len-end.false in
    stopped (length a.text.now) a.place a.out a.put.now (take a.len a.text.now) 9 a.text.now
    (too_long (length a.text.now) a.place a.out a.put.now (take a.len a.text.now)
    (omega (arith, h, used here.Start))
    (sym (c.is_boundary.ensures.text (is-valid here.Start)) ∙ c.if-not-is_boundary.false)
    (sym (c.is_boundary-2.ensures.text (is-valid here.Start)) ∙ c.if-not-is_boundary-2.false)
    (omega (arith, h, used here.Start, c.if-text-left.true)))

pub returns : goal.returns
returns c =
    let here = goal.at.returns c in
    let a = c.args in
    let h = c.if-len-end.false in
    exchanged (length a.text.now) a.place a.out a.put.now (take a.len a.text.now) a.len a.text.now c.cut_bytes.new.s
    _ (used here.Start)
    (record {
      ends = omega (arith, h, used here.Start);
      first = sym (c.is_boundary.ensures.text (is-valid here.Start)) ∙ c.if-not-is_boundary.false;
      last = sym (c.is_boundary-2.ensures.text (is-valid here.Start)) ∙ c.if-not-is_boundary-2.false;
      room = omega (arith, h, used here.Start, c.if-text-left.false, c.requires.len_in_bounds.0);
    }) c.cut_bytes.ensures c.insert_bytes.ensures
