use native.Mathlib.Omega.{arith}
use Prim.Native.Nat.{◌<◌, ◌≤◌}
use mathlib.Core.Bool.{false}
use mathlib.Core.Path.{sym}
use lib.Seq.{length-take-le}
use Rattle.formats.specs.Formats.{text_max}
use Rattle.edit.specs.Calls.{lent}
use Rattle.edit_indent_plans.proofs.Lines.{lines_begin, end_in, lines_end}
use Rattle.edit_indent.proofs.Spaces.{opens, done_in, last_done, next-done, piece_within, put_suits, next-put, turns_line, turns_put}
use Rattle.edit_indent.proofs.indent_lines.Goals as goal
use Rattle.edit_indent.proofs.indent_lines.Goals.{After-piece-n}

-- the turn's piece, from where it is put in
sizes : (c : After-piece-n) → (0 < c.piece-n.result) × (c.piece-n.result ≤ 32)
    × (c.piece-n.result ≤ c.loop-left.left) × (c.loop-left.end ≤ text_max)
sizes c = piece_within c.loop-left.invariant c.if-left-eq0.false c.piece-n.ensures

pub indented-cursor-requires : goal.indented-cursor-requires
indented-cursor-requires c =
    omega (arith, c.requires.m_bound, c.requires.ready.within, c.requires.ready.used, c.requires.ready.limit, c.requires.ready.log.fit.text)

pub loop-left-init : goal.loop-left-init
loop-left-init c = opens
    (lines_begin (lent c.args.text.now c.args.records.now c.args.texts.now c.args.checked.line c.args.checked.log) c.args.m false c.args.from
    c.args.to (c.requires.ready, (c.requires.from_le_to, (c.requires.all_suit, (c.requires.text_value, c.requires.log_value)))))
    (omega arith) c.indented-cursor.ensures

pub slice_bounds-end_of_line-end : goal.slice_bounds-end_of_line-end
slice_bounds-end_of_line-end c = (end_in c.loop-left.invariant.lines).0

pub slice_bounds-end_of_line-end-then-left-eq0 : goal.slice_bounds-end_of_line-end-then-left-eq0
slice_bounds-end_of_line-end-then-left-eq0 c = sym (length-take-le _ _ (end_in c.loop-left.invariant.lines).0)

pub overflow_add-at : goal.overflow_add-at
overflow_add-at c =
    let k = c.loop-left.invariant.lines in
    omega (arith, end_in k, k.order, c.if-left-eq0.true)

pub end_of_line-e-requires : goal.end_of_line-e-requires
end_of_line-e-requires c =
    omega (
      arith,
      c.loop-left.invariant.lines.order,
      c.if-left-eq0.true,
      length-take-le c.loop-left.end c.loop-left.text
          (end_in c.loop-left.invariant.lines).0,
    )

pub shape_of-text-then-e-end : goal.shape_of-text-then-e-end
shape_of-text-then-e-end c = c.loop-left.invariant.lines.left.text

pub shape_of-records-then-e-end : goal.shape_of-records-then-e-end
shape_of-records-then-e-end c = c.loop-left.invariant.lines.left.records

pub shape_of-texts-then-e-end : goal.shape_of-texts-then-e-end
shape_of-texts-then-e-end c = c.loop-left.invariant.lines.left.texts

pub returns-then-e-end : goal.returns-then-e-end
returns-then-e-end c =
    lines_end (last_done c.loop-left.invariant c.if-left-eq0.true c.end_of_line-e.ensures.0 c.if-e-end.true) c.says.ensures

pub overflow_add-at-then-left-eq0 : goal.overflow_add-at-then-left-eq0
overflow_add-at-then-left-eq0 c = omega (arith, done_in c.loop-left.invariant c.if-left-eq0.true c.end_of_line-e.ensures.0)

pub indented-cursor-requires-then-left-eq0 : goal.indented-cursor-requires-then-left-eq0
indented-cursor-requires-then-left-eq0 c =
    let k = c.loop-left.invariant in
    let w = done_in k c.if-left-eq0.true c.end_of_line-e.ensures.0 in
    omega (
      arith,
      w,
      k.low,
      c.requires.m_bound,
      c.requires.ready.within,
      c.requires.ready.used,
      c.requires.ready.limit,
      c.requires.ready.log.fit.text,
    )

pub loop-left-smaller-then-left-eq0 : goal.loop-left-smaller-then-left-eq0
loop-left-smaller-then-left-eq0 c =
    let z = c.if-left-eq0.true in
    turns_line _ _ _ _ _ z c.requires.m_bound (done_in c.loop-left.invariant z c.end_of_line-e.ensures.0) c.if-e-end.false

pub loop-left-preserved-then-left-eq0 : goal.loop-left-preserved-then-left-eq0
loop-left-preserved-then-left-eq0 c =
    next-done c.loop-left.invariant c.if-left-eq0.true c.end_of_line-e.ensures.0 c.if-e-end.false c.indented-cursor-then-left-eq0.ensures

pub slice_bounds-spaces-end : goal.slice_bounds-spaces-end
slice_bounds-spaces-end c = (sizes (goal.at.slice_bounds-spaces-end c).After-piece-n).1

pub slice_bounds-put_in-end : goal.slice_bounds-put_in-end
slice_bounds-put_in-end c = sym (length-take-le _ _ (sizes (goal.at.slice_bounds-put_in-end c).After-piece-n).1)

pub put_in-a-requires : goal.put_in-a-requires
put_in-a-requires c =
    let k = c.loop-left.invariant in
    let q = put_suits k c.if-left-eq0.false c.piece-n.ensures in
    record {
      fit = k.lines.left.ready.log.fit;
      ready = k.lines.left.ready;
      in_text = q.0;
      new_text = q.1;
    }

pub overflow_add-end : goal.overflow_add-end
overflow_add-end c = omega (arith, sizes (goal.at.overflow_add-end c).After-piece-n)

pub overflow_sub-left : goal.overflow_sub-left
overflow_sub-left c = (sizes (goal.at.overflow_sub-left c).After-piece-n).2

pub loop-left-smaller : goal.loop-left-smaller
loop-left-smaller c =
    let here = goal.at.loop-left-smaller c in
    turns_put _ _ _ _ _ (sizes here.After-piece-n).0 (sizes here.After-piece-n).2

pub loop-left-preserved : goal.loop-left-preserved
loop-left-preserved c =
    next-put c.loop-left.invariant c.if-left-eq0.false c.piece-n.ensures c.put_in-a.ensures c.put_in-a.auto.text c.put_in-a.auto.records
    c.put_in-a.auto.texts
