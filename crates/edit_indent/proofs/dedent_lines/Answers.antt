use native.Mathlib.Omega.{arith}
use Prim.Native.Nat.{◌+◌, ◌≤◌}
use mathlib.Core.Bool.{true}
use mathlib.Core.Path.{sym, ◌∙◌}
use lib.Seq.{length-take-le}
use Rattle.lists.proofs.Bools.{never}
use Rattle.formats.specs.Formats.{text_max}
use Rattle.edit.specs.Calls.{lent}
use Rattle.edit_indent_plans.proofs.Lines.{lines_begin, end_in, line_in, lines_end}
use Rattle.edit_indent.proofs.Cuts.{cut_in, cut_suits, cut_apart, last_cut, next-cut}
use Rattle.edit_indent.proofs.dedent_lines.Goals as goal
use Rattle.edit_indent.proofs.dedent_lines.Goals.{After-deleting-d}

-- the turn's cut, from where its cursor has moved
sizes : (c : After-deleting-d)
    → (c.loop-end.at + c.deleting-d.result ≤ c.end_of_line-e.result)
    × (c.end_of_line-e.result ≤ c.loop-end.end)
    × (c.loop-end.end ≤ text_max)
sizes c = cut_in _ c.loop-end.invariant c.end_of_line-e.ensures.0 c.deleting-d.ensures.0

pub loop-end-init : goal.loop-end-init
loop-end-init c =
    lines_begin (lent c.args.text.now c.args.records.now c.args.texts.now c.args.checked.line c.args.checked.log) c.args.m true c.args.from c.args.to
    (c.requires.ready, (c.requires.from_le_to, (c.requires.all_suit, (c.requires.text_value, c.requires.log_value))))

pub slice_bounds-end_of_line-end : goal.slice_bounds-end_of_line-end
slice_bounds-end_of_line-end c = (end_in c.loop-end.invariant).0

pub slice_bounds-end_of_line-end-in-loop-end : goal.slice_bounds-end_of_line-end-in-loop-end
slice_bounds-end_of_line-end-in-loop-end c = sym (length-take-le _ _ (end_in c.loop-end.invariant).0)

pub end_of_line-e-requires : goal.end_of_line-e-requires
end_of_line-e-requires c =
    omega (arith, c.loop-end.invariant.order, length-take-le c.loop-end.end c.loop-end.text (end_in c.loop-end.invariant).0)

pub slice_bounds-deleting-count : goal.slice_bounds-deleting-count
slice_bounds-deleting-count c = (line_in c.loop-end.invariant c.end_of_line-e.ensures.0).0

pub slice_bounds-deleting-end : goal.slice_bounds-deleting-end
slice_bounds-deleting-end c =
    let k = c.loop-end.invariant in
    omega (arith, line_in k c.end_of_line-e.ensures.0, end_in k)

pub overflow_add-at : goal.overflow_add-at
overflow_add-at c = omega (arith, sizes (goal.at.overflow_add-at c).After-deleting-d)

pub cut_out-a-requires : goal.cut_out-a-requires
cut_out-a-requires c =
    let k = c.loop-end.invariant in
    let apart = cut_apart _ k c.end_of_line-e.ensures.0 c.deleting-d.ensures.0 in
    record {
      fit = k.left.ready.log.fit;
      ready = k.left.ready;
      in_text = cut_suits _ k c.end_of_line-e.ensures.0 c.deleting-d.ensures.0;
      last_at = (λ j. never _ _ j apart);
    }

pub shape_of-text-then-e-end : goal.shape_of-text-then-e-end
shape_of-text-then-e-end c = c.cut_out-a.auto.text ∙ c.loop-end.invariant.left.text

pub shape_of-records-then-e-end : goal.shape_of-records-then-e-end
shape_of-records-then-e-end c = c.cut_out-a.auto.records ∙ c.loop-end.invariant.left.records

pub shape_of-texts-then-e-end : goal.shape_of-texts-then-e-end
shape_of-texts-then-e-end c = c.cut_out-a.auto.texts ∙ c.loop-end.invariant.left.texts

pub returns-then-e-end : goal.returns-then-e-end
returns-then-e-end c = lines_end
    (last_cut _ c.loop-end.invariant c.end_of_line-e.ensures.0 c.deleting-d.ensures.0 c.cut_out-a.ensures c.cut_out-a.auto.text
    c.cut_out-a.auto.records c.cut_out-a.auto.texts c.dedented-cursor.ensures c.if-e-end.true) c.says.ensures

pub overflow_sub-at : goal.overflow_sub-at
overflow_sub-at c = omega (arith, sizes (goal.at.overflow_sub-at c).After-deleting-d)

pub overflow_add-at-in-loop-end : goal.overflow_add-at-in-loop-end
overflow_add-at-in-loop-end c = omega (arith, sizes (goal.at.overflow_add-at-in-loop-end c).After-deleting-d)

pub overflow_sub-end : goal.overflow_sub-end
overflow_sub-end c = omega (arith, sizes (goal.at.overflow_sub-end c).After-deleting-d)

pub loop-end-smaller : goal.loop-end-smaller
loop-end-smaller c = omega (arith, sizes (goal.at.loop-end-smaller c).After-deleting-d, c.if-e-end.false)

pub loop-end-preserved : goal.loop-end-preserved
loop-end-preserved c =
    next-cut _ c.loop-end.invariant c.end_of_line-e.ensures.0 c.deleting-d.ensures.0 c.cut_out-a.ensures c.cut_out-a.auto.text
    c.cut_out-a.auto.records c.cut_out-a.auto.texts c.dedented-cursor.ensures c.if-e-end.false
