use mathlib.Core.Bool.{false}
use Rattle.edit.specs.Calls.{lent}
use Rattle.edit_indent_plans.proofs.Lines.{lines_plan}
use Rattle.edit_indent.proofs.Spaces.{Indenting, turns}
use Rattle.edit_indent.proofs.indent_lines.Given as goal

abbrev pub invariant-loop-left : goal.invariant-loop-left
invariant-loop-left l = Indenting l.checked.format (lent l.initial.text l.initial.records l.initial.texts l.initial.line_now l.initial.log_now)
    (lines_plan (lent l.initial.text l.initial.records l.initial.texts l.initial.line_now l.initial.log_now) l.m false l.from l.to) l.m
    (lent l.text l.records l.texts l.line_now l.log_now) l.cursor l.at l.end l.left

abbrev pub decreases-loop-left : goal.decreases-loop-left
decreases-loop-left l = turns l.m l.at l.end l.left
