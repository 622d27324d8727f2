use Prim.Native.Nat.{◌-◌}
use mathlib.Core.Bool.{true}
use Rattle.edit.specs.Calls.{lent}
use Rattle.edit_indent_plans.proofs.Lines.{way, lines_plan, Lines}
use Rattle.edit_indent.proofs.dedent_lines.Given as goal

abbrev pub invariant-loop-end : goal.invariant-loop-end
invariant-loop-end l = Lines l.checked.format (lent l.initial.text l.initial.records l.initial.texts l.initial.line_now l.initial.log_now)
    (lines_plan (lent l.initial.text l.initial.records l.initial.texts l.initial.line_now l.initial.log_now) l.m true l.from l.to)
    (way l.m true l.at) (lent l.text l.records l.texts l.line_now l.log_now) l.cursor l.at l.end

abbrev pub decreases-loop-end : goal.decreases-loop-end
decreases-loop-end l = l.end - l.at
