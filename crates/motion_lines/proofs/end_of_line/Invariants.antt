use mathlib.Core.Path.{◌≡◌}
use Rattle.motion_lines.specs.Lines.{end_of_line}
use Rattle.motion_lines.proofs.end_of_line.Given as goal

abbrev pub invariant-loop-i : goal.invariant-loop-i
invariant-loop-i l = end_of_line l.s l.pos ≡ end_of_line l.s l.i
