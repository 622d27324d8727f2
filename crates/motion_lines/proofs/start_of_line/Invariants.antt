use mathlib.Core.Path.{◌≡◌}
use Rattle.motion_lines.specs.Lines.{start_of_line}
use Rattle.motion_lines.proofs.start_of_line.Given as goal

abbrev pub invariant-loop-i : goal.invariant-loop-i
invariant-loop-i l = start_of_line l.s l.pos ≡ start_of_line l.s l.i
