use Prim.Native.Nat.{◌≤◌, ◌-◌}
use mathlib.Core.Path.{◌≡◌}
use Rattle.motion_lines.specs.Columns.{line_above}
use Rattle.motion_lines.proofs.line_above.Given as goal

abbrev pub invariant-loop : goal.invariant-loop
invariant-loop l = (l.above.start ≤ l.above.end) × (l.above.end ≤ l.fn.line.end) ×
    (line_above l.s l.n l.fn.line.start l.fn.line.end ≡ line_above l.s (l.n - l.counter) l.above.start l.above.end)
