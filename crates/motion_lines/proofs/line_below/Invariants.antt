use Prim.Native.Nat.{◌≤◌, ◌-◌}
use mathlib.Core.Path.{◌≡◌}
use lib.ListN.{length}
use Rattle.motion_lines.specs.Columns.{line_below}
use Rattle.motion_lines.proofs.line_below.Given as goal

abbrev pub invariant-loop : goal.invariant-loop
invariant-loop l = (l.below.start ≤ l.below.end) × (l.below.end ≤ length l.s) ×
    (line_below l.s l.n l.fn.line.start l.fn.line.end ≡ line_below l.s (l.n - l.counter) l.below.start l.below.end)
