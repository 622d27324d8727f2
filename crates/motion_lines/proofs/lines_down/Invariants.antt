use Prim.Native.Nat.{◌≤◌, ◌-◌}
use mathlib.Core.Path.{◌≡◌}
use lib.ListN.{length}
use Rattle.motion_lines.specs.Lines.{lines_down}
use Rattle.motion_lines.proofs.lines_down.Given as goal

abbrev pub invariant-loop : goal.invariant-loop
invariant-loop l = (l.e ≤ l.end) × (l.end ≤ length l.s) × (lines_down l.s l.n l.e ≡ lines_down l.s (l.n - l.counter) l.end)
