use Prim.Native.Nat.{◌≤◌, ◌-◌}
use mathlib.Core.Path.{◌≡◌}
use Rattle.motion_lines.specs.Lines.{lines_up}
use Rattle.motion_lines.proofs.lines_up.Given as goal

abbrev pub invariant-loop : goal.invariant-loop
invariant-loop l = (l.start ≤ l.a) × (lines_up l.s l.n l.a ≡ lines_up l.s (l.n - l.counter) l.start)
