use Prim.Native.Nat.{◌≤◌}
use mathlib.Core.Path.{◌≡◌}
use mathlib.Core.Bool.{false}
use lib.ListN.{drop}
use Rattle.lists.specs.Lists.{any}
use Rattle.motion_lines.specs.Lines.{newline}
use Rattle.edit_indent_plans.proofs.last_newline.Given as goal

abbrev pub invariant-loop-i : goal.invariant-loop-i
invariant-loop-i l = (l.pos ≤ l.i) × (any newline (drop l.i l.s) ≡ false)
