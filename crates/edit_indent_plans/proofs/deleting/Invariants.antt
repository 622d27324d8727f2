use Prim.Native.Nat.{◌≤◌, ◌-◌, ◌+◌}
use mathlib.Core.Path.{◌≡◌}
use lib.ListN.{length, drop}
use Rattle.utf8.specs.Chars.{chars}
use Rattle.repertoire.specs.Repertoire.{catalogue}
use Rattle.edit_indent_plans.specs.Touched.{leading}
use Rattle.edit_indent_plans.proofs.deleting.Given as goal

abbrev pub invariant-loop-i : goal.invariant-loop-i
invariant-loop-i l = (l.i ≤ length l.x) × (l.i + leading catalogue (chars (drop l.i l.x)) ≡ leading catalogue (chars l.x))

abbrev pub decreases-loop-i : goal.decreases-loop-i
decreases-loop-i l = l.m - l.i
