use Prim.Native.Nat.{◌≤◌}
use mathlib.Core.Path.{◌≡◌}
use mathlib.Core.Bool.{true}
use lib.ListN.{length, take}
use Rattle.std.specs.Prelude.{None}
use Rattle.utf8.specs.Chars.{boundary}
use Rattle.motion.specs.Search.{last_found}
use Rattle.motion.proofs.Search.{behind}
use Rattle.motion.proofs.match_backward.Given as goal

abbrev pub invariant-loop-left : goal.invariant-loop-left
invariant-loop-left l = (l.at ≤ length l.s) × (boundary l.s l.at ≡ true)
    × (last_found None (take l.n (behind l.s l.c l.pos)) ≡ last_found l.found (take l.left (behind l.s l.c l.at)))

abbrev pub decreases-loop-left : goal.decreases-loop-left
decreases-loop-left l = l.at
