use Rattle.motion.proofs.Search.{ahead}
use Prim.Native.Nat.{◌≤◌, ◌-◌}
use mathlib.Core.Path.{◌≡◌}
use lib.ListN.{length, take}
use Rattle.std.specs.Prelude.{None}
use Rattle.motion.specs.Search.{last_found}
use Rattle.motion.proofs.match_from.Given as goal

abbrev pub invariant-loop-left : goal.invariant-loop-left
invariant-loop-left l = (l.at ≤ length l.s) × (last_found None (take l.n (ahead l.s l.c l.from)) ≡ last_found l.found
    (take l.left (ahead l.s l.c l.at)))

abbrev pub decreases-loop-left : goal.decreases-loop-left
decreases-loop-left l = length l.s - l.at
