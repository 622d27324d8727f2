use Prim.Native.Nat.{◌≤◌}
use mathlib.Core.Path.{◌≡◌}
use mathlib.Core.Bool.{true}
use lib.ListN.{length, take}
use Rattle.utf8.specs.Chars.{boundary}
use Rattle.repertoire.specs.Repertoire.{catalogue}
use Rattle.motion.specs.Trim.{trim_end}
use Rattle.motion.proofs.trim_end.Given as goal

abbrev pub invariant-loop-at : goal.invariant-loop-at
invariant-loop-at l = (l.at ≤ length l.s) × (boundary l.s l.at ≡ true) × (trim_end catalogue l.s ≡ trim_end catalogue (take l.at l.s))

abbrev pub decreases-loop-at : goal.decreases-loop-at
decreases-loop-at l = l.at
