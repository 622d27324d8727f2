use Prim.Native.Nat.{◌≤◌, ◌-◌}
use mathlib.Core.Path.{◌≡◌}
use mathlib.Core.Bool.{true}
use lib.ListN.{length, take}
use Rattle.lists.specs.Lists.{sum}
use Rattle.utf8.specs.Chars.{boundary}
use Rattle.repertoire.specs.Repertoire.{catalogue}
use Rattle.motion.specs.Steps.{sizes}
use Rattle.motion.proofs.prev_pos.Given as goal

abbrev pub invariant-loop : goal.invariant-loop
invariant-loop l = (l.at ≤ length l.s) × (boundary l.s l.at ≡ true) ×
    (sum (take (length (sizes catalogue (take l.pos l.s)) - l.n) (sizes catalogue (take l.pos l.s))) ≡ sum
    (take (length (sizes catalogue (take l.at l.s)) - (l.n - l.counter)) (sizes catalogue (take l.at l.s))))
