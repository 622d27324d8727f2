use Prim.Native.Nat.{◌≤◌, ◌+◌, ◌-◌}
use mathlib.Core.Path.{◌≡◌}
use lib.ListN.{length, take, drop}
use Rattle.lists.specs.Lists.{sum}
use Rattle.repertoire.specs.Repertoire.{catalogue}
use Rattle.motion.specs.Steps.{sizes}
use Rattle.motion.proofs.next_pos.Given as goal

abbrev pub invariant-loop : goal.invariant-loop
invariant-loop l = (l.at ≤ length l.s) × (l.at + sum (take (l.n - l.counter) (sizes catalogue (drop l.at l.s))) ≡ l.pos + sum
    (take l.n (sizes catalogue (drop l.pos l.s))))
