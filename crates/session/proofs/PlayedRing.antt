-- Calls of the ring played one after the other on values, for a case that is computed: each is lent the bytes of the ring that the one before it left. Assumes nothing.
use Prim.Native.Nat.{ℕ, ◌*◌}
use mathlib.Core.List.{List, [], ◌∷◌, ◌++◌}
use lib.ListN.{length}
use Rattle.repertoire.specs.Repertoire.{catalogue}
use Rattle.checks.specs.Outcome.{Outcome, leaves}
use Rattle.numbers.specs.Numbers.{le}
use Rattle.kill_ring.specs.Ring.{KillRing, empty}
use Rattle.kill_ring.specs.Calls.{Lent, lent, ring_of, reset_call, kill_call}
use Rattle.session.proofs.Played.{buffer}

-- each slot in 4,096 bytes, and its length in 2
abbrev pub slot_bytes : List (List ℕ) → List ℕ
slot_bytes [] = []
slot_bytes (s ∷ ss) = buffer 4096 s ++ slot_bytes ss

abbrev pub len_bytes : List (List ℕ) → List ℕ
len_bytes [] = []
len_bytes (s ∷ ss) = le 2 (length s) ++ len_bytes ss

-- the bytes of a ring, in buffers as long as its size asks
abbrev pub lending : KillRing → Lent
lending v = lent (buffer (4096 * v.size) (slot_bytes v.slots)) (buffer (2 * v.size) (len_bytes v.slots)) (ring_of v)

-- a call on what is lent
abbrev pub Doing : Type 0
Doing = Lent → Outcome KillRing

-- a text killed, appended
abbrev pub killing : List ℕ → Doing
killing text l = kill_call catalogue l text 0

abbrev pub resetting : Doing
resetting l = reset_call catalogue l

-- what they leave
abbrev pub played : List Doing → KillRing → KillRing
played [] v = v
played (f ∷ fs) v = played fs (leaves (f (lending v)) v)

-- from an empty ring of a size
abbrev pub after : ℕ → List Doing → KillRing
after size fs = played fs (empty size)
