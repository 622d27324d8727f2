-- The wrong answers that the calls' comments name: small rings at which the definitions give something else. Assumes nothing.
use Prim.Native.Nat.{ℕ}
use mathlib.Core.Path.{◌≡◌, refl}
use mathlib.Core.List.{List, [], ◌∷◌}
use lib.ListN.{replicate}
use Rattle.checks.specs.Outcome.{refused, answered}
use Rattle.kill_ring.specs.declared.Ring.{Ring}
use Rattle.kill_ring.specs.declared.Action.{Action}
use Rattle.kill_ring.specs.declared.Action.TheVariants.{Kill, Yank}
use Rattle.kill_ring.specs.declared.Mode.TheVariants.{Append, Prepend}
use Rattle.kill_ring.specs.Ring.{KillRing, empty, put_at, reset_out, kill_out, yank_out, yank_pop_out}
use Rattle.kill_ring.specs.Calls.{new_call, answer_and_ring, says}

abbrev a : List ℕ
a = 0x61 ∷ []

abbrev bb : List ℕ
bb = 0x62 ∷ 0x62 ∷ []

-- a ring of two slots at most, with its slots, its index and its last action
abbrev two : List (List ℕ) → ℕ → Action → KillRing
two ss i x = record { size = 2; slots = ss; index = i; action = x }

-- new: over 16 slots is refused, and the last action is other
new-most : (new_call 17 ≡ refused 2) × (new_call 16 ≡ answered 0 0 0 (empty 16))
new-most = (refl, refl)

new_other : (g : Ring)
    → answer_and_ring g
    (new_call 2) ≡ record { answer = says 0 0 0; ring = record { size = 2; count = 0; index = 0; action = 2; yanked = 0 } }
new_other g = refl

-- reset: the slots and the index stay, and the yank's size goes
reset_stays : (g : Ring) → answer_and_ring g (reset_out (two (a ∷ bb ∷ []) 1 (Yank 2))) ≡ record
    { answer = says 0 0 0; ring = record { size = 2; count = 2; index = 1; action = 2; yanked = 0 } }
reset_stays g = refl

-- yank: 1 where there are no slots, and no size in its answer
yank-nothing : yank_out (empty 2) ≡ answered 1 0 0 (empty 2)
unfolding yank_out
yank-nothing = refl

yank_sizeless : yank_out (two (a ∷ bb ∷ []) 0 (Yank 2)) ≡ answered 0 0 0 (two (a ∷ bb ∷ []) 0 (Yank 1))
unfolding yank_out
yank_sizeless = refl

-- yank_pop: 1 after a kill, and the size of the slot before
pop_nothing : yank_pop_out (two (a ∷ []) 0 Kill) ≡ answered 1 0 0 (two (a ∷ []) 0 Kill)
unfolding yank_pop_out
pop_nothing = refl

pop_before : yank_pop_out (two (a ∷ bb ∷ []) 1 (Yank 2)) ≡ answered 0 0 2 (two (a ∷ bb ∷ []) 0 (Yank 1))
unfolding yank_pop_out
pop_before = refl

-- kill: after a kill into the same slot, and 11 where that would pass 4,096 bytes
kill_joins : kill_out Prepend bb (two (a ∷ []) 0 Kill) ≡ answered 0 0 0 (two ((0x62 ∷ 0x62 ∷ 0x61 ∷ []) ∷ []) 0 Kill)
unfolding kill_out put_at
kill_joins = refl

kill_full : (kill_out Append (replicate 4097 0x61) (empty 2) ≡ refused 11)
    × (kill_out Append (replicate 4097 0x61) (empty 0) ≡ answered 0 0 0 (record { size = 0; slots = []; index = 0; action = Kill }))
unfolding kill_out
kill_full = (refl, refl)
