-- The kill ring on values: kill_ring.rs, KillRing without its listener. The two places that a call answers are a slot and a size.
use Rattle.std.specs.Prelude.{ℕ, zero, suc, ◌+◌, ◌-◌, Bool, true, false, cond, List, [], ◌∷◌, ◌++◌, eqb, ltb, length, get_or}
use Rattle.checks.specs.Outcome.{Outcome, refused, answered}
use Rattle.kill_ring.specs.declared.Action.{Action}
use Rattle.kill_ring.specs.declared.Action.TheVariants.{Kill, Yank, Other}
use Rattle.kill_ring.specs.declared.Mode.{Mode}
use Rattle.kill_ring.specs.declared.Mode.TheVariants.{Append, Prepend}

-- the most slots that there may be, the slots in use, where we are among them, and the last action
pub record KillRing : Type 0 where
  pub size : ℕ
  pub slots : List (List ℕ)
  pub index : ℕ
  pub action : Action

abbrev pub is_empty : List (List ℕ) → Bool
is_empty [] = true
is_empty (s ∷ ss) = false

abbrev pub slot_at : KillRing → ℕ → List ℕ
slot_at r i = get_or r.slots i []

-- a slot written over, or pushed behind the last
unfoldable pub put_at : List (List ℕ) → ℕ → List ℕ → List (List ℕ)
put_at [] i text = text ∷ []
put_at (s ∷ ss) zero text = text ∷ ss
put_at (s ∷ ss) (suc i) text = s ∷ put_at ss i text

-- ---- new
abbrev pub empty : ℕ → KillRing
empty size = record { size = size; slots = []; index = 0; action = Other }

-- ---- reset
abbrev pub with_action : KillRing → Action → KillRing
with_action r a = record { size = r.size; slots = r.slots; index = r.index; action = a }

abbrev pub reset_out : KillRing → Outcome KillRing
reset_out r = answered 0 0 0 (with_action r Other)

-- ---- kill
-- behind what was killed before, or in front of it
abbrev pub joined : Mode → List ℕ → List ℕ → List ℕ
joined Append s text = s ++ text
joined Prepend s text = text ++ s

-- the slot for the next text: round to the first behind the last of the size, else one further where there are any
abbrev pub next_index : KillRing → ℕ
next_index r = cond (eqb r.index (r.size - 1)) 0 (cond (is_empty r.slots) r.index (r.index + 1))

-- the slot that a kill writes, and its text: after a kill the same slot, with what is there already
abbrev pub kill_index : Action → KillRing → ℕ
kill_index Kill r = r.index
kill_index (Yank n) r = next_index r
kill_index Other r = next_index r

abbrev pub kill_text : Action → Mode → List ℕ → KillRing → List ℕ
kill_text Kill m text r = joined m (slot_at r r.index) text
kill_text (Yank n) m text r = text
kill_text Other m text r = text

abbrev pub stored : ℕ → List ℕ → KillRing → KillRing
stored i text r = record { size = r.size; slots = put_at r.slots i text; index = i; action = Kill }

-- size 0 is disabled: the last action alone changes. 11: a slot would pass 4,096 bytes
unfoldable pub kill_out : Mode → List ℕ → KillRing → Outcome KillRing
kill_out m text r =
    cond (eqb r.size 0) (answered 0 0 0 (with_action r Kill))
    (cond (ltb 4096 (length (kill_text r.action m text r))) (refused 11)
    (answered 0 0 0 (stored (kill_index r.action r) (kill_text r.action m text r) r)))

-- ---- yank: the slot where we are; 1 where there is none
abbrev pub yanked : ℕ → KillRing → KillRing
yanked i r = record { size = r.size; slots = r.slots; index = i; action = Yank (length (slot_at r i)) }

unfoldable pub yank_out : KillRing → Outcome KillRing
yank_out r = cond (is_empty r.slots) (answered 1 0 0 r) (answered 0 r.index 0 (yanked r.index r))

-- ---- yank_pop: after a yank the slot before, round to the last, with the size of that yank; else 1
abbrev pub previous_index : KillRing → ℕ
previous_index r = cond (eqb r.index 0) (length r.slots - 1) (r.index - 1)

abbrev pub pop_out : Action → KillRing → Outcome KillRing
pop_out Kill r = answered 1 0 0 r
pop_out (Yank n) r = cond (is_empty r.slots) (answered 1 0 0 r) (answered 0 (previous_index r) n (yanked (previous_index r) r))
pop_out Other r = answered 1 0 0 r

unfoldable pub yank_pop_out : KillRing → Outcome KillRing
yank_pop_out r = pop_out r.action r
