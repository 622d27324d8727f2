-- A sound ring, on values: document 01, "Log and ring". It is what checks 2 and 8 pass, and what every call leaves.
use Rattle.std.specs.Prelude.{ℕ, ◌≤◌, ◌<◌, ◌≡◌, true, List, [], ◌∷◌, length}
use Rattle.repertoire.specs.Repertoire.{Repertoire}
use Rattle.repertoire.specs.Text.{is_text}
use Rattle.kill_ring.specs.declared.Action.{Action}
use Rattle.kill_ring.specs.declared.Action.TheVariants.{Kill, Yank, Other}
use Rattle.kill_ring.specs.Ring.{KillRing}

-- "an index below the count (0 if empty)"
abbrev pub SoundIndex : ℕ → List (List ℕ) → Type 0
SoundIndex i [] = i ≡ 0
SoundIndex i (s ∷ ss) = i < length (s ∷ ss)

-- "kill (never with a size and no slots), yank with its size (0 to 4,096), other"
abbrev pub SoundAction : Action → ℕ → List (List ℕ) → Type 0
SoundAction Kill size [] = size ≡ 0
SoundAction Kill size (s ∷ ss) = Unit {0}
SoundAction (Yank n) size ss = n ≤ 4096
SoundAction Other size ss = Unit {0}

abbrev pub SoundSlots : Repertoire → List (List ℕ) → Type 0
SoundSlots R [] = Unit {0}
SoundSlots R (s ∷ ss) = (is_text R s ≡ true) × (length s ≤ 4096) × SoundSlots R ss

pub record Sound (R : Repertoire) (r : KillRing) : Type 0 where
  pub size : r.size ≤ 16
  pub count : length r.slots ≤ r.size
  pub index : SoundIndex r.index r.slots
  pub slots : SoundSlots R r.slots
  pub action : SoundAction r.action r.size r.slots
