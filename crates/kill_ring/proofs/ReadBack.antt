-- A lent ring that the checks pass holds a sound ring, and a sound ring that the buffers hold is read back there: checks 2 and 8 pass it.
-- Assumes nothing.
use Prim.Native.Nat.{ℕ, suc, ◌*◌, ◌≤◌, ◌<◌}
use native.Mathlib.Omega.{arith}
use mathlib.Core.Path.{◌≡◌, refl, sym, ap, ap₂, ◌∙◌}
use mathlib.Core.Bool.{Bool, false, cond, not, ◌||◌, ◌&&◌}
use mathlib.Core.List.{List, [], ◌∷◌}
use borrow.Author.Tests.{le-ltb, lt-leb, not-false, eq-eqb}
use lib.Dec.{eqb, leb, ltb, eqb-suc-zero}
use lib.ListN.{length, take, drop}
use Rattle.lists.proofs.Bools.{or_none}
use Rattle.repertoire.specs.Repertoire.{Repertoire}
use Rattle.repertoire.specs.Text.{is_text}
use Rattle.kill_ring.specs.declared.Action.{Action}
use Rattle.kill_ring.specs.declared.Action.TheVariants.{Kill, Yank, Other}
use Rattle.kill_ring.specs.Ring.{KillRing}
use Rattle.kill_ring.specs.Calls.{Lent, lent, len_at, slots_from, action_of, value_of, any_over, over_sizes, action_breaks, index_breaks}
use Rattle.kill_ring.specs.Calls.{any_foreign, damaged, checked, action_number, yank_size, ring_of, SlotsIn}
use Rattle.kill_ring.specs.Sound.{SoundIndex, SoundAction, SoundSlots, Sound}
use Rattle.kill_ring.proofs.Slots.{slots_length}
use Rattle.kill_ring.proofs.Passed.{Ready, ready, in_use_all, says-passed}
use Rattle.kill_ring.proofs.Value.{action_cases, acted, index_in, index_none}
use Rattle.kill_ring.proofs.Puts.{Short}
use Rattle.kill_ring.proofs.Kills.{ready_short}

-- ---- from the checks to a sound ring
index_sound : (i : ℕ) (ss : List (List ℕ)) → (length ss ≡ 0 → i ≡ 0) → (0 < length ss → i < length ss) → SoundIndex i ss
index_sound i [] f g = f refl
index_sound i (s ∷ ss) f g = g (omega arith)

-- texts that check 8 passes, of lengths that check 2 passes
slots_sound : (R : Repertoire) (ss : List (List ℕ)) → any_foreign R ss ≡ false → Short ss → SoundSlots R ss
unfolding any_foreign
slots_sound R [] e h = tt
slots_sound R (s ∷ ss) e h =
    let o = or_none (not (is_text R s)) (any_foreign R ss) e in (not-false (is_text R s) o.0, h.0, slots_sound R ss o.1 h.1)

-- kill never with a size and no slots
kill_sound : (size : ℕ) (ss : List (List ℕ)) → (length ss ≡ 0 → size ≡ 0) → SoundAction Kill size ss
kill_sound size [] f = f refl
kill_sound size (s ∷ ss) f = tt

-- what checks 2 and 8 pass is sound
pub ready_sound : (R : Repertoire) (l : Lent) → Ready R l → Sound R (value_of l)
ready_sound R l p =
    let count = slots_length l.slots l.lens 0 l.ring.count in
    let a = acted l.ring p.action in
    record {
      size = p.size;
      count = omega (arith, p.count);
      index =
          index_sound l.ring.index (value_of l).slots (λ e. index_none R l p (sym count ∙ e))
          (λ h. let k = index_in R l p (omega arith) in omega arith);
      slots = slots_sound R (value_of l).slots p.texts (ready_short R l p);
      action =
          action_cases (λ (x : Action). SoundAction x l.ring.size (value_of l).slots) l.ring.action l.ring.yanked
          (λ k. kill_sound l.ring.size (value_of l).slots (λ e. a.kill k (sym count ∙ e)))
          (λ k. a.size)
          (λ k o. tt);
    }

-- ---- from a sound ring to the checks
pub sound_short : (R : Repertoire) (ss : List (List ℕ)) → SoundSlots R ss → Short ss
sound_short R [] h = tt
sound_short R (s ∷ ss) h = (h.1, sound_short R ss h.2)

-- the slots' texts pass
texts_pass : (R : Repertoire) (ss : List (List ℕ)) → SoundSlots R ss → any_foreign R ss ≡ false
unfolding any_foreign
texts_pass R [] h = refl
texts_pass R (s ∷ ss) h = rw h.0 (texts_pass R ss h.2)

-- the slots that the bytes hold are those
slots_read : (slots lens : List ℕ) (i : ℕ) (ss : List (List ℕ)) → SlotsIn slots lens i ss → slots_from slots lens i (length ss) ≡ ss
unfolding SlotsIn slots_from
slots_read slots lens i [] h = refl
slots_read slots lens i (s ∷ ss) h =
    ap₂ (λ (x : List ℕ) (y : List (List ℕ)). x ∷ y) (ap (λ (n : ℕ). take n (drop (4096 * i) slots)) h.0 ∙ h.1)
    (slots_read slots lens (suc i) ss h.2)

-- and their lengths
lengths_pass : (slots lens : List ℕ) (i : ℕ) (ss : List (List ℕ)) → SlotsIn slots lens i ss → Short ss → any_over lens i (length ss) ≡ false
unfolding SlotsIn any_over
lengths_pass slots lens i [] h k = refl
lengths_pass slots lens i (s ∷ ss) h k =
    let e : ltb 4096 (len_at lens i) ≡ false = ap (ltb 4096) h.0 ∙ le-ltb 4096 (length s) k.0 in
    ap (λ (b : Bool). b || any_over lens (suc i) (length ss)) e ∙ lengths_pass slots lens (suc i) ss h.2 k.1

-- and the index
index-passes : (v : KillRing) → SoundIndex v.index v.slots → index_breaks (ring_of v) ≡ false
index-passes v h = go v.slots h
  where
    go : (ss : List (List ℕ)) → SoundIndex v.index ss → cond (eqb (length ss) 0) (not (eqb v.index 0)) (leb (length ss) v.index) ≡ false
    go [] e = ap not (eq-eqb v.index 0 e)
    go (s ∷ ss) k =
        ap (λ (b : Bool). cond b (not (eqb v.index 0)) (leb (suc (length ss)) v.index)) (eqb-suc-zero (length ss))
        ∙ lt-leb (suc (length ss)) v.index k

-- a sound last action meets none of the tests
action-breaks : (a : Action) (size : ℕ) (ss : List (List ℕ)) → SoundAction a size ss
    → (ltb 2 (action_number a) || (cond (eqb (action_number a) 1) (ltb 4096 (yank_size a)) (not (eqb (yank_size a) 0)) ||
    (eqb (action_number a) 0 && (eqb (length ss) 0 && not (eqb size 0))))) ≡ false
action-breaks Kill size [] e = ap not (eq-eqb size 0 e)
action-breaks Kill size (s ∷ ss) h = ap (λ (b : Bool). b && not (eqb size 0)) (eqb-suc-zero (length ss))
action-breaks (Yank n) size ss h = ap (λ (b : Bool). b || false) (le-ltb 4096 n h)
action-breaks Other size ss h = refl

-- and the last action
action-passes : (v : KillRing) → SoundAction v.action v.size v.slots → action_breaks (ring_of v) ≡ false
unfolding action_breaks
action-passes v h = action-breaks v.action v.size v.slots h

-- the last action is that of its numbers
action-read_back : (a : Action) → action_of (action_number a) (yank_size a) ≡ a
action-read_back Kill = refl
action-read_back (Yank n) = refl
action-read_back Other = refl

-- a sound ring in buffers that are long enough
module _ (R : Repertoire) (slots lens : List ℕ) (v : KillRing) (sound : Sound R v) (bytes : 4096 * v.size ≤ length slots)
    (numbers : 2 * v.size ≤ length lens) (stands : SlotsIn slots lens 0 v.slots) where
  -- its record with these buffers
  abbrev there : Lent
  there = lent slots lens (ring_of v)

  -- check 2
  pub passes-sizes : over_sizes there ≡ false
  unfolding over_sizes
  passes-sizes =
      rw (le-ltb 16 v.size sound.size, le-ltb (length slots) (4096 * v.size) bytes, le-ltb (length lens) (2 * v.size) numbers)
      (ap (any_over lens 0) (in_use_all (ring_of v) sound.count)
      ∙ lengths_pass slots lens 0 v.slots stands (sound_short R v.slots sound.slots))

  -- check 8
  pub passes-damaged : damaged R there ≡ false
  unfolding damaged
  passes-damaged =
      rw (
        le-ltb v.size (length v.slots) sound.count,
        index-passes v sound.index,
        action-passes v sound.action,
        slots_read slots lens 0 v.slots stands,
      )
      (texts_pass R v.slots sound.slots)

  -- no check of the ring refuses it
  pub passes : checked R there false false ≡ 0
  passes = sym (says-passed R there false false passes-sizes refl refl passes-damaged)

  -- and so what follows from the checks holds of it
  pub passes-ready : Ready R there
  passes-ready = ready R there passes-sizes passes-damaged

  -- and it is what the next call finds
  pub read-back : value_of there ≡ v
  read-back =
      ap₂ (λ (ss : List (List ℕ)) (a : Action). record { size = v.size; slots = ss; index = v.index; action = a })
      (slots_read slots lens 0 v.slots stands) (action-read_back v.action)
