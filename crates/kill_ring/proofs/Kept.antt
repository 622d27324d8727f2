-- Every call on a ring that its checks pass leaves a sound ring, whatever it answers. Assumes nothing.
use Prim.Native.Nat.{ℕ, zero, suc, ◌+◌, ◌-◌, ◌≤◌, ◌<◌}
use native.Mathlib.Omega.{arith}
use mathlib.Core.Path.{◌≡◌, refl, sym, ◌∙◌}
use mathlib.Core.Bool.{Bool, true, false, cond, not, true≢false}
use mathlib.Core.List.{List, [], ◌∷◌}
use borrow.Author.Tests.{ltb-false, eqb-true, eqb-false, not-false}
use lib.Dec.{eqb, ltb}
use lib.ListN.{length, get_or}
use Rattle.lists.proofs.Bools.{by_less}
use Rattle.std.specs.Prelude.{Some}
use Rattle.repertoire.specs.Repertoire.{Repertoire}
use Rattle.repertoire.specs.Text.{is_text}
use Rattle.repertoire.proofs.Text.{text_nil, text-append}
use Rattle.checks.specs.Outcome.{Outcome, refused, answered, called, leaves}
use Rattle.checks.proofs.Outcomes.{called-passed}
use Rattle.kill_ring.specs.declared.Action.{Action}
use Rattle.kill_ring.specs.declared.Action.TheVariants.{Kill, Yank, Other}
use Rattle.kill_ring.specs.declared.Mode.{Mode}
use Rattle.kill_ring.specs.declared.Mode.TheVariants.{Append, Prepend}
use Rattle.kill_ring.specs.Ring.{KillRing, is_empty, slot_at, put_at, empty, with_action, reset_out, joined, next_index, kill_index}
use Rattle.kill_ring.specs.Ring.{kill_text, stored, kill_out, yank_out, previous_index, yanked, pop_out, yank_pop_out}
use Rattle.kill_ring.specs.Calls.{Lent, value_of, checked, reset_call, kill_by, yank_call, yank_pop_call}
use Rattle.kill_ring.specs.Sound.{SoundIndex, SoundAction, SoundSlots, Sound}
use Rattle.kill_ring.proofs.Passed.{passed, own-passed}
use Rattle.kill_ring.proofs.Value.{some_of, cond_ind}
use Rattle.kill_ring.proofs.Rings.{put_over, put-behind}
use Rattle.kill_ring.proofs.ReadBack.{ready_sound}

-- ---- a ring of one size, sound
pub record Kept (R : Repertoire) (v w : KillRing) : Type 0 where
  pub size : w.size ≡ v.size
  pub sound : Sound R w

-- ---- a slot
pub slot_text : (R : Repertoire) (ss : List (List ℕ)) (i : ℕ) → SoundSlots R ss → is_text R (get_or ss i []) ≡ true
slot_text R [] i h = text_nil R
slot_text R (s ∷ ss) zero h = h.0
slot_text R (s ∷ ss) (suc i) h = slot_text R ss i h.2

-- a slot has at most 4,096 bytes
slot_most : (R : Repertoire) (ss : List (List ℕ)) (i : ℕ) → SoundSlots R ss → length (get_or ss i []) ≤ 4096
slot_most R [] i h = omega arith
slot_most R (s ∷ ss) zero h = h.1
slot_most R (s ∷ ss) (suc i) h = slot_most R ss i h.2

-- a text written into a slot
put_sound : (R : Repertoire) (ss : List (List ℕ)) (i : ℕ) (s : List ℕ) → is_text R s ≡ true → length s ≤ 4096 → SoundSlots R ss
    → SoundSlots R (put_at ss i s)
unfolding put_at
put_sound R [] i s t k h = (t, k, tt)
put_sound R (x ∷ ss) zero s t k h = (t, k, h.2)
put_sound R (x ∷ ss) (suc i) s t k h = (h.0, h.1, put_sound R ss i s t k h.2)

-- an index below the count, where there are slots
pub index_of : (i : ℕ) (ss : List (List ℕ)) → SoundIndex i ss → is_empty ss ≡ false → i < length ss
index_of i [] h e = absurd (true≢false e)
index_of i (s ∷ ss) h e = h

-- the index is 0 where there are none
index_none_of : (i : ℕ) (ss : List (List ℕ)) → SoundIndex i ss → is_empty ss ≡ true → (i ≡ 0) × (length ss ≡ 0)
index_none_of i [] h e = (h, refl)
index_none_of i (s ∷ ss) h e = absurd (true≢false (sym e))

-- an index below the count is sound
to-index : (i : ℕ) (ss : List (List ℕ)) → i < length ss → SoundIndex i ss
to-index i [] h = absurd (omega arith)
to-index i (s ∷ ss) h = h

-- ---- the last action alone
other_kept : (R : Repertoire) (v : KillRing) → Sound R v → Kept R v (with_action v Other)
other_kept R v s = record { size = refl; sound = record { size = s.size; count = s.count; index = s.index; slots = s.slots; action = tt } }

-- a slot yanked
yanked-kept : (R : Repertoire) (v : KillRing) (i : ℕ) → Sound R v → i < length v.slots → Kept R v (yanked i v)
yanked-kept R v i s h =
    record {
      size = refl;
      sound =
          record { size = s.size; count = s.count; index = to-index i v.slots h; slots = s.slots; action = slot_most R v.slots i s.slots };
    }

-- nothing changed
same_kept : (R : Repertoire) (v : KillRing) → Sound R v → Kept R v v
same_kept R v s = record { size = refl; sound = s }

-- ---- reset, yank and yank_pop
pub reset_kept : (R : Repertoire) (v : KillRing) → Sound R v → Kept R v (leaves (reset_out v) v)
reset_kept R v s = other_kept R v s

-- yank
pub yank-kept : (R : Repertoire) (v : KillRing) → Sound R v → Kept R v (leaves (yank_out v) v)
unfolding yank_out
yank-kept R v s =
    cond_ind (λ (o : Outcome KillRing). Kept R v (leaves o v)) (is_empty v.slots) (answered 1 0 0 v)
    (answered 0 v.index 0 (yanked v.index v))
    (λ e. same_kept R v s)
    (λ e. yanked-kept R v v.index s (index_of v.index v.slots s.index e))

-- the slot before is in use
pub previous_below : (v : KillRing) → v.index < length v.slots → previous_index v < length v.slots
previous_below v h =
    cond_ind (λ (i : ℕ). i < length v.slots) (eqb v.index 0) (length v.slots - 1) (v.index - 1) (λ e. omega arith) (λ e. omega arith)

-- yank_pop
pub pop_kept : (R : Repertoire) (v : KillRing) → Sound R v → Kept R v (leaves (yank_pop_out v) v)
unfolding yank_pop_out
pop_kept R v s = go v.action
  where
    go : (a : Action) → Kept R v (leaves (pop_out a v) v)
    go Kill = same_kept R v s
    go (Yank n) =
        cond_ind (λ (o : Outcome KillRing). Kept R v (leaves o v)) (is_empty v.slots) (answered 1 0 0 v)
        (answered 0 (previous_index v) n (yanked (previous_index v) v))
        (λ e. same_kept R v s)
        (λ e. yanked-kept R v (previous_index v) s (previous_below v (index_of v.index v.slots s.index e)))
    go Other = same_kept R v s

-- ---- kill
next-below : (v : KillRing) → SoundIndex v.index v.slots → length v.slots ≤ v.size → 0 < v.size
    → (next_index v < v.size) × (next_index v ≤ length v.slots)
next-below v index count h =
    cond_ind P (eqb v.index (v.size - 1)) 0 (cond (is_empty v.slots) v.index (v.index + 1))
    (λ a. (h, omega arith))
    (λ a.
    cond_ind P (is_empty v.slots) v.index (v.index + 1)
    (λ b. let k = index_none_of v.index v.slots index b in (omega arith, omega arith))
    (λ b. let k = index_of v.index v.slots index b in (last (eqb-false _ _ a) k, omega arith)))
  where
    P : ℕ → Type 0
    P i = (i < v.size) × (i ≤ length v.slots)

    last : (v.index ≡ v.size - 1 → ⊥) → v.index < length v.slots → v.index + 1 < v.size
    last f k = omega (arith, f)

-- after a kill there is a slot
kill-index : (i size : ℕ) (ss : List (List ℕ)) → SoundIndex i ss → SoundAction Kill size ss → 0 < size → i < length ss
kill-index i size [] index action h = absurd (omega arith)
kill-index i size (s ∷ ss) index action h = index

-- the slot that a kill writes is below the size, and at most one behind the last in use
pub target_below : (R : Repertoire) (v : KillRing) → Sound R v → 0 < v.size
    → (kill_index v.action v < v.size) × (kill_index v.action v ≤ length v.slots)
target_below R v s h = go v.action s.action
  where
    go : (a : Action) → SoundAction a v.size v.slots → (kill_index a v < v.size) × (kill_index a v ≤ length v.slots)
    go Kill f = let k = kill-index v.index v.size v.slots s.index f h in (omega (arith, s.count), omega arith)
    go (Yank n) f = next-below v s.index s.count h
    go Other f = next-below v s.index s.count h

-- two texts joined are a text
joined-text : (R : Repertoire) (m : Mode) (s text : List ℕ) → is_text R s ≡ true → is_text R text ≡ true
    → is_text R (joined m s text) ≡ true
joined-text R Append s text a b = text-append R s text a ∙ b
joined-text R Prepend s text a b = text-append R text s b ∙ a

-- what a kill writes is a text
kill-text : (R : Repertoire) (a : Action) (m : Mode) (text : List ℕ) (v : KillRing) → SoundSlots R v.slots → is_text R text ≡ true
    → is_text R (kill_text a m text v) ≡ true
kill-text R Kill m text v h t = joined-text R m (slot_at v v.index) text (slot_text R v.slots v.index h) t
kill-text R (Yank n) m text v h t = t
kill-text R Other m text v h t = t

-- after a kill there is a slot
put_some : (ss : List (List ℕ)) (i size : ℕ) (s : List ℕ) → SoundAction Kill size (put_at ss i s)
unfolding put_at
put_some [] i size s = tt
put_some (x ∷ ss) zero size s = tt
put_some (x ∷ ss) (suc i) size s = tt

-- the slot is in use then, and the count is at most the size
put_bounds : (ss : List (List ℕ)) (i size : ℕ) (s : List ℕ) → i < size → i ≤ length ss → length ss ≤ size
    → (i < length (put_at ss i s)) × (length (put_at ss i s) ≤ size)
put_bounds ss i size s h k c =
    by_less ((i < length (put_at ss i s)) × (length (put_at ss i s) ≤ size)) i (length ss)
    (λ a. let e = put_over ss i s a in (omega arith, omega arith))
    (λ a. let e = put-behind ss i s (omega arith) in (omega arith, omega arith))

-- a kill on a ring of size 0
disabled_kill : (size : ℕ) (ss : List (List ℕ)) → size ≡ 0 → SoundAction Kill size ss
disabled_kill size [] e = e
disabled_kill size (s ∷ ss) e = tt

-- kill: a refusal too leaves a sound ring
pub kill-kept : (R : Repertoire) (m : Mode) (text : List ℕ) (v : KillRing) → is_text R text ≡ true → Sound R v
    → Kept R v (leaves (kill_out m text v) v)
unfolding kill_out
kill-kept R m text v t s =
    cond_ind (λ (o : Outcome KillRing). Kept R v (leaves o v)) (eqb v.size 0) (answered 0 0 0 (with_action v Kill))
    (cond (ltb 4096 (length after)) (refused 11) (answered 0 0 0 (stored i after v)))
    (λ e. record {
      size = refl;
      sound = record {
        size = s.size;
        count = s.count;
        index = s.index;
        slots = s.slots;
        action = disabled_kill
            v.size v.slots (eqb-true _ _ e);
      };
    })
    (λ e.
    cond_ind (λ (o : Outcome KillRing). Kept R v (leaves o v)) (ltb 4096 (length after)) (refused 11) (answered 0 0 0 (stored i after v))
    (λ f. same_kept R v s)
    (λ f.
    let b = target_below R v s (some_of _ (eqb-false _ _ e)) in
    let n = put_bounds v.slots i v.size after b.0 b.1 s.count in
    record {
      size = refl;
      sound =
          record {
            size = s.size;
            count = n.1;
            index = to-index i (put_at v.slots i after) n.0;
            slots = put_sound R v.slots i after (kill-text R v.action m text v s.slots t) (ltb-false _ _ f) s.slots;
            action = put_some v.slots i v.size after;
          };
    }))
  where
    i : ℕ
    i = kill_index v.action v

    after : List ℕ
    after = kill_text v.action m text v

-- ---- the calls
-- new: a ring of any size up to 16
pub new_sound : (R : Repertoire) (size : ℕ) → size ≤ 16 → Sound R (empty size)
new_sound R size h = record { size = h; count = omega arith; index = refl; slots = tt; action = tt }

module _ (R : Repertoire) (l : Lent) where
  -- where the checks pass, the outcome decides
  called-kept : (n : ℕ) (o : Outcome KillRing) → n ≡ 0 → Kept R (value_of l) (leaves o (value_of l))
      → Kept R (value_of l) (leaves (called n o) (value_of l))
  called-kept n o e k = called-passed (λ (x : Outcome KillRing). Kept R (value_of l) (leaves x (value_of l))) o 0 n e refl k

  -- what the checks pass is sound
  sound_of : (a b : Bool) → checked R l a b ≡ 0 → Sound R (value_of l)
  sound_of a b e = ready_sound R l (passed R l a b e)

  -- reset
  pub reset_leaves : checked R l false false ≡ 0 → Kept R (value_of l) (leaves (reset_call R l) (value_of l))
  reset_leaves e = called-kept (checked R l false false) (reset_out (value_of l)) e (reset_kept R (value_of l) (sound_of false false e))

  -- yank
  pub yank-leaves : checked R l false false ≡ 0 → Kept R (value_of l) (leaves (yank_call R l) (value_of l))
  yank-leaves e = called-kept (checked R l false false) (yank_out (value_of l)) e (yank-kept R (value_of l) (sound_of false false e))

  -- yank_pop
  pub pop_leaves : checked R l false false ≡ 0 → Kept R (value_of l) (leaves (yank_pop_call R l) (value_of l))
  pop_leaves e = called-kept (checked R l false false) (yank_pop_out (value_of l)) e (pop_kept R (value_of l) (sound_of false false e))

  -- kill, in any direction
  pub kill-leaves : (text : List ℕ) (m : Mode) → checked R l false (not (is_text R text)) ≡ 0
      → Kept R (value_of l) (leaves (kill_by R l text (Some m)) (value_of l))
  kill-leaves text m e =
      called-kept (checked R l false (not (is_text R text))) (kill_out m text (value_of l)) e
      (kill-kept R m text (value_of l) (not-false (is_text R text) (own-passed R l false (not (is_text R text)) e).1)
      (sound_of false (not (is_text R text)) e))
