-- What the calls that write no byte answer, by the numbers of the ring's record. Assumes nothing.
use Prim.Native.Nat.{ℕ, ◌-◌, ◌<◌}
use native.Mathlib.Omega.{arith}
use mathlib.Core.Path.{◌≡◌, refl, sym, ap, ap₂, ◌∙◌}
use mathlib.Core.Bool.{Bool, cond}
use lib.Dec.{eqb}
use Rattle.lists.proofs.Bools.{by_test}
use Rattle.repertoire.specs.Repertoire.{Repertoire}
use Rattle.checks.specs.Outcome.{answered}
use Rattle.kill_ring.specs.declared.Ring.{Ring}
use Rattle.kill_ring.specs.declared.AnswerAndRing.{AnswerAndRing}
use Rattle.kill_ring.specs.declared.Action.{Action}
use Rattle.kill_ring.specs.declared.Action.TheVariants.{Kill, Yank, Other}
use Rattle.kill_ring.specs.Ring.{with_action, reset_out, yank_out, yanked, previous_index, pop_out, yank_pop_out}
use Rattle.kill_ring.specs.Calls.{Lent, len_at, action_of, value_of, says, answer_and_ring}
use Rattle.kill_ring.proofs.Slots.{slots_length}
use Rattle.kill_ring.proofs.Passed.{Ready}
use Rattle.kill_ring.proofs.Value.{slots_none, slots_some, ring_back, index_in, slot_length}

-- a number alone
abbrev pub alone : ℕ → Ring → AnswerAndRing
alone k g = record { answer = says k 0 0; ring = g }

-- ---- the record after an action
abbrev pub numbers : Ring → ℕ → ℕ → ℕ → Ring
numbers g i a n = record { size = g.size; count = g.count; index = i; action = a; yanked = n }

module _ (l : Lent) where
  -- an action that is no yank changes nothing else
  pub reset_left : alone 0 (numbers l.ring l.ring.index 2 0) ≡ answer_and_ring l.ring (reset_out (value_of l))
  reset_left =
      ap (λ (n : ℕ). alone 0 (record { size = l.ring.size; count = n; index = l.ring.index; action = 2; yanked = 0 }))
      (sym (slots_length l.slots l.lens 0 l.ring.count))

  -- a kill on a ring of size 0
  pub kill-left : alone 0 (numbers l.ring l.ring.index 0 0) ≡ answer_and_ring l.ring (answered 0 0 0 (with_action (value_of l) Kill))
  kill-left =
      ap (λ (n : ℕ). alone 0 (record { size = l.ring.size; count = n; index = l.ring.index; action = 0; yanked = 0 }))
      (sym (slots_length l.slots l.lens 0 l.ring.count))

module _ (R : Repertoire) (l : Lent) (p : Ready R l) where
  -- the answer 1 leaves the record as it was
  pub same_left : alone 1 l.ring ≡ answer_and_ring l.ring (answered 1 0 0 (value_of l))
  same_left = ap (alone 1) (sym (ring_back R l p))

  -- a slot yanked: its number, a size, and the slot's own length for the record
  pub yanked-left : (i n : ℕ) → i < l.ring.count
      → record { answer = says 0 i n; ring = numbers l.ring i 1 (len_at l.lens i) } ≡ answer_and_ring
      l.ring (answered 0 i n (yanked i (value_of l)))
  yanked-left i n h =
      ap₂ (λ (m k : ℕ). record { answer = says 0 i n; ring = record { size = l.ring.size; count = m; index = i; action = 1; yanked = k } })
      (sym (slots_length l.slots l.lens 0 l.ring.count)) (sym (slot_length R l p i h))

  -- ---- yank
  pub yank_none : l.ring.count ≡ 0 → alone 1 l.ring ≡ answer_and_ring l.ring (yank_out (value_of l))
  unfolding yank_out
  yank_none e =
      same_left ∙ ap (λ (b : Bool). answer_and_ring l.ring (cond b (answered 1 0 0 (value_of l))
      (answered 0 l.ring.index 0 (yanked l.ring.index (value_of l))))) (sym (slots_none l.slots l.lens 0 l.ring.count e))

  -- yank answers the slot where we are
  pub yank_some : 0 < l.ring.count → l.ring.index < l.ring.count
      → record { answer = says 0 l.ring.index 0; ring = numbers l.ring l.ring.index 1 (len_at l.lens l.ring.index) }
      ≡ answer_and_ring l.ring (yank_out (value_of l))
  unfolding yank_out
  yank_some h k =
      yanked-left l.ring.index 0 k
      ∙ ap (λ (b : Bool). answer_and_ring l.ring (cond b (answered 1 0 0 (value_of l))
      (answered 0 l.ring.index 0 (yanked l.ring.index (value_of l))))) (sym (slots_some l.slots l.lens 0 l.ring.count h))

  -- ---- yank_pop
  -- the slot before, round to the last
  abbrev pub previous_of : ℕ
  previous_of = cond (eqb l.ring.index 0) (l.ring.count - 1) (l.ring.index - 1)

  -- that slot is in use
  pub previous_in : (i : ℕ) → 0 < l.ring.count → i ≡ previous_of → i < l.ring.count
  previous_in i h e =
      let k = index_in R l p h in
      by_test (i < l.ring.count) (eqb l.ring.index 0)
      (λ t. let q : i ≡ l.ring.count - 1 = e ∙ ap (λ (b : Bool). cond b (l.ring.count - 1) (l.ring.index - 1)) t in omega arith)
      (λ t. let q : i ≡ l.ring.index - 1 = e ∙ ap (λ (b : Bool). cond b (l.ring.count - 1) (l.ring.index - 1)) t in omega arith)

  -- it is that of the ring on values
  previous_is : previous_index (value_of l) ≡ previous_of
  previous_is = ap (λ (n : ℕ). cond (eqb l.ring.index 0) (n - 1) (l.ring.index - 1)) (slots_length l.slots l.lens 0 l.ring.count)

  -- no slots: yank_pop answers 1
  pub pop_none : (n : ℕ) → action_of l.ring.action l.ring.yanked ≡ Yank n → l.ring.count ≡ 0
      → alone 1 l.ring ≡ answer_and_ring l.ring (yank_pop_out (value_of l))
  unfolding yank_pop_out
  pop_none n a e =
      same_left
      ∙ ap (λ (b : Bool). answer_and_ring l.ring (cond b (answered 1 0 0 (value_of l))
      (answered 0 (previous_index (value_of l)) n (yanked (previous_index (value_of l)) (value_of l)))))
      (sym (slots_none l.slots l.lens 0 l.ring.count e))
      ∙ ap (λ (x : Action). answer_and_ring l.ring (pop_out x (value_of l))) (sym a)

  -- slots, and a yank before: the slot before it, with the size of that yank
  pub pop_some : (n i : ℕ) → action_of l.ring.action l.ring.yanked ≡ Yank n → 0 < l.ring.count → i < l.ring.count → i ≡ previous_of
      → record { answer = says 0 i n; ring = numbers l.ring i 1 (len_at l.lens i) } ≡ answer_and_ring l.ring (yank_pop_out (value_of l))
  unfolding yank_pop_out
  pop_some n i a h k q =
      yanked-left i n k
      ∙ ap (λ (j : ℕ). answer_and_ring l.ring (answered 0 j n (yanked j (value_of l)))) (q ∙ sym previous_is)
      ∙ ap (λ (b : Bool). answer_and_ring l.ring (cond b (answered 1 0 0 (value_of l))
      (answered 0 (previous_index (value_of l)) n (yanked (previous_index (value_of l)) (value_of l)))))
      (sym (slots_some l.slots l.lens 0 l.ring.count h))
      ∙ ap (λ (x : Action). answer_and_ring l.ring (pop_out x (value_of l))) (sym a)

  -- after anything but a yank
  other_pops : (a : Action) → ((n : ℕ) → a ≡ Yank n → ⊥) → pop_out a (value_of l) ≡ answered 1 0 0 (value_of l)
  other_pops Kill h = refl
  other_pops (Yank n) h = absurd (h n refl)
  other_pops Other h = refl

  -- yank_pop without a yank before it answers 1
  pub pop_other : ((n : ℕ) → action_of l.ring.action l.ring.yanked ≡ Yank n → ⊥)
      → alone 1 l.ring ≡ answer_and_ring l.ring (yank_pop_out (value_of l))
  unfolding yank_pop_out
  pop_other h = same_left ∙ ap (answer_and_ring l.ring) (sym (other_pops (action_of l.ring.action l.ring.yanked) h))
