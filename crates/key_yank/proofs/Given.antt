-- What the ring gives to a yank and to a yank_pop: a slot in use, which is a text of the buffer, or nothing. Assumes nothing.
use Prim.Native.Nat.{ℕ, zero, suc, ◌+◌, ◌-◌, ◌*◌, ◌≤◌, ◌<◌}
use native.Mathlib.Omega.{arith}
use mathlib.Core.Path.{◌≡◌, refl, sym, ap, subst, ◌∙◌}
use mathlib.Core.Bool.{true, false}
use mathlib.Core.List.{List}
use lib.ListN.{length, take, drop}
use borrow.Author.Tests.{eqb-false}
use Rattle.repertoire.specs.Repertoire.{catalogue}
use Rattle.repertoire.specs.Text.{is_text}
use Rattle.checks.specs.Outcome.{Outcome, refused, answered}
use Rattle.kill_ring.specs.declared.Ring.{Ring}
use Rattle.kill_ring.specs.declared.Action.{Action}
use Rattle.kill_ring.specs.declared.Action.TheVariants.{Kill, Yank, Other}
use Rattle.kill_ring.specs.declared.AnswerAndRing.{AnswerAndRing}
use Rattle.kill_ring.specs.Ring.{KillRing, is_empty, slot_at, yanked, yank_out, previous_index, pop_out, yank_pop_out}
use Rattle.kill_ring.specs.Calls as rings
use Rattle.kill_ring.proofs.Slots.{slots_length, slot_part}
use Rattle.kill_ring.proofs.Passed.{Ready, passed}
use Rattle.kill_ring.proofs.Value.{some_of, cond_ind, slots-empty, index_in, slot_is, slot_length, slot_short}
use Rattle.kill_ring.proofs.ReadBack.{ready_sound}
use Rattle.kill_ring.proofs.Kept.{slot_text, previous_below}

module _ (g : rings.Lent) where
  abbrev pub ring_now : KillRing
  ring_now = rings.value_of g

  -- a slot in use is yanked, or nothing is
  abbrev Gives : Outcome KillRing → Type 0
  Gives (refused k) = ⊥
  Gives (answered zero slot size r) = (r ≡ yanked slot ring_now) × (slot < g.ring.count)
  Gives (answered (suc k) slot size r) = ◌≡◌ {A = Outcome KillRing} (answered (suc k) slot size r) (answered 1 0 0 ring_now)

  -- the answer of a call that gives a slot
  pub record Taken (o : Outcome KillRing) (a : AnswerAndRing) : Type 0 where
    pub is : o ≡ answered 0 a.answer.slot a.answer.size (yanked a.answer.slot ring_now)
    pub ring : a.ring ≡ rings.ring_of (yanked a.answer.slot ring_now)
    pub below : a.answer.slot < g.ring.count

  taken_by : (o : Outcome KillRing) (a : AnswerAndRing) → Gives o → a ≡ rings.answer_and_ring g.ring o → a.answer.number ≡ 0 → Taken o a
  taken_by (refused k) a h e z = absurd h
  taken_by (answered zero slot size r) a h e z =
      subst (λ (b : AnswerAndRing). Taken (answered zero slot size r) b) (sym e)
      (record { is = ap (answered 0 slot size) h.0; ring = ap rings.ring_of h.0; below = h.1 })
  taken_by (answered (suc k) slot size r) a h e z =
      let n : a.answer.number ≡ suc k = ap (λ (b : AnswerAndRing). b.answer.number) e in absurd (omega arith)

  none_by : (o : Outcome KillRing) (a : AnswerAndRing) → Gives o → a ≡ rings.answer_and_ring g.ring o → (a.answer.number ≡ 0 → ⊥) → o ≡ answered 1 0 0 ring_now
  none_by (refused k) a h e n = absurd h
  none_by (answered zero slot size r) a h e n = absurd (n (ap (λ (b : AnswerAndRing). b.answer.number) e))
  none_by (answered (suc k) slot size r) a h e n = h

  module _ (checks : rings.checked catalogue g false false ≡ 0) where
    pub sound : Ready catalogue g
    sound = passed catalogue g false false checks

    -- where there are slots, the index is that of one
    index_some : is_empty ring_now.slots ≡ false → g.ring.index < g.ring.count
    index_some e = index_in catalogue g sound (some_of _ (eqb-false _ _ (sym (slots-empty g.slots g.lens 0 g.ring.count) ∙ e)))

    -- ---- yank
    yank_gives : Gives (yank_out ring_now)
    unfolding yank_out
    yank_gives =
        cond_ind Gives (is_empty ring_now.slots) (answered 1 0 0 ring_now) (answered 0 g.ring.index 0 (yanked g.ring.index ring_now))
        (λ e. refl) (λ e. (refl, index_some e))

    pub yank_taken : (a : AnswerAndRing) → a ≡ rings.answer_and_ring g.ring (yank_out ring_now) → a.answer.number ≡ 0 → Taken (yank_out ring_now) a
    yank_taken a e z = taken_by (yank_out ring_now) a yank_gives e z

    pub yank_none : (a : AnswerAndRing) → a ≡ rings.answer_and_ring g.ring (yank_out ring_now) → (a.answer.number ≡ 0 → ⊥) → yank_out ring_now ≡ answered 1 0 0 ring_now
    yank_none a e n = none_by (yank_out ring_now) a yank_gives e n

    -- ---- yank_pop
    pop_gives : Gives (yank_pop_out ring_now)
    unfolding yank_pop_out
    pop_gives = go ring_now.action
      where
        count : length ring_now.slots ≡ g.ring.count
        count = slots_length g.slots g.lens 0 g.ring.count

        before : is_empty ring_now.slots ≡ false → previous_index ring_now < g.ring.count
        before e =
            subst (λ (n : ℕ). previous_index ring_now < n) count
            (previous_below ring_now (subst (λ (n : ℕ). g.ring.index < n) (sym count) (index_some e)))

        go : (x : Action) → Gives (pop_out x ring_now)
        go Kill = refl
        go (Yank n) =
            cond_ind Gives (is_empty ring_now.slots) (answered 1 0 0 ring_now) (answered 0 (previous_index ring_now) n (yanked (previous_index ring_now) ring_now))
            (λ e. refl) (λ e. (refl, before e))
        go Other = refl

    pub pop_taken : (a : AnswerAndRing) → a ≡ rings.answer_and_ring g.ring (yank_pop_out ring_now) → a.answer.number ≡ 0 → Taken (yank_pop_out ring_now) a
    pop_taken a e z = taken_by (yank_pop_out ring_now) a pop_gives e z

    pub pop_none : (a : AnswerAndRing) → a ≡ rings.answer_and_ring g.ring (yank_pop_out ring_now) → (a.answer.number ≡ 0 → ⊥)
        → yank_pop_out ring_now ≡ answered 1 0 0 ring_now
    pop_none a e n = none_by (yank_pop_out ring_now) a pop_gives e n

    -- ---- the slot that is given
    module _ {o : Outcome KillRing} {a : AnswerAndRing} (t : Taken o a) where
      abbrev pub slot_given : List ℕ
      slot_given = slot_at ring_now a.answer.slot

      pub given-text : is_text catalogue slot_given ≡ true
      given-text = slot_text catalogue ring_now.slots a.answer.slot (ready_sound catalogue g sound).slots

      -- its length is what the ring's record says of the yank
      pub given-length : a.ring.yanked ≡ length slot_given
      given-length = ap (λ (r : Ring). r.yanked) t.ring

      used : a.ring.yanked ≡ rings.len_at g.lens a.answer.slot
      used = given-length ∙ slot_length catalogue g sound a.answer.slot t.below

      -- what `&slots[from..to]` lends
      pub given-part : take (4096 * a.answer.slot + a.ring.yanked - 4096 * a.answer.slot) (drop (4096 * a.answer.slot) g.slots) ≡ slot_given
      given-part =
          slot_part g.slots g.lens a.answer.slot a.ring.yanked used
          ∙ sym (slot_is catalogue g sound a.answer.slot t.below)

      pub given-room : (a.answer.slot < 16) × (a.ring.yanked ≤ 4096) × (4096 * a.answer.slot + a.ring.yanked ≤ length g.slots)
      given-room =
          let s = sound in
          let u : a.ring.yanked ≤ 4096 = subst (λ (n : ℕ). n ≤ 4096) (sym used) (slot_short catalogue g sound a.answer.slot t.below) in
          (omega (arith, t.below, s.count, s.size), u, omega (arith, t.below, s.count, s.slots))
