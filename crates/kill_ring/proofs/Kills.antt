-- A kill on lent bytes: the slot, what it joins, and what the buffers hold afterwards. Assumes nothing.
use Prim.Native.Nat.{ℕ, zero, suc, ◌+◌, ◌-◌, ◌*◌, ◌≤◌, ◌<◌}
use native.Mathlib.Omega.{arith}
use mathlib.Core.Path.{◌≡◌, refl, sym, ap, ap₂, subst, ◌∙◌}
use mathlib.Core.Bool.{Bool, true, false, cond, not}
use mathlib.Core.List.{List, [], append-nil}
use borrow.Author.Tests.{eq-eqb, ne_eqb, eqb-true, eqb-false, lt-ltb, le-ltb}
use lib.Dec.{eqb, ltb}
use lib.ListN.{length, take, drop, length-append}
use lib.Seq.{sets}
use Rattle.std.specs.Prelude.{Option, Result, Ok, Err}
use Rattle.std.specs.Option.{is_none}
use Rattle.std.specs.Result.{is_err, result_ok, result_or}
use Rattle.repertoire.specs.Repertoire.{Repertoire}
use Rattle.checks.specs.declared.Refused.TheVariants.{Code}
use Rattle.checks.specs.Outcome.{Outcome, refused, answered}
use Rattle.checks.specs.Refused.{refused_by}
use Rattle.numbers.specs.Numbers.{le}
use Rattle.buffer.specs.Edit.{inserted}
use Rattle.buffer.proofs.Inserted.{inserted-end}
use Rattle.kill_ring.specs.declared.Ring.{Ring}
use Rattle.kill_ring.specs.declared.AnswerAndRing.{AnswerAndRing}
use Rattle.kill_ring.specs.declared.Action.{Action}
use Rattle.kill_ring.specs.declared.Action.TheVariants.{Kill, Yank, Other}
use Rattle.kill_ring.specs.declared.Mode.{Mode}
use Rattle.kill_ring.specs.declared.Mode.TheVariants.{Append, Prepend}
use Rattle.kill_ring.specs.declared.UnknownMode.{UnknownMode}
use Rattle.kill_ring.specs.Ring.{KillRing, slot_at, with_action, joined, next_index, kill_index, kill_text, stored, kill_out}
use Rattle.kill_ring.specs.Calls.{Lent, len_at, slot_bytes, slots_from, value_of, SlotsIn, Ringed, checked}
use Rattle.kill_ring.specs.Killed.{place_of, slot_of, used_of, killed_into, Put}
use Rattle.kill_ring.proofs.Slots.{slots_length}
use Rattle.kill_ring.proofs.Passed.{Ready, code-refused}
use Rattle.kill_ring.proofs.Value.{some_of, cond_ind, action_cases, acted, slots-empty, index_in, index_none, slot_is, slot_length}
use Rattle.kill_ring.proofs.Value.{slot_short, bytes-length}
use Rattle.kill_ring.proofs.Answers.{alone, numbers, kill-left}
use Rattle.kill_ring.proofs.Puts.{Short, others, put-at, slots-put}
use Rattle.kill_ring.proofs.Rings.{put-length}

-- ---- what a kill joins
abbrev pub joins : Action → KillRing → List ℕ
joins Kill v = slot_at v v.index
joins (Yank n) v = []
joins Other v = []

-- joined with nothing, a text is itself
joined_nil : (m : Mode) (text : List ℕ) → text ≡ joined m [] text
joined_nil Append text = refl
joined_nil Prepend text = sym (append-nil text)

-- the text of a kill: joined with what was there after a kill, else with nothing
pub kill_joins : (a : Action) (m : Mode) (text : List ℕ) (v : KillRing) → kill_text a m text v ≡ joined m (joins a v) text
kill_joins Kill m text v = refl
kill_joins (Yank n) m text v = joined_nil m text
kill_joins Other m text v = joined_nil m text

-- its length
pub joined_length : (m : Mode) (s text : List ℕ) → length (joined m s text) ≡ length s + length text
joined_length Append s text = length-append s text
joined_length Prepend s text = length-append text s ∙ omega arith

-- insert_bytes at the direction's place
inserted-joined : (m : Mode) (s text : List ℕ) (u : ℕ) → length s ≡ u → inserted s (place_of m u) text ≡ joined m s text
unfolding inserted
inserted-joined Append s text u e = inserted-end s text u e
inserted-joined Prepend s text u e = refl

-- that place is within what the slot holds
pub place-most : (m : Mode) (u at : ℕ) → at ≡ place_of m u → at ≤ u
place-most Append u at e = omega arith
place-most Prepend u at e = omega arith

-- ---- the numbers of the record
used-kill : (lens : List ℕ) (g : Ring) → g.action ≡ 0 → used_of lens g ≡ len_at lens g.index
unfolding used_of
used-kill lens g e = ap (λ (b : Bool). cond b (len_at lens g.index) 0) (eq-eqb g.action 0 e)

-- after anything but a kill nothing is joined
used_other : (lens : List ℕ) (g : Ring) → (g.action ≡ 0 → ⊥) → used_of lens g ≡ 0
unfolding used_of
used_other lens g e = ap (λ (b : Bool). cond b (len_at lens g.index) 0) (ne_eqb g.action 0 e)

-- the slot after anything but a kill
abbrev next_of : Ring → ℕ
next_of g = cond (eqb g.index (g.size - 1)) 0 (cond (eqb g.count 0) g.index (g.index + 1))

-- after a kill the same slot
slot_kill : (g : Ring) → g.action ≡ 0 → slot_of g ≡ g.index
unfolding slot_of
slot_kill g e = ap (λ (b : Bool). cond b g.index (next_of g)) (eq-eqb g.action 0 e)

-- after anything else the next one
slot_other : (g : Ring) → (g.action ≡ 0 → ⊥) → slot_of g ≡ next_of g
unfolding slot_of
slot_other g e = ap (λ (b : Bool). cond b g.index (next_of g)) (ne_eqb g.action 0 e)

-- the next slot is that of the ring on values
next-is : (l : Lent) → next_of l.ring ≡ next_index (value_of l)
next-is l = ap (λ (b : Bool). cond (eqb l.ring.index (l.ring.size - 1)) 0 (cond b l.ring.index (l.ring.index + 1)))
    (sym (slots-empty l.slots l.lens 0 l.ring.count))

-- the slot is that of the ring on values
slot-of : (l : Lent) → slot_of l.ring ≡ kill_index (value_of l).action (value_of l)
slot-of l =
    action_cases (λ (a : Action). slot_of l.ring ≡ kill_index a (value_of l)) l.ring.action l.ring.yanked
    (λ k. slot_kill l.ring k)
    (λ k. slot_other l.ring (λ z. omega arith) ∙ next-is l)
    (λ k o. slot_other l.ring k ∙ next-is l)

-- ---- the ring that the checks pass is held where it is
slots-from : (slots lens : List ℕ) (i n : ℕ) → ((k : ℕ) → k < n → length (slot_bytes slots lens (i + k)) ≡ len_at lens (i + k))
    → SlotsIn slots lens i (slots_from slots lens i n)
unfolding SlotsIn slots_from
slots-from slots lens i zero h = tt
slots-from slots lens i (suc n) h =
    let z : i + 0 ≡ i = omega arith in
    let e : length (slot_bytes slots lens i) ≡ len_at lens i =
    subst (λ (j : ℕ). length (slot_bytes slots lens j) ≡ len_at lens j) z (h 0 (omega arith)) in (
      sym e,
      ap (λ (k : ℕ). take k (drop (4096 * i) slots)) e,
      slots-from slots lens (suc i) n
          (λ k b. let s : i + suc k ≡ suc i + k = omega arith in
          subst (λ (j : ℕ). length (slot_bytes slots lens j) ≡ len_at lens j) s (h (suc k) (omega arith))),
    )

-- slots whose lengths are at most 4,096
short_from : (slots lens : List ℕ) (i n : ℕ) → ((k : ℕ) → k < n → length (slot_bytes slots lens (i + k)) ≤ 4096)
    → Short (slots_from slots lens i n)
unfolding slots_from
short_from slots lens i zero h = tt
short_from slots lens i (suc n) h =
    let z : i + 0 ≡ i = omega arith in (
      subst (λ (j : ℕ). length (slot_bytes slots lens j) ≤ 4096) z (h 0 (omega arith)),
      short_from slots lens (suc i) n
          (λ k b. let s : i + suc k ≡ suc i + k = omega arith in
          subst (λ (j : ℕ). length (slot_bytes slots lens j) ≤ 4096) s (h (suc k) (omega arith))),
    )

module _ (R : Repertoire) (l : Lent) (p : Ready R l) where
  -- the buffers hold the ring's slots
  pub ready-slots : SlotsIn l.slots l.lens 0 (value_of l).slots
  ready-slots =
      slots-from l.slots l.lens 0 l.ring.count
      (λ k h.
      let z : 0 + k ≡ k = omega arith in
      subst (λ (j : ℕ). length (slot_bytes l.slots l.lens j) ≡ len_at l.lens j) (sym z) (bytes-length R l p k h))

  -- and each has at most 4,096 bytes
  pub ready_short : Short (value_of l).slots
  ready_short =
      short_from l.slots l.lens 0 l.ring.count
      (λ k h.
      let z : 0 + k ≡ k = omega arith in
      subst (λ (j : ℕ). length (slot_bytes l.slots l.lens j) ≤ 4096) (sym z)
      (subst (λ (n : ℕ). n ≤ 4096) (sym (bytes-length R l p k h)) (slot_short R l p k h)))

  -- a kill before a kill left a slot
  kill_some : 0 < l.ring.size → l.ring.action ≡ 0 → 0 < l.ring.count
  kill_some h k = some_of l.ring.count (λ z. omega (arith, (acted l.ring p.action).kill k z))

  -- ---- a size: the slot is below it, and at most one behind the last in use
  module _ (h : 0 < l.ring.size) where
    -- the slot of a kill
    pub slot_below : (slot_of l.ring < l.ring.size) × (slot_of l.ring ≤ l.ring.count)
    unfolding slot_of
    slot_below =
        cond_ind (λ (i : ℕ). (i < l.ring.size) × (i ≤ l.ring.count)) (eqb l.ring.action 0) l.ring.index (next_of l.ring)
        (λ a. let k = index_in R l p (kill_some h (eqb-true _ _ a)) in (omega (arith, p.count), omega arith))
        (λ a.
        cond_ind (λ (i : ℕ). (i < l.ring.size) × (i ≤ l.ring.count)) (eqb l.ring.index (l.ring.size - 1)) 0
        (cond (eqb l.ring.count 0) l.ring.index (l.ring.index + 1))
        (λ b. (h, omega arith))
        (λ b.
        cond_ind (λ (i : ℕ). (i < l.ring.size) × (i ≤ l.ring.count)) (eqb l.ring.count 0) l.ring.index (l.ring.index + 1)
        (λ c. let k = index_none R l p (eqb-true _ _ c) in (omega arith, omega arith))
        (λ c.
        let n = eqb-false _ _ c in
        let q : 0 < l.ring.count = some_of l.ring.count n in
        let k = index_in R l p q in
        (last (eqb-false _ _ b) k, omega arith))))
      where
        last : (l.ring.index ≡ l.ring.size - 1 → ⊥) → l.ring.index < l.ring.count → l.ring.index + 1 < l.ring.size
        last f k = omega (arith, p.count, f)

    -- its bytes and its length are in the buffers
    pub slot_room : (i : ℕ) → i ≡ slot_of l.ring → (4096 * i + 4096 ≤ length l.slots) × (2 * i + 2 ≤ length l.lens) × (i < 16)
    slot_room i e = let k = slot_below.0 in (omega (arith, p.slots), omega (arith, p.lens), omega (arith, p.size))

    -- the length of what a kill joins
    joins_length : length (joins (value_of l).action (value_of l)) ≡ used_of l.lens l.ring
    joins_length =
        action_cases (λ (a : Action). length (joins a (value_of l)) ≡ used_of l.lens l.ring) l.ring.action l.ring.yanked
        (λ k. slot_length R l p l.ring.index (index_in R l p (kill_some h k)) ∙ sym (used-kill l.lens l.ring k))
        (λ k. sym (used_other l.lens l.ring (λ z. omega arith)))
        (λ k o. sym (used_other l.lens l.ring k))

    -- it is at most 4,096
    pub used-most : used_of l.lens l.ring ≤ 4096
    unfolding used_of
    used-most =
        cond_ind (λ (n : ℕ). n ≤ 4096) (eqb l.ring.action 0) (len_at l.lens l.ring.index) 0
        (λ a. slot_short R l p l.ring.index (index_in R l p (kill_some h (eqb-true _ _ a))))
        (λ a. omega arith)

    -- the bytes that the slot holds
    joins_bytes : take (used_of l.lens l.ring) (drop (4096 * slot_of l.ring) l.slots) ≡ joins (value_of l).action (value_of l)
    joins_bytes =
        action_cases
        (λ (a : Action). take (used_of l.lens l.ring) (drop (4096 * slot_of l.ring) l.slots) ≡ joins a (value_of l))
        l.ring.action l.ring.yanked
        (λ k.
        ap₂ (λ (n i : ℕ). take n (drop (4096 * i) l.slots)) (used-kill l.lens l.ring k) (slot_kill l.ring k)
        ∙ sym (slot_is R l p l.ring.index (index_in R l p (kill_some h k))))
        (λ k. ap (λ (n : ℕ). take n (drop (4096 * slot_of l.ring) l.slots)) (used_other l.lens l.ring (λ z. omega arith)))
        (λ k o. ap (λ (n : ℕ). take n (drop (4096 * slot_of l.ring) l.slots)) (used_other l.lens l.ring k))

  -- ---- a kill's ways
  module _ (m : Mode) (text : List ℕ) where
    -- the slot's text afterwards
    abbrev after : List ℕ
    after = kill_text (value_of l).action m text (value_of l)

    -- size 0: the last action alone
    pub kill_disabled : (r : AnswerAndRing) → l.ring.size ≡ 0 → r ≡ alone 0 (numbers l.ring l.ring.index 0 0)
        → Ringed l (kill_out m text (value_of l)) r l.slots l.lens
    unfolding kill_out
    kill_disabled r e q =
        subst (λ (b : Bool). Ringed l (cond b (answered 0 0 0 (with_action (value_of l) Kill))
        (cond (ltb 4096 (length after)) (refused 11)
        (answered 0 0 0 (stored (kill_index (value_of l).action (value_of l)) after (value_of l))))) r l.slots l.lens)
        (sym (eq-eqb l.ring.size 0 e)) (record { whole = q ∙ kill-left l; bytes = ready-slots })

    module _ (h : 0 < l.ring.size) where
      -- its length
      after-length : length after ≡ used_of l.lens l.ring + length text
      after-length =
          ap length (kill_joins (value_of l).action m text (value_of l)) ∙ joined_length m (joins (value_of l).action (value_of l)) text
          ∙ ap (λ (n : ℕ). n + length text) (joins_length h)

      -- 11, or the text in its slot
      out-with : (b : Bool) → ltb 4096 (length after) ≡ b
          → kill_out m text (value_of l) ≡ cond b (refused 11) (answered 0 0 0 (stored (slot_of l.ring) after (value_of l)))
      unfolding kill_out
      out-with b e =
          ap (λ (t : Bool). cond t (answered 0 0 0 (with_action (value_of l) Kill))
          (cond (ltb 4096 (length after)) (refused 11)
          (answered 0 0 0 (stored (kill_index (value_of l).action (value_of l)) after (value_of l)))))
          (ne_eqb l.ring.size 0 (λ z. omega arith))
          ∙ ap₂ (λ (t : Bool) (i : ℕ). cond t (refused 11) (answered 0 0 0 (stored i after (value_of l)))) e (sym (slot-of l))

      -- 11: the slot would pass 4,096 bytes
      pub kill_full : (r : AnswerAndRing) (u : ℕ) → u ≡ used_of l.lens l.ring → 4096 - u < length text → r ≡ alone 11 l.ring
          → Ringed l (kill_out m text (value_of l)) r l.slots l.lens
      kill_full r u e k q =
          let z = used-most h in
          let f : ltb 4096 (length after) ≡ true = lt-ltb 4096 (length after) (omega (arith, after-length)) in
          subst (λ (o : Outcome KillRing). Ringed l o r l.slots l.lens) (sym (out-with true f)) (record { whole = q; bytes = (refl, refl) })

      -- the text in its slot, and its length beside it
      pub kill-done : (r : AnswerAndRing) (g : Ring) (u i at : ℕ) (s t : List ℕ) → u ≡ used_of l.lens l.ring → length text ≤ 4096 - u
          → i ≡ slot_of l.ring → at ≡ place_of m u
          → Put l.slots i (inserted (take u (drop (4096 * i) l.slots)) at text) s → t ≡ sets l.lens (2 * i) (le 2 (u + length text))
          → g ≡ killed_into l.ring i → r ≡ alone 0 g
          → Ringed l (kill_out m text (value_of l)) r s t
      unfolding killed_into
      kill-done r g u i at s t eu fit ei ea put et eg er =
          let z = used-most h in
          let big = after-length in
          let f : ltb 4096 (length after) ≡ false = le-ltb 4096 (length after) (omega arith) in
          let v = slot_below h in
          let bytes : take u (drop (4096 * i) l.slots) ≡ joins (value_of l).action (value_of l) =
          ap₂ (λ (n j : ℕ). take n (drop (4096 * j) l.slots)) eu ei ∙ joins_bytes h in
          let whole : inserted (take u (drop (4096 * i) l.slots)) at text ≡ after =
          ap₂ (λ (x : List ℕ) (k : ℕ). inserted x k text) bytes ea
          ∙ inserted-joined m (joins (value_of l).action (value_of l)) text u (joins_length h ∙ sym eu)
          ∙ sym (kill_joins (value_of l).action m text (value_of l)) in
          let there : Put l.slots i after s = subst (λ (x : List ℕ). Put l.slots i x s) whole put in
          let room = (slot_room h i ei).1 in
          let small : u + length text < 65536 = omega arith in
          let size : u + length text ≡ length after = ap (λ (n : ℕ). n + length text) eu ∙ sym big in
          let count = slots_length l.slots l.lens 0 l.ring.count in
          let le-count : i ≤ l.ring.count = omega arith in
          subst (λ (o : Outcome KillRing). Ringed l o r s t) (sym (out-with false f))
          (subst (λ (j : ℕ). Ringed l (answered 0 0 0 (stored j after (value_of l))) r s t) ei
          (record {
            whole =
                er ∙ ap (alone 0) eg
                ∙ ap (λ (n : ℕ). alone 0 (record { size = l.ring.size; count = n; index = i; action = 0; yanked = 0 }))
                (put-length (value_of l).slots i l.ring.count after count le-count);
            bytes =
                slots-put l.slots l.lens s t i (others l.slots l.lens s t i (u + length text) after room there et) 0 i
                (value_of l).slots after
                (put-at l.slots l.lens s t i (u + length text) after room small size there et) (omega arith)
                (omega arith) ready_short ready-slots;
          }))

-- ---- the direction by its code
-- where the checks pass, the code names one
pub named_number : (R : Repertoire) (l : Lent) (n : Result Mode UnknownMode) (x : Option Mode) (code foreign f : Bool) → result_ok n ≡ x
    → code ≡ is_err n → foreign ≡ f → 0 ≡ checked R l code (not foreign)
    → refused_by (result_or n (Err Code)) ≡ checked R l (is_none x) (not f)
named_number R l (Ok m) x code foreign f e c g z = z ∙ ap₂ (λ (a b : Bool). checked R l a (not b)) (c ∙ ap is_none e) g
named_number R l (Err u) x code foreign f e c g z =
    absurd (code-refused R l (not foreign) (sym (z ∙ ap (λ (a : Bool). checked R l a (not foreign)) c)))
