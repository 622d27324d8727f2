-- The ring that lent bytes hold, where the checks pass: its record, its slots, its last action. Assumes nothing.
use Prim.Native.Nat.{ℕ, zero, suc, ◌+◌, ◌-◌, ◌*◌, ◌≤◌, ◌<◌}
use native.Mathlib.Omega.{arith}
use mathlib.Core.Path.{◌≡◌, refl, sym, ap, ap₂, ◌∙◌}
use mathlib.Core.Bool.{Bool, true, false, cond, not, ◌&&◌}
use mathlib.Core.List.{List}
use borrow.Author.Tests.{ltb-false, leb-false, eqb-true, eqb-false, eq-eqb, ne_eqb, not-false}
use lib.Dec.{eqb, leb, ltb, eqb-suc-zero}
use lib.ListN.{length, drop, length-drop}
use lib.Seq.{length-take-le}
use Rattle.lists.proofs.Bools.{by_less, or_none, never}
use Rattle.repertoire.specs.Repertoire.{Repertoire}
use Rattle.kill_ring.specs.declared.Ring.{Ring}
use Rattle.kill_ring.specs.declared.Action.{Action}
use Rattle.kill_ring.specs.declared.Action.TheVariants.{Kill, Yank, Other}
use Rattle.kill_ring.specs.Ring.{is_empty, slot_at}
use Rattle.kill_ring.specs.Calls.{Lent, len_at, slot_bytes, slots_from, action_of, value_of, action_breaks, action_number, yank_size}
use Rattle.kill_ring.specs.Calls.{ring_of}
use Rattle.kill_ring.proofs.Slots.{short_at, slots_length, slots_at}
use Rattle.kill_ring.proofs.Passed.{Ready}

-- ---- by a test
-- not 0
pub some_of : (n : ℕ) → (n ≡ 0 → ⊥) → 0 < n
some_of zero f = absurd (f refl)
some_of (suc n) f = omega arith

-- either way of a test
pub cond_ind : {A : Type 0} (P : A → Type 0) (b : Bool) (x y : A) → (b ≡ true → P x) → (b ≡ false → P y) → P (cond b x y)
cond_ind P true x y f g = f refl
cond_ind P false x y f g = g refl

-- ---- the last action by its number
pub action_cases : (P : Action → Type 0) (k n : ℕ) → (k ≡ 0 → P Kill) → (k ≡ 1 → P (Yank n)) → ((k ≡ 0 → ⊥) → (k ≡ 1 → ⊥) → P Other)
    → P (action_of k n)
action_cases P k n f g h =
    cond_ind P (eqb k 0) Kill (cond (eqb k 1) (Yank n) Other) (λ e. f (eqb-true k 0 e))
    (λ e. cond_ind P (eqb k 1) (Yank n) Other (λ d. g (eqb-true k 1 d)) (λ d. h (eqb-false k 0 e) (eqb-false k 1 d)))

-- the last action of a record that check 8 passes, by its number
pub record Acted (r : Ring) : Type 0 where
  pub most : r.action ≤ 2
  pub size : r.yanked ≤ 4096
  pub none : (r.action ≡ 1 → ⊥) → r.yanked ≡ 0
  pub kill : r.action ≡ 0 → r.count ≡ 0 → r.size ≡ 0

-- the size of a yank, or of none
pick_left : (t : Bool) (n : ℕ) → cond t (ltb 4096 n) (not (eqb n 0)) ≡ false → n ≤ 4096
pick_left true n e = ltb-false 4096 n e
pick_left false n e = let z : n ≡ 0 = eqb-true n 0 (not-false (eqb n 0) e) in omega arith

-- three tests of which one fails
and_false : (a b c : Bool) → (a && (b && not c)) ≡ false → a ≡ true → b ≡ true → c ≡ true
and_false true true true e f g = refl
and_false true true false e f g = sym e
and_false true false c e f g = never _ true refl (sym g)
and_false false b c e f g = never _ false f refl

-- from check 8
pub acted : (r : Ring) → action_breaks r ≡ false → Acted r
unfolding action_breaks
acted r e =
    let a = or_none (ltb 2 r.action) _ e in
    let b = or_none (cond (eqb r.action 1) (ltb 4096 r.yanked) (not (eqb r.yanked 0))) _ a.1 in
    record {
      most = ltb-false 2 r.action a.0;
      size = pick_left (eqb r.action 1) r.yanked b.0;
      none = λ k. eqb-true r.yanked 0 (not-false (eqb r.yanked 0)
          (ap (λ (t : Bool). cond t (ltb 4096 r.yanked) (not (eqb r.yanked 0))) (sym (ne_eqb r.action 1 k)) ∙ b.0));
      kill =
          λ k n. eqb-true r.size 0
          (and_false (eqb r.action 0) (eqb r.count 0) (eqb r.size 0) b.1 (eq-eqb r.action 0 k) (eq-eqb r.count 0 n));
    }

-- the number and the size of the last action are those of the record
pub action_back : (r : Ring) → Acted r
    → (action_number (action_of r.action r.yanked) ≡ r.action) × (yank_size (action_of r.action r.yanked) ≡ r.yanked)
action_back r a =
    action_cases (λ (x : Action). (action_number x ≡ r.action) × (yank_size x ≡ r.yanked)) r.action r.yanked
    (λ k. (sym k, sym (a.none (λ o. omega arith))))
    (λ k. (sym k, refl))
    (λ k o. (two k o, sym (a.none o)))
  where
    two : (r.action ≡ 0 → ⊥) → (r.action ≡ 1 → ⊥) → 2 ≡ r.action
    two k o = omega (arith, a.most)

-- ---- whether there are slots
pub slots-empty : (slots lens : List ℕ) (i n : ℕ) → is_empty (slots_from slots lens i n) ≡ eqb n 0
unfolding slots_from
slots-empty slots lens i zero = refl
slots-empty slots lens i (suc n) = sym (eqb-suc-zero n)

-- none
pub slots_none : (slots lens : List ℕ) (i n : ℕ) → n ≡ 0 → is_empty (slots_from slots lens i n) ≡ true
slots_none slots lens i n e = slots-empty slots lens i n ∙ eq-eqb n 0 e

-- some
pub slots_some : (slots lens : List ℕ) (i n : ℕ) → 0 < n → is_empty (slots_from slots lens i n) ≡ false
slots_some slots lens i n h = slots-empty slots lens i n ∙ ne_eqb n 0 (λ e. omega arith)

module _ (R : Repertoire) (l : Lent) (p : Ready R l) where
  -- ---- the record
  pub ring_back : ring_of (value_of l) ≡ l.ring
  ring_back =
      let g = l.ring in
      let v = value_of l in
      let a = action_back g (acted g p.action) in
      ap (λ (n : ℕ). record { size = g.size; count = n; index = g.index; action = action_number v.action; yanked = yank_size v.action })
      (slots_length l.slots l.lens 0 g.count)
      ∙ ap₂ (λ (x y : ℕ). record { size = g.size; count = g.count; index = g.index; action = x; yanked = y }) a.0 a.1

  -- ---- the index
  pub index_in : 0 < l.ring.count → l.ring.index < l.ring.count
  index_in h =
      leb-false l.ring.count l.ring.index
      (ap (λ (b : Bool). cond b (not (eqb l.ring.index 0)) (leb l.ring.count l.ring.index))
      (sym (ne_eqb l.ring.count 0 (λ e. omega arith))) ∙ p.index)

  -- 0 where there are no slots
  pub index_none : l.ring.count ≡ 0 → l.ring.index ≡ 0
  index_none e =
      eqb-true l.ring.index 0
      (not-false (eqb l.ring.index 0)
      (ap (λ (b : Bool). cond b (not (eqb l.ring.index 0)) (leb l.ring.count l.ring.index)) (sym (eq-eqb l.ring.count 0 e)) ∙ p.index))

  -- below the size where there is one
  pub index_below : 0 < l.ring.size → l.ring.index < l.ring.size
  index_below h =
      by_less (l.ring.index < l.ring.size) 0 l.ring.count
      (λ k. let i = index_in k in omega (arith, p.count))
      (λ k. let i = index_none (omega arith) in omega arith)

  -- ---- a slot
  pub slot_short : (i : ℕ) → i < l.ring.count → len_at l.lens i ≤ 4096
  slot_short i h = short_at l.lens l.ring.count i (len_at l.lens i) p.short h refl

  -- its text is its used bytes
  pub slot_is : (i : ℕ) → i < l.ring.count → slot_at (value_of l) i ≡ slot_bytes l.slots l.lens i
  slot_is i h =
      let z : 0 + i ≡ i = omega arith in
      slots_at l.slots l.lens 0 l.ring.count i h ∙ ap (slot_bytes l.slots l.lens) z

  -- they are as many as its length says
  pub bytes-length : (i : ℕ) → i < l.ring.count → length (slot_bytes l.slots l.lens i) ≡ len_at l.lens i
  bytes-length i h =
      let s = slot_short i h in
      length-take-le (len_at l.lens i) (drop (4096 * i) l.slots) (simp length-drop (room (len_at l.lens i) s))
    where
      room : (n : ℕ) → n ≤ 4096 → n ≤ length l.slots - 4096 * i
      room n s = omega (arith, p.slots, p.count)

  -- and so is its text long
  pub slot_length : (i : ℕ) → i < l.ring.count → length (slot_at (value_of l) i) ≡ len_at l.lens i
  slot_length i h = ap length (slot_is i h) ∙ bytes-length i h
