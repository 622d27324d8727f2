-- The slots that the bytes hold, one by one: their lengths, their texts, and the tests of each. Assumes nothing.
use Prim.Native.Nat.{ℕ, zero, suc, ◌+◌, ◌-◌, ◌*◌, ◌≤◌, ◌<◌}
use native.Mathlib.Nat.{add-zero, not-suc-le-zero, le_of_suc-le-suc}
use native.Mathlib.Omega.{arith}
use mathlib.Core.Path.{◌≡◌, refl, sym, ap, subst, ◌∙◌}
use mathlib.Core.Bool.{Bool, false, not, ◌||◌}
use mathlib.Core.List.{List, []}
use borrow.Author.Tests.{ltb-false}
use lib.Dec.{ltb}
use lib.ListN.{length, get_or, take, drop}
use Rattle.std.specs.List.{list_any, range_with_len}
use Rattle.lists.proofs.Bools.{or_none}
use Rattle.repertoire.specs.Repertoire.{Repertoire}
use Rattle.repertoire.specs.Text.{is_text}
use Rattle.kill_ring.specs.Calls.{len_at, slot_bytes, slots_from, any_over, any_foreign}

-- ---- the tests of the slots, one by one
module _ (lens : List ℕ) where
  -- a length over 4,096
  pub any-over : (i n : ℕ) → any_over lens i n ≡ list_any (λ j. ltb 4096 (len_at lens j)) (range_with_len i n)
  unfolding any_over
  any-over i zero = refl
  any-over i (suc n) = let s : i + 1 ≡ suc i = omega arith in rw s (ap (λ (b : Bool). ltb 4096 (len_at lens i) || b) (any-over (suc i) n))

  -- a text that is none of the repertoire
  pub any-foreign : (R : Repertoire) (slots : List ℕ) (i n : ℕ) → any_foreign R (slots_from slots lens i n)
      ≡ list_any (λ j. not (is_text R (slot_bytes slots lens j))) (range_with_len i n)
  unfolding any_foreign slots_from
  any-foreign R slots i zero = refl
  any-foreign R slots i (suc n) =
      let s : i + 1 ≡ suc i = omega arith in
      rw s (ap (λ (b : Bool). not (is_text R (slot_bytes slots lens i)) || b) (any-foreign R slots (suc i) n))

-- no slot's length is over 4,096
pub each_short : (lens : List ℕ) (i n k : ℕ) → any_over lens i n ≡ false → k < n → len_at lens (i + k) ≤ 4096
unfolding any_over
each_short lens i zero k e h = absurd (not-suc-le-zero h)
each_short lens i (suc n) zero e h =
    rw (add-zero i) (ltb-false 4096 (len_at lens i) (or_none (ltb 4096 (len_at lens i)) (any_over lens (suc i) n) e).0)
each_short lens i (suc n) (suc k) e h =
    let s : i + suc k ≡ suc i + k = omega arith in
    rw s (each_short lens (suc i) n k (or_none (ltb 4096 (len_at lens i)) (any_over lens (suc i) n) e).1 (le_of_suc-le-suc h))

-- the length that was read of a slot in use
pub short_at : (lens : List ℕ) (n i r : ℕ) → any_over lens 0 n ≡ false → i < n → r ≡ len_at lens i → r ≤ 4096
short_at lens n i r e h k =
    let z : 0 + i ≡ i = omega arith in
    subst (λ (m : ℕ). m ≤ 4096) (sym k) (subst (λ (j : ℕ). len_at lens j ≤ 4096) z (each_short lens 0 n i e h))

-- what `&slots[from..to]` lends
pub slot_part : (slots lens : List ℕ) (i r : ℕ) → r ≡ len_at lens i
    → take (4096 * i + r - 4096 * i) (drop (4096 * i) slots) ≡ slot_bytes slots lens i
slot_part slots lens i r e = let q : 4096 * i + r - 4096 * i ≡ r = omega arith in rw (q, e)

-- ---- the list of the slots
-- as many as were asked for
pub slots_length : (slots lens : List ℕ) (i n : ℕ) → length (slots_from slots lens i n) ≡ n
unfolding slots_from
slots_length slots lens i zero = refl
slots_length slots lens i (suc n) = ap suc (slots_length slots lens (suc i) n)

-- each is the bytes of its slot
pub slots_at : (slots lens : List ℕ) (i n k : ℕ) → k < n → get_or (slots_from slots lens i n) k [] ≡ slot_bytes slots lens (i + k)
unfolding slots_from
slots_at slots lens i zero k h = absurd (not-suc-le-zero h)
slots_at slots lens i (suc n) zero h = ap (slot_bytes slots lens) (sym (add-zero i))
slots_at slots lens i (suc n) (suc k) h =
    let s : i + suc k ≡ suc i + k = omega arith in
    slots_at slots lens (suc i) n k (le_of_suc-le-suc h) ∙ ap (slot_bytes slots lens) (sym s)
