-- A text put into one slot, and its length beside it: the slot holds it, and the others hold what they held. Assumes nothing.
use Prim.Native.Nat.{ℕ, zero, suc, ◌+◌, ◌-◌, ◌*◌, ◌≤◌, ◌<◌}
use native.Mathlib.Nat.{le_of_suc-le-suc}
use native.Mathlib.Omega.{arith}
use mathlib.Core.Path.{◌≡◌, refl, sym, ap, ap₂, subst, ◌∙◌}
use mathlib.Core.List.{List, [], ◌∷◌, ◌++◌, append_assoc}
use lib.ListN.{length, get_or, take, drop, length-drop}
use lib.Seq.{sets, sets-eq, length-take-le, take_at, take-take, take-append-le, drop_at, drop-drop, get_or-drop}
use borrow.Rule.Slice.PartMut.{put_mid, post_of, mid_of, mid_len, take_put, drop_put}
use Rattle.lists.proofs.Bools.{by_less}
use Rattle.numbers.specs.Numbers.{num_at, le}
use Rattle.numbers.proofs.Numbers.{num_le, num_take}
use Rattle.buffer.specs.Edit.{inserted}
use Rattle.lists.proofs.Parts.{take-drop}
use Rattle.buffer.proofs.Inserted.{inserted-length}
use Rattle.kill_ring.specs.Ring.{put_at}
use Rattle.kill_ring.specs.Calls.{len_at, SlotsIn}
use Rattle.kill_ring.specs.Killed.{Put}

-- ---- a part of a list that is as it was before a place and behind another
module _ (l t : List ℕ) (a e : ℕ) (before : take a t ≡ take a l) (behind : drop e t ≡ drop e l) where
  -- a part in front
  part-before : (b n : ℕ) → b + n ≤ a → take n (drop b t) ≡ take n (drop b l)
  part-before b n h =
      take-drop b n t ∙ ap (drop b) (sym (take-take (b + n) a t h) ∙ ap (take (b + n)) before ∙ take-take (b + n) a l h)
      ∙ sym (take-drop b n l)

  -- what lies behind
  drop-behind : (b : ℕ) → e ≤ b → drop b t ≡ drop b l
  drop-behind b h =
      let q : b ≡ e + (b - e) = omega arith in
      ap (λ (k : ℕ). drop k t) q ∙ sym (drop-drop (b - e) e t) ∙ ap (drop (b - e)) behind ∙ drop-drop (b - e) e l
      ∙ ap (λ (k : ℕ). drop k l) (sym q)

  -- a number in front
  num_before : (w b : ℕ) → b + w ≤ a → num_at w t b ≡ num_at w l b
  num_before w b h = sym (num_take w a t b h) ∙ ap (λ (k : List ℕ). num_at w k b) before ∙ num_take w a l b h

  -- a number behind
  num_behind : (w b : ℕ) → e ≤ b → num_at w t b ≡ num_at w l b
  num_behind zero b h = refl
  num_behind (suc w) b h = ap₂ (λ (x y : ℕ). x + 256 * y) byte (num_behind w (b + 1) (omega arith))
    where
      byte : get_or t b 0 ≡ get_or l b 0
      byte =
          let q : b ≡ e + (b - e) = omega arith in
          ap (λ (k : ℕ). get_or t k 0) q ∙ sym (get_or-drop e t (b - e) 0) ∙ ap (λ (k : List ℕ). get_or k (b - e) 0) behind
          ∙ get_or-drop e l (b - e) 0 ∙ ap (λ (k : ℕ). get_or l k 0) (sym q)

-- ---- the text: what insert_bytes leaves in the slot's part
pub put_back : (slots y text : List ℕ) (i used at : ℕ) → 4096 * i + 4096 ≤ length slots → at ≤ used → used + length text ≤ 4096
    → length y ≡ length (mid_of (4096 * i) (4096 * i + 4096 - 4096 * i) slots)
    → take (used + length text) y ≡ inserted (take used (mid_of (4096 * i) (4096 * i + 4096 - 4096 * i) slots)) at text
    → Put slots i (inserted (take used (drop (4096 * i) slots)) at text) (put_mid (4096 * i) (4096 * i + 4096 - 4096 * i) slots y)
put_back slots y text i used at h k f same e =
    let a : ℕ = 4096 * i in
    let part : List ℕ = drop a slots in
    let long : length y ≡ a + 4096 - a = same ∙ mid_len a (a + 4096) slots h in
    let whole : length (take used part) ≡ used = length-take-le used part (simp length-drop (omega arith)) in
    let size : length (inserted (take used part) at text) ≡ used + length text = inserted-length (take used part) at text (omega arith)
    ∙ ap (λ (n : ℕ). n + length text) whole in
    record {
      before = take_put a (a + 4096 - a) slots y (omega arith);
      stands =
          ap (λ (n : ℕ). take n (drop a (put_mid a (a + 4096 - a) slots y))) size
          ∙ ap (take (used + length text))
          (drop_at (take a slots) (y ++ post_of a (a + 4096 - a) slots) a (length-take-le a slots (omega arith)))
          ∙ take-append-le (used + length text) y (post_of a (a + 4096 - a) slots) (omega arith)
          ∙ e
          ∙ ap (λ (t : List ℕ). inserted t at text) (take-take used (a + 4096 - a) part (omega arith));
      behind = drop_put a (a + 4096) slots y (omega arith) h long;
    }

-- ---- the length: two bytes
abbrev lens-after : List ℕ → ℕ → ℕ → List ℕ
lens-after lens i n = sets lens (2 * i) (le 2 n)

module _ (lens : List ℕ) (i n : ℕ) (room : 2 * i + 2 ≤ length lens) where
  -- the bytes afterwards
  written : lens-after lens i n ≡ take (2 * i) lens ++ (le 2 n ++ drop (2 * i + 2) lens)
  written = sets-eq (le 2 n) lens (2 * i) room ∙ append_assoc (take (2 * i) lens) (le 2 n) (drop (2 * i + 2) lens)

  -- where they begin
  first : length (take (2 * i) lens) ≡ 2 * i
  first = length-take-le (2 * i) lens (omega arith)

  -- the length that is read there
  len_here : n < 65536 → len_at (lens-after lens i n) i ≡ n
  len_here h = ap (λ (l : List ℕ). len_at l i) written ∙ num_le 2 n (2 * i) (take (2 * i) lens) (drop (2 * i + 2) lens) first h

  -- what stands in front
  len-before : take (2 * i) (lens-after lens i n) ≡ take (2 * i) lens
  len-before = ap (take (2 * i)) written ∙ take_at (take (2 * i) lens) (le 2 n ++ drop (2 * i + 2) lens) (2 * i) first

  -- what stands behind
  len-behind : drop (2 * i + 2) (lens-after lens i n) ≡ drop (2 * i + 2) lens
  len-behind =
      ap (drop (2 * i + 2)) written ∙ sym (drop-drop 2 (2 * i) (take (2 * i) lens ++ (le 2 n ++ drop (2 * i + 2) lens)))
      ∙ ap (drop 2) (drop_at (take (2 * i) lens) (le 2 n ++ drop (2 * i + 2) lens) (2 * i) first)

-- ---- the slots afterwards
-- a text in a slot, with its length
abbrev pub At : List ℕ → List ℕ → ℕ → List ℕ → Type 0
At slots lens i s = (len_at lens i ≡ length s) × (take (length s) (drop (4096 * i) slots) ≡ s)

-- what the slots but one hold, they hold still
abbrev pub Others : List ℕ → List ℕ → List ℕ → List ℕ → ℕ → Type 0
Others slots lens slots' lens' i = (j : ℕ) (s : List ℕ) → (j ≡ i → ⊥) → length s ≤ 4096 → At slots lens j s → At slots' lens' j s

pub others : (slots lens slots' lens' : List ℕ) (i n : ℕ) (text : List ℕ) → 2 * i + 2 ≤ length lens → Put slots i text slots'
    → lens' ≡ sets lens (2 * i) (le 2 n)
    → Others slots lens slots' lens' i
others slots lens slots' lens' i n text room put e j s apart short at =
    by_less (At slots' lens' j s) j i
    (λ h. (
      ap (λ (l : List ℕ). len_at l j) e ∙ num_before lens (lens-after lens i n) (2 * i) (2 * i + 2) (len-before lens i n room)
          (len-behind lens i n room) 2 (2 * j) (omega arith) ∙ at.0,
      part-before slots slots' (4096 * i) (4096 * i + 4096) put.before put.behind (4096 * j) (length s) (omega arith) ∙ at.1,
    ))
    (λ h.
    let k : i < j = above h in (
      ap (λ (l : List ℕ). len_at l j) e ∙ num_behind lens (lens-after lens i n) (2 * i) (2 * i + 2) (len-before lens i n room)
          (len-behind lens i n room) 2 (2 * j) (omega arith) ∙ at.0,
      ap (take (length s)) (drop-behind slots slots' (4096 * i) (4096 * i + 4096) put.before put.behind (4096 * j) (omega arith)) ∙ at.1,
    ))
  where
    above : i ≤ j → i < j
    above h = omega (arith, apart)

-- the slot that was written
pub put-at : (slots lens slots' lens' : List ℕ) (i n : ℕ) (text : List ℕ) → 2 * i + 2 ≤ length lens → n < 65536 → n ≡ length text
    → Put slots i text slots' → lens' ≡ sets lens (2 * i) (le 2 n)
    → At slots' lens' i text
put-at slots lens slots' lens' i n text room small size put e =
    (ap (λ (l : List ℕ). len_at l i) e ∙ len_here lens i n room small ∙ size, put.stands)

-- each slot has at most 4,096 bytes
abbrev pub Short : List (List ℕ) → Type 0
Short [] = Unit {0}
Short (s ∷ ss) = (length s ≤ 4096) × Short ss

module _ (slots lens slots' lens' : List ℕ) (i : ℕ) (other : Others slots lens slots' lens' i) where
  -- the slots behind the one written
  slots-behind : (j : ℕ) (ss : List (List ℕ)) → i < j → Short ss → SlotsIn slots lens j ss → SlotsIn slots' lens' j ss
  unfolding SlotsIn
  slots-behind j [] h short stands = tt
  slots-behind j (s ∷ ss) h short stands =
      let x = other j s (λ e. omega arith) short.0 (stands.0, stands.1) in
      (x.0, x.1, slots-behind (suc j) ss (omega arith) short.1 stands.2)

  -- all of them: a text in the place of one, or one more
  pub slots-put : (j k : ℕ) (ss : List (List ℕ)) (s : List ℕ) → At slots' lens' i s → j + k ≡ i → k ≤ length ss → Short ss
      → SlotsIn slots lens j ss
      → SlotsIn slots' lens' j (put_at ss k s)
  unfolding SlotsIn put_at
  slots-put j zero [] s here e h short stands =
      let q : i ≡ j = omega arith in let x = subst (λ (m : ℕ). At slots' lens' m s) q here in (x.0, x.1, tt)
  slots-put j (suc k) [] s here e h short stands = absurd (omega arith)
  slots-put j zero (t ∷ ss) s here e h short stands =
      let q : i ≡ j = omega arith in
      let x = subst (λ (m : ℕ). At slots' lens' m s) q here in
      (x.0, x.1, slots-behind (suc j) ss (omega arith) short.1 stands.2)
  slots-put j (suc k) (t ∷ ss) s here e h short stands =
      let x = other j t (λ d. omega arith) short.0 (stands.0, stands.1) in
      (x.0, x.1, slots-put (suc j) k ss s here (omega arith) (le_of_suc-le-suc h) short.1 stands.2)
