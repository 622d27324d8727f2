-- A number written byte by byte. Assumes nothing.
use Prim.Native.Nat.{ℕ, suc, ◌+◌, ◌-◌, ◌/◌, ◌%◌, ◌≤◌, ◌<◌}
use native.Mathlib.Omega.{arith}
use mathlib.Core.Path.{◌≡◌, sym, ap, ◌∙◌}
use mathlib.Core.List.{List, [], append-nil, append_assoc}
use borrow.Rule.Slice.PartMut.{put_mid}
use lib.ListN.{length, take, drop, set, length-take, length-drop, drop_of_length-le}
use lib.Seq.{sets, sets-eq, drop-drop}
use Rattle.numbers.specs.Numbers.{le}
use Rattle.numbers.proofs.Numbers.{length-le}

-- ---- the bytes of a number, stored one after the other: of what is left of it the byte i is stored, and i is w behind the last
module _ (s : List ℕ) (i w v : ℕ) where
  pub byte_stored : i < w → sets (set s i (v % 256)) (i + 1) (le (w - (i + 1)) (v / 256)) ≡ sets s i (le (w - i) v)
  byte_stored h =
      let e : w - i ≡ suc (w - (i + 1)) = omega arith in
      let f : i + 1 ≡ suc i = omega arith in
      rw (e, f)

  all-stored : w ≤ i → sets s i (le (w - i) v) ≡ s
  all-stored h =
      let e : w - i ≡ 0 = omega arith in
      rw e

-- the part of w bytes at a place, from p to q
pub part_stored :
    (s p q : List ℕ) (at w v j r : ℕ) → at + w ≤ length s → p ≡ take (at + w - at) (drop at s) → length q ≡ length p →
    sets q j (le (w - j) r) ≡ sets p 0 (le w v) → length p ≤ j → put_mid at (at + w - at) s q ≡ sets s at (le w v)
part_stored s p q at w v j r h e n i d =
    let k : at + w - at ≡ w = omega arith in
    let b = length-le w v in
    let m : length p ≡ w = ap length e ∙ simp (length-take, length-drop) (omega arith) in
    let none : drop (0 + length (le w v)) p ≡ [] = drop_of_length-le p {i = 0 + length (le w v)} (omega arith) in
    let is : q ≡ le w v =
    sym (all-stored q j w r (omega arith)) ∙ i ∙ sets-eq (le w v) p 0 (omega arith) ∙ rw none (append-nil (le w v)) in
    let z : drop w (drop at s) ≡ drop (at + length (le w v)) s = drop-drop w at s ∙ ap (λ (a : ℕ). drop a s) (omega arith) in
    rw (k, is, z) (sym (sets-eq (le w v) s at (omega arith) ∙ append_assoc (take at s) (le w v) (drop (at + length (le w v)) s)))
