-- Copies of a text written one behind the other. Assumes nothing.
use Prim.Native.Nat.{ℕ, zero, suc, ◌+◌, ◌-◌, ◌*◌, ◌≤◌, ◌<◌}
use native.Mathlib.Nat.{mul-zero, mul-suc}
use native.Mathlib.Omega.{arith}
use native.Mathlib.Numerals.{add-one}
use borrow.Rule.Slice.PartMut.{put_mid}
use mathlib.Core.Path.{◌≡◌, sym, ap, ap₂, ◌∙◌}
use mathlib.Core.List.{List, [], ◌++◌, append-nil, append_assoc}
use lib.ListN.{length, take, drop, length-append, length-drop, drop_of_length-le}
use lib.Seq.{take_all, take_at, drop_at, drop-drop}
use Rattle.buffer.specs.Edit.{shifted, inserted, written, copies}
use Rattle.buffer.proofs.Shifts.{write_law, back_law}

pub copies_length : (n : ℕ) (s : List ℕ) → length (copies n s) ≡ length s * n
unfolding copies
copies_length zero s = sym (mul-zero (length s))
copies_length (suc n) s = length-append s (copies n s) ∙ ap (λ (m : ℕ). length s + m) (copies_length n s) ∙ turned
  where
    turned : length s + length s * n ≡ length s * suc n
    turned = omega (arith, mul-suc (length s) n)

-- one copy more behind them
pub copies_more : (n : ℕ) (s : List ℕ) → copies n s ++ s ≡ copies (suc n) s
unfolding copies
copies_more zero s = sym (append-nil s)
copies_more (suc n) s = append_assoc s (copies n s) s ∙ ap (λ (l : List ℕ). s ++ l) (copies_more n s)

-- before the first copy nothing is written
pub copies_none : (s d : List ℕ) → d ≡ copies 0 s ++ drop (length s * 0) d
unfolding copies
copies_none s d = ap (λ (k : ℕ). drop k d) (sym (mul-zero (length s)))

-- i copies stand at the front, and one more is written behind them
pub copies_turn : (s d tail y : List ℕ) (n i : ℕ) → length s * n ≤ length d → i < n → tail ≡ copies i s ++ drop (length s * i) d
    → y ≡ s ++ drop (length s) (take (length tail - length s * i) (drop (length s * i) tail))
    → put_mid (length s * i) (length tail - length s * i) tail y ≡ copies (i + 1) s ++ drop (length s * (i + 1)) d
copies_turn s d tail y n i fit h w e =
    let at : ℕ = length s * i in
    let A = copies i s in
    let D = drop at d in
    let here : length A ≡ at = copies_length i s in
    let front : take at tail ≡ A = ap (take at) w ∙ take_at A D at here in
    let back : drop at tail ≡ D = ap (drop at) w ∙ drop_at A D at here in
    let n : length (drop at tail) ≡ length tail - at = length-drop at tail in
    let all : take (length tail - at) (drop at tail) ≡ drop at tail = take_all (length tail - at) (drop at tail) (omega arith) in
    let none : drop (length tail - at) (drop at tail) ≡ [] = drop_of_length-le (drop at tail) {i = length tail - at} (omega arith) in
    let more : at + length s ≡ length s * (i + 1) = simp add-one (omega (arith, mul-suc (length s) i)) in
    ap₂ (λ (a b : List ℕ). take at tail ++ (a ++ b)) (e ∙ ap (λ (l : List ℕ). s ++ drop (length s) l) (all ∙ back)) none
    ∙ ap₂ (λ (a b : List ℕ). a ++ b) front (append-nil (s ++ drop (length s) D))
    ∙ sym (append_assoc A s (drop (length s) D))
    ∙ ap₂ (λ (a b : List ℕ). a ++ b) (copies_more i s) (drop-drop (length s) at d ∙ ap (λ (k : ℕ). drop k d) more)
    ∙ ap (λ (k : ℕ). copies k s ++ drop (length s * (i + 1)) d) (sym (add-one i))

-- ---- a move up, then copies over the front; and the whole list after it
module _ (s : List ℕ) (n : ℕ) where
  pub repeat_law : (d e f : List ℕ) (used : ℕ) → used + length s * n ≤ length d →
      f ≡ shifted d (length s * n) used 0 → e ≡ copies n s ++ drop (length s * n) f → e ≡ written d used (copies n s)
  repeat_law d e f used h p q =
      let l = copies_length n s in
      write_law d (copies n s) e f used (omega arith) (p ∙ ap (λ (i : ℕ). shifted d i used 0) (sym l)) (q ∙ ap (λ (i : ℕ). copies n s ++ drop i f) (sym l))

  pub copies_back : (l y : List ℕ) (used at : ℕ) → at ≤ used → used + length s * n ≤ length l
      → y ≡ written (take (length l - at) (drop at l)) (used - at) (copies n s)
      → take (used + length s * n) (take at l ++ (y ++ drop (length l - at) (drop at l))) ≡ inserted (take used l) at (copies n s)
  copies_back l y used at h k p =
      let e = copies_length n s in
      ap (λ (i : ℕ). take (used + i) (take at l ++ (y ++ drop (length l - at) (drop at l)))) (sym e) ∙ back_law l (copies n s) y used at h (omega arith) p
