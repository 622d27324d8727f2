-- Runs of stores, one behind the other, and what a front of the list is after them. Assumes nothing.
use mathlib.Core.Path.{◌≡◌, ap, ◌∙◌}
use mathlib.Core.List.{List, [], ◌∷◌, ◌++◌}
use Prim.Native.Nat.{ℕ, suc, ◌+◌, ◌≤◌}
use native.Mathlib.Nat.{add-zero}
use native.Mathlib.Omega.{arith}
use lib.ListN.{length, set, take, drop, length-append}
use lib.Seq.{sets, sets-eq, take_at, length-take-le}

module _ {A : Type 0} where
  pub sets-append : (l : List A) (i : ℕ) (a b : List A) → sets (sets l i a) (i + length a) b ≡ sets l i (a ++ b)
  sets-append l i [] b = ap (λ (k : ℕ). sets l k b) (add-zero i)
  sets-append l i (x ∷ a) b =
      let e : i + suc (length a) ≡ suc i + length a = omega arith in
      ap (λ (k : ℕ). sets (sets (set l i x) (suc i) a) k b) e ∙ sets-append (set l i x) (suc i) a b

  -- the front up to the end of what was stored: what stood before it, and it
  pub take-sets : (l : List A) (i : ℕ) (a : List A) → i + length a ≤ length l → take (i + length a) (sets l i a) ≡ take i l ++ a
  take-sets l i a h =
      rw (sets-eq a l i h)
      (take_at (take i l ++ a) (drop (i + length a) l) (i + length a) (length-append (take i l) a ∙ ap (λ (n : ℕ). n + length a) (length-take-le i l (omega arith))))
