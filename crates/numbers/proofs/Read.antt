-- A number read: 2 bytes, and 2 more above them. Assumes nothing.
use Prim.Native.Nat.{ℕ, zero, suc, ◌+◌, ◌*◌, ◌≤◌}
use native.Mathlib.Omega.{arith}
use mathlib.Core.Path.{◌≡◌}
use mathlib.Core.List.{List}
use lib.ListN.{get_or}
use Rattle.numbers.specs.Numbers.{top, num_at}

-- numbers of at most 4 bytes
pub top_max : (k : ℕ) → k ≤ 4 → top k ≤ 4294967296
top_max zero h = omega arith
top_max (suc zero) h = omega arith
top_max (suc (suc zero)) h = omega arith
top_max (suc (suc (suc zero))) h = omega arith
top_max (suc (suc (suc (suc zero)))) h = omega arith
top_max (suc (suc (suc (suc (suc k))))) h = absurd (omega arith)

module _ (w at : ℕ) (s : List ℕ) (a b : ℕ) (e : a ≡ get_or s at 0) (f : b ≡ get_or s (at + 1) 0) where
  pub num_two : w ≡ 2 → a + 256 * b ≡ num_at w s at
  num_two z = rw z (omega arith)

  pub num_four : (c d : ℕ) → w ≡ 4 → c ≡ get_or s (at + 2) 0 → d ≡ get_or s (at + 3) 0 → a + 256 * b + 65536 * (c + 256 * d) ≡ num_at w s at
  num_four c d z g h =
      let p : at + 1 + 1 ≡ at + 2 = omega arith in
      let q : at + 2 + 1 ≡ at + 3 = omega arith in
      rw (z, p, q) (omega arith)
