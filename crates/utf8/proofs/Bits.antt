-- Bits: six bits joined behind others. Assumes nothing.
use mathlib.Core.Path.{◌≡◌, ap₂, ◌∙◌}
use Prim.Native.Nat.{ℕ, ◌+◌, ◌*◌, ◌%◌, ◌^◌, ◌<◌}
use native.Mathlib.Omega.{arith}
use lib.Dec.{lit≤}
use lib.Bits.{bit_and, bit_or, and_mask, or_shifted}
use lib.Pow.{shl_exact}

pub join_law : (bits b : ℕ) → bits < 2 ^ 26 → bit_or ((bits * 64) % 2 ^ 32) (bit_and b 63) ≡ bits * 64 + b % 64
join_law bits b h = ap₂ bit_or (shl_exact 26 6 32 h (lit≤ tt)) (and_mask b 6) ∙ or_shifted bits 6 (b % 64) (omega arith)
