-- Numbers of w bytes, little-endian: document 01, "Log and ring".
use Rattle.std.specs.Prelude.{ℕ, zero, suc, ◌+◌, ◌*◌, ◌/◌, ◌%◌, ◌≤◌, ◌≡◌, List, [], ◌∷◌, get_or}

-- the bytes of a number that is read: 2, or 4 in the wide records of document 02, order 10
pub record Width (w : ℕ) : Type 0 where
  pub least : 2 ≤ w
  pub most : w ≤ 4
  pub even : w % 2 ≡ 0

-- numbers of w bytes are below top w
abbrev pub top : ℕ → ℕ
top zero = 1
top (suc w) = 256 * top w

-- w bytes, little-endian
abbrev pub le : ℕ → ℕ → List ℕ
le zero v = []
le (suc w) v = v % 256 ∷ le w (v / 256)

-- the number that w bytes at a place spell
abbrev pub num_at : ℕ → List ℕ → ℕ → ℕ
num_at zero s at = 0
num_at (suc w) s at = get_or s at 0 + 256 * num_at w s (at + 1)
