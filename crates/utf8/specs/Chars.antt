-- RFC 3629, section 4: UTF8-octets = *( UTF8-char ). The characters of a list of bytes, and whether all of it is characters.
-- Both go through the list with the count of bytes that still belong to the character before: `f zero s` begins a character.
use Rattle.std.specs.Prelude.{ℕ, zero, suc, pred, ◌-◌, ◌<◌, ◌≤◌, ◌≡◌, Bool, true, false, cond, ◌&&◌, not, List, [], ◌∷◌, length, take, drop}
use Rattle.std.specs.Prelude.{get_or}
use Rattle.utf8.specs.Utf8.{First, char, bad, tail, first}

abbrev pub push : First → List ℕ → List ℕ
push (char c n) cs = c ∷ cs
push bad cs = []

abbrev pub is_found : First → Bool
is_found (char c n) = true
is_found bad = false

abbrev pub octets : First → ℕ
octets (char c n) = n
octets bad = 1

unfoldable pub chars_from : ℕ → List ℕ → List ℕ
chars_from k [] = []
chars_from zero (b ∷ s) = push (first (b ∷ s)) (chars_from (pred (octets (first (b ∷ s)))) s)
chars_from (suc k) (b ∷ s) = chars_from k s

unfoldable pub valid_from : ℕ → List ℕ → Bool
valid_from k [] = true
valid_from zero (b ∷ s) = is_found (first (b ∷ s)) && valid_from (pred (octets (first (b ∷ s)))) s
valid_from (suc k) (b ∷ s) = valid_from k s

-- the code points of s, up to the first byte that begins no character
abbrev pub chars : List ℕ → List ℕ
chars s = chars_from 0 s

-- s is UTF-8
abbrev pub valid : List ℕ → Bool
valid s = valid_from 0 s

-- a place is a character boundary where the bytes before it are characters
abbrev pub boundary : List ℕ → ℕ → Bool
boundary s i = valid (take i s)

-- two places in a text, in order and between its characters
abbrev pub In : List ℕ → ℕ → ℕ → Type 0
In s a b = (a ≤ b) × (b ≤ length s) × (boundary s a ≡ true) × (boundary s b ≡ true)

-- a place where no UTF8-tail stands; of a valid list, the boundaries are these places (proofs/Boundary, boundary_test)
abbrev pub no_tail : List ℕ → ℕ → Bool
no_tail s i = not (tail (get_or s i 256))

-- the last place before i where no UTF8-tail stands, 0 where there is none; of a valid list and a boundary i,
-- the start of the character that ends at i (proofs/Boundary, start-before)
unfoldable pub start_before : List ℕ → ℕ → ℕ
start_before s zero = 0
start_before s (suc i) = cond (tail (get_or s i 256)) (start_before s i) i

-- the character that ends at i starts at r
pub record EndsAt (s : List ℕ) (i r : ℕ) : Type 0 where
  pub below : r < i
  pub start : boundary s r ≡ true
  pub code : ℕ
  pub char_there : first (drop r s) ≡ char code (i - r)
