-- RFC 3629, section 3: the bytes of a code point.
use Rattle.std.specs.Prelude.{ℕ, ◌+◌, ◌/◌, ◌%◌, ◌≡◌, Bool, cond, ◌&&◌, not, List, [], ◌∷◌, ◌++◌, leb, length, Option, Some, None}
use Rattle.std.proofs.lemmas.List.Edits.{sets}
use Rattle.utf8.specs.Utf8.{within}

-- U+0000 to U+10FFFF without the surrogates U+D800 to U+DFFF
unfoldable pub scalar : ℕ → Bool
scalar c = leb c 0x10FFFF && not (within 0xD800 0xDFFF c)

-- how many bytes, by the table's ranges
unfoldable pub size : ℕ → ℕ
size c = cond (leb c 0x7F) 1 (cond (leb c 0x7FF) 2 (cond (leb c 0xFFFF) 3 4))

-- 0xxxxxxx
abbrev pub one_byte : ℕ → List ℕ
one_byte c = c ∷ []

-- 110xxxxx 10xxxxxx
abbrev pub two_bytes : ℕ → List ℕ
two_bytes c = (0xC0 + c / 64) ∷ (0x80 + c % 64) ∷ []

-- 1110xxxx 10xxxxxx 10xxxxxx
abbrev pub three_bytes : ℕ → List ℕ
three_bytes c = (0xE0 + c / 4096) ∷ (0x80 + c / 64 % 64) ∷ (0x80 + c % 64) ∷ []

-- 11110xxx 10xxxxxx 10xxxxxx 10xxxxxx
abbrev pub four_bytes : ℕ → List ℕ
four_bytes c = (0xF0 + c / 262144) ∷ (0x80 + c / 4096 % 64) ∷ (0x80 + c / 64 % 64) ∷ (0x80 + c % 64) ∷ []

unfoldable pub encode : ℕ → List ℕ
encode c = cond (leb c 0x7F) (one_byte c) (cond (leb c 0x7FF) (two_bytes c) (cond (leb c 0xFFFF) (three_bytes c) (four_bytes c)))

-- the bytes of some characters
unfoldable pub encode_all : List ℕ → List ℕ
encode_all [] = []
encode_all (c ∷ cs) = encode c ++ encode_all cs

-- the bytes of a character that go into a buffer of n bytes at a place: all of them, or none where it has none or they do not fit
unfoldable pub fitting : ℕ → ℕ → ℕ → List ℕ
fitting n at c = cond (scalar c && leb (at + size c) n) (encode c) []

-- the buffer s after a character was written into it at a place, and how many bytes it has: none where none are written
pub record EncodedAt (s : List ℕ) (at c : ℕ) (after : List ℕ) (count : Option ℕ) : Type 0 where
  pub bytes : after ≡ sets s at (fitting (length s) at c)
  pub counted : count ≡ cond (scalar c && leb (at + size c) (length s)) (Some (length (encode c))) None
