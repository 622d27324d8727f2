-- A text: bytes that are UTF-8 and whose code points are all of a repertoire. Document 01, check 4.
use Rattle.std.specs.Prelude.{ℕ, ◌≤◌, ◌≡◌, Bool, false, cond, ◌&&◌, ◌||◌, List, eqb, length, drop, Option, Some, None}
use Rattle.lists.specs.Lists.{all}
use Rattle.utf8.specs.Utf8.{First, char, bad, within}
use Rattle.utf8.specs.Chars.{chars, valid}
use Rattle.utf8.specs.Encode.{scalar}
use Rattle.repertoire.specs.Repertoire.{Repertoire, catalogue}

unfoldable pub is_text : Repertoire → List ℕ → Bool
is_text R s = valid s && all R.member (chars s)

-- a character that may be put in
unfoldable pub is_char : Repertoire → ℕ → Bool
is_char R c = scalar c && R.member c

-- the length of the character at the front, none where none of the repertoire stands there
abbrev pub member_len : Repertoire → First → Option ℕ
member_len R (char c n) = cond (R.member c) (Some n) None
member_len R bad = None

-- a byte that is a character of the repertoire by itself, by document 01's ASCII
unfoldable pub plain : ℕ → Bool
plain b = within 0x20 0x7E b || within 0x09 0x0A b || eqb b 0x0D

-- what reading characters from i on until end has found: they are of the repertoire as far as a place, or something else stands there
abbrev pub ReadTo : List ℕ → ℕ → ℕ → Option ℕ → Type 0
ReadTo s i end (Some j) = (end ≤ j) × (j ≤ length s) × (is_text catalogue (drop i s) ≡ is_text catalogue (drop j s))
ReadTo s i end None = is_text catalogue (drop i s) ≡ false
