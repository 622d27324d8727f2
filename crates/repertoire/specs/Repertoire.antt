-- A repertoire: which code points a text may hold, and what the rules on text ask of each. Everything above takes it as a parameter.
use Rattle.std.specs.Prelude.{ℕ, ◌+◌, ◌-◌, ◌≤◌, ◌≡◌, Bool, true, false, cond, ◌||◌, List, [], ◌∷◌, eqb, length}
use Rattle.lists.specs.Lists.{all}
use Rattle.utf8.specs.Utf8.{within}
use Rattle.utf8.specs.Encode.{scalar, size, encode_all}

pub record Repertoire : Type 0 where
  pub member : ℕ → Bool
  -- UAX #29's Control, CR and LF
  pub control : ℕ → Bool
  -- UAX #29's Extend
  pub mark : ℕ → Bool
  pub alnum : ℕ → Bool
  pub white : ℕ → Bool
  -- Unicode's full case mappings: one character or more
  pub upper : ℕ → List ℕ
  pub lower : ℕ → List ℕ
  -- columns on a terminal
  pub width : ℕ → ℕ

-- what the laws ask of a repertoire
pub record Lawful (R : Repertoire) : Type 0 where
  -- its members have a form in UTF-8, and case stays within it
  pub scalars : (c : ℕ) → R.member c ≡ true → scalar c ≡ true
  pub uppers : (c : ℕ) → R.member c ≡ true → all R.member (R.upper c) ≡ true
  pub lowers : (c : ℕ) → R.member c ≡ true → all R.member (R.lower c) ≡ true
  -- no mapping is longer in bytes than its character, and each has a form in UTF-8
  pub upper_sizes : (c : ℕ) → scalar c ≡ true → (length (encode_all (R.upper c)) ≤ size c) × (all scalar (R.upper c) ≡ true)
  pub lower_sizes : (c : ℕ) → scalar c ≡ true → (length (encode_all (R.lower c)) ≤ size c) × (all scalar (R.lower c) ≡ true)
  -- U+0020, which indent puts in, is a member; it is white space, and no mark
  pub space : R.member 0x20 ≡ true
  pub space_white : R.white 0x20 ≡ true
  pub space_unmarked : R.mark 0x20 ≡ false
  -- white space, which dedent cuts, is not alphanumeric; controls are white space
  pub whites : (c : ℕ) → R.white c ≡ true → R.alnum c ≡ false
  pub controls : (c : ℕ) → R.control c ≡ true → R.white c ≡ true
  -- a mark takes no column, every other character one
  pub widths : (c : ℕ) → R.width c ≡ cond (R.mark c) 0 1

-- document 01, "Repertoire and clusters"

-- U+0009, U+000A, U+000D, U+0020 to U+007E, U+00A0 to U+00FF without U+00AD and U+00B5, U+0178, the marks U+0300 to U+0333
unfoldable pub is_member : ℕ → Bool
is_member c =
    within 0x09 0x0A c || eqb c 0x0D || within 0x20 0x7E c || within 0xA0 0xAC c || within 0xAE 0xB4 c || within 0xB6 0xFF c || eqb c 0x178 ||
    within 0x300 0x333 c

-- U+0009, \r and \n
unfoldable pub is_control : ℕ → Bool
is_control c = within 0x09 0x0A c || eqb c 0x0D

unfoldable pub is_mark : ℕ → Bool
is_mark c = within 0x300 0x333 c

-- ASCII letters and digits, U+00AA, U+00B2, U+00B3, U+00B9, U+00BA, U+00BC to U+00BE, U+00C0 to U+00FF without U+00D7 and U+00F7, U+0178
unfoldable pub is_alnum : ℕ → Bool
is_alnum c =
    within 0x30 0x39 c || within 0x41 0x5A c || within 0x61 0x7A c || eqb c 0xAA || within 0xB2 0xB3 c || within 0xB9 0xBA c || within 0xBC 0xBE c ||
    within 0xC0 0xD6 c || within 0xD8 0xF6 c || within 0xF8 0xFF c || eqb c 0x178

-- U+0009, U+000A, U+000D, U+0020, U+00A0
unfoldable pub is_white : ℕ → Bool
is_white c = within 0x09 0x0A c || eqb c 0x0D || eqb c 0x20 || eqb c 0xA0

-- lower case letters whose upper case stands 32 before them, and the other way round
unfoldable pub is_lowercase : ℕ → Bool
is_lowercase c = within 0x61 0x7A c || within 0xE0 0xF6 c || within 0xF8 0xFE c

unfoldable pub is_uppercase : ℕ → Bool
is_uppercase c = within 0x41 0x5A c || within 0xC0 0xD6 c || within 0xD8 0xDE c

-- upper case of U+00DF is SS, of U+00FF is U+0178
unfoldable pub upper_of : ℕ → List ℕ
upper_of c = cond (eqb c 0xDF) (0x53 ∷ 0x53 ∷ []) (cond (eqb c 0xFF) (0x178 ∷ []) (cond (is_lowercase c) ((c - 32) ∷ []) (c ∷ [])))

unfoldable pub lower_of : ℕ → List ℕ
lower_of c = cond (eqb c 0x178) (0xFF ∷ []) (cond (is_uppercase c) ((c + 32) ∷ []) (c ∷ []))

-- marks 0, all others 1
unfoldable pub width_of : ℕ → ℕ
width_of c = cond (is_mark c) 0 1

abbrev pub catalogue : Repertoire
catalogue =
    record {
      member = is_member;
      control = is_control;
      mark = is_mark;
      alnum = is_alnum;
      white = is_white;
      upper = upper_of;
      lower = lower_of;
      width = width_of;
    }
