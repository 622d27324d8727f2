-- A text in upper or in lower case: each character replaced by its mapping (The Unicode Standard, section 3.13: toUppercase, toLowercase).
use Rattle.std.specs.Prelude.{ℕ, ◌+◌, ◌≤◌, ◌≡◌, true, cond, List, [], ◌∷◌, ◌++◌, leb, length, Option, Some, None}
use Rattle.std.proofs.lemmas.List.Edits.{sets}
use Rattle.utf8.specs.Chars.{chars}
use Rattle.lists.specs.Lists.{all}
use Rattle.utf8.specs.Encode.{scalar, encode_all}
use Rattle.repertoire.specs.Repertoire.{Repertoire, catalogue}
use Rattle.repertoire.specs.declared.Case.{Case}
use Rattle.repertoire.specs.declared.Case.TheVariants.{Upper, Lower}
use Rattle.repertoire.specs.declared.Mapped.{Mapped}
use Rattle.repertoire.specs.declared.Mapped.TheVariants.{One, Two}

abbrev pub case_of : Repertoire → Case → ℕ → List ℕ
case_of R Upper c = R.upper c
case_of R Lower c = R.lower c

-- the characters of a mapping
abbrev pub as_chars : Mapped → List ℕ
as_chars (One a) = a ∷ []
as_chars (Two a b) = a ∷ b ∷ []

-- a mapping has a form in UTF-8, and there is room for it at a place of a buffer of n bytes
pub record MappedFits (n at : ℕ) (m : Mapped) : Type 0 where
  pub forms : all scalar (as_chars m) ≡ true
  pub room : at + length (encode_all (as_chars m)) ≤ n

-- the buffer s after a mapping was written into it at a place, and the count of bytes written
pub record MappedAt (s : List ℕ) (at : ℕ) (m : Mapped) (after : List ℕ) (count : ℕ) : Type 0 where
  pub bytes : after ≡ sets s at (encode_all (as_chars m))
  pub counted : count ≡ length (encode_all (as_chars m))

unfoldable pub case_all : Repertoire → Case → List ℕ → List ℕ
case_all R k [] = []
case_all R k (c ∷ cs) = case_of R k c ++ case_all R k cs

-- the bytes of s in upper or in lower case
unfoldable pub cased : Repertoire → Case → List ℕ → List ℕ
cased R k s = encode_all (case_all R k (chars s))

-- what goes into a buffer of n bytes: all of it, or nothing where the buffer is shorter than s
unfoldable pub cased_into : ℕ → Case → List ℕ → List ℕ
cased_into n k s = cond (leb (length s) n) (cased catalogue k s) []

-- a buffer after s was written to its front in upper or in lower case, and the count of bytes written: none where it is shorter than s
pub record CasedInto (before : List ℕ) (k : Case) (s after : List ℕ) (count : Option ℕ) : Type 0 where
  pub bytes : after ≡ sets before 0 (cased_into (length before) k s)
  pub counted : count ≡ cond (leb (length s) (length before)) (Some (length (cased catalogue k s))) None
