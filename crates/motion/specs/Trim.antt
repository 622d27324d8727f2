-- The end of the input and the next alphanumeric cluster: line_buffer.rs, is_end_of_input and skip_whitespace.
use Rattle.std.specs.Prelude.{ℕ, ◌+◌, cond, ◌&&◌, List, [], ◌∷◌, eqb, drop, Option, None, Some}
use Rattle.lists.specs.Lists.{all}
use Rattle.utf8.specs.Chars.{chars}
use Rattle.utf8.specs.Encode.{size}
use Rattle.repertoire.specs.Repertoire.{Repertoire}
use Rattle.cluster.specs.Clusters.{clusters_of, bytes}

-- trim_end().len(): the bytes of some characters without the white space at their end
unfoldable pub trimmed : Repertoire → List ℕ → ℕ
trimmed R [] = 0
trimmed R (c ∷ cs) = cond (eqb (trimmed R cs) 0 && R.white c) 0 (size c + trimmed R cs)

-- the length of a text without the white space at its end
abbrev pub trim_end : Repertoire → List ℕ → ℕ
trim_end R s = trimmed R (chars s)

-- where the first cluster stands all of whose characters are alphanumeric, the first of them at a place
unfoldable pub first_alnum : Repertoire → ℕ → List (List ℕ) → Option ℕ
first_alnum R at [] = None
first_alnum R at (k ∷ ks) = cond (all R.alnum k) (Some at) (first_alnum R (at + bytes k) ks)

unfoldable pub skip_whitespace : Repertoire → List ℕ → ℕ → Option ℕ
skip_whitespace R s pos = first_alnum R pos (clusters_of R (drop pos s))
