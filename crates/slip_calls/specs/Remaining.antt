-- What is still to be printed from a place of the text on, where the line begun is filled so far.
use Rattle.std.specs.Prelude.{ℕ, ◌-◌, List, [], ◌∷◌, ◌++◌, map}
use Rattle.lists.specs.Lists.{concat}
use Rattle.utf8.specs.Encode.{encode_all}
use Rattle.repertoire.specs.Repertoire.{Repertoire}
use Rattle.slip_model.specs.declared.Filled.{Filled}
use Rattle.slip_model.specs.declared.Filled.TheVariants.{Fresh, Blank, UpTo}
use Rattle.slip_model.specs.Slip.{Row, columns, Line, with, items_of, lines_from, spaces, printed}
use Rattle.slip_calls.specs.Places.{filled_to, space_before}

-- the rest of a line that is filled so far: its pieces, a space between them, and the padding
abbrev pub row_from : Repertoire → Filled → Row → List ℕ
row_from R f [] = spaces (60 - filled_to f)
row_from R f (p ∷ r) = spaces (space_before f) ++ (encode_all (concat p) ++ row_from R (UpTo (with f (columns R p))) r)

-- the rest of a line with words where no line is left
abbrev pub row_end : Filled → List ℕ
row_end Fresh = []
row_end Blank = []
row_end (UpTo c) = spaces (60 - c) ++ (0x0A ∷ [])

-- lines of which the first is filled so far
abbrev pub lines_behind : Repertoire → Filled → List Line → List ℕ
lines_behind R f [] = row_end f
lines_behind R f (l ∷ ls) = row_from R f l.row ++ (0x0A ∷ concat (map (printed R) ls))

-- from some clusters on
abbrev pub remaining : Repertoire → Filled → List (List ℕ) → List ℕ
remaining R f ks = lines_behind R f (lines_from R f (items_of R ks))
