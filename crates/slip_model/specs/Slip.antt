-- Document 02, order 2, "A slip for the box lid": a text as lines of exactly 60 columns, each padded with spaces and closed by \n.
use Rattle.std.specs.Prelude.{ℕ, ◌+◌, ◌-◌, cond, List, [], ◌∷◌, ◌++◌, map, eqb, leb, replicate}
use Rattle.lists.specs.Lists.{any, concat}
use Rattle.utf8.specs.Encode.{encode_all}
use Rattle.repertoire.specs.Repertoire.{Repertoire}
use Rattle.cluster.specs.Clusters.{clusters_of}
use Rattle.layout.specs.Width.{column_after, columns_after}
pub use Rattle.slip_model.specs.declared.Filled.{Filled}
pub use Rattle.slip_model.specs.declared.Filled.TheVariants.{Fresh, Blank, UpTo}

-- a word, and a piece of one, is clusters; a row is the pieces that stand on a line
abbrev pub Word : Type 0
Word = List (List ℕ)

abbrev pub Row : Type 0
Row = List Word

-- ---- what a text is to the slip, in its order: words, white space between them, ends of lines
pub data Item : Type 0 where
  word : Word → Item
  gap newline : Item

-- a cluster without white space in front of what follows it: "a longest run of clusters without white space"
abbrev pub grown : List ℕ → List Item → List Item
grown k [] = word (k ∷ []) ∷ []
grown k (word w ∷ is) = word (k ∷ w) ∷ is
grown k (gap ∷ is) = word (k ∷ []) ∷ gap ∷ is
grown k (newline ∷ is) = word (k ∷ []) ∷ newline ∷ is

-- "a \n, also in \r\n, ends the line"; every other cluster with white space in it parts words
unfoldable pub items_of : Repertoire → List (List ℕ) → List Item
items_of R [] = []
items_of R (k ∷ ks) =
    cond (any (eqb 0x0A) k) (newline ∷ items_of R ks) (cond (any R.white k) (gap ∷ items_of R ks) (grown k (items_of R ks)))

-- ---- "a word over 60 columns starts a line and is cut between clusters at 60, its rest being taken as a word"
-- Every word is cut into pieces of 60 columns and a rest. A piece of 60 columns fits no line that has a word, and nothing fits behind it: so it
-- starts a line and ends it, and the rest is laid as a word is.
abbrev pub columns : Repertoire → Word → ℕ
columns R w = columns_after R 0 w

-- a cluster in front of the first piece
abbrev pub onto : List ℕ → List Word → List Word
onto k [] = (k ∷ []) ∷ []
onto k (p ∷ ps) = (k ∷ p) ∷ ps

-- a new piece begins where the one before would pass 60 columns. The first has some columns already
unfoldable pub pieces : Repertoire → ℕ → Word → List Word
pieces R col [] = [] ∷ []
pieces R col (k ∷ ks) =
    let n = columns R (k ∷ []) in
    cond (leb (col + n) 60) (onto k (pieces R (col + n) ks)) ([] ∷ onto k (pieces R n ks))

-- ---- lines: "a line takes as many words as fit, one space between"
-- what ends a line: a \n, the text's end, or a word, or what is left of one, that does not fit
pub data Ends : Type 0 where
  at_newline at_text_end : Ends
  before : Word → Ends

pub record Line : Type 0 where
  pub row : Row
  pub ends : Ends

abbrev pub empty_line : Ends → Line
empty_line e = record { row = []; ends = e }

-- a piece at the front of the first line
abbrev pub put : Word → List Line → List Line
put p [] = record { row = p ∷ []; ends = at_text_end } ∷ []
put p (l ∷ ls) = record { row = p ∷ l.row; ends = l.ends } ∷ ls

-- how far a line is filled, `Filled` of src/lib.rt: nothing of the text since the last \n; white space alone; words of so many columns, the spaces
-- between them counted. The columns with a word of n columns more:
abbrev pub with : Filled → ℕ → ℕ
with Fresh n = n
with Blank n = n
with (UpTo c) n = c + 1 + n

abbrev pub spaced : Filled → Filled
spaced Fresh = Blank
spaced Blank = Blank
spaced (UpTo c) = UpTo c

-- at the text's end: "after a \n that ends the text, or for an empty text, no line follows"
abbrev pub closing : Filled → List Line
closing Fresh = []
closing Blank = empty_line at_text_end ∷ []
closing (UpTo c) = empty_line at_text_end ∷ []

-- pieces of a word in the line begun, or, where the next does not fit, in lines of their own; then what go says of how far the last line is filled
unfoldable pub laid : Repertoire → Filled → List Word → (Filled → List Line) → List Line
laid R f [] go = go f
laid R f (p ∷ ps) go =
    let n = columns R p in
    cond (leb (with f n) 60) (put p (laid R (UpTo (with f n)) ps go)) (empty_line (before (concat (p ∷ ps))) ∷ put p (laid R (UpTo n) ps go))

unfoldable pub lines_from : Repertoire → Filled → List Item → List Line
lines_from R f [] = closing f
lines_from R f (word w ∷ is) = laid R f (pieces R 0 w) (λ g. lines_from R g is)
lines_from R f (gap ∷ is) = lines_from R (spaced f) is
lines_from R f (newline ∷ is) = empty_line at_newline ∷ lines_from R Fresh is

abbrev pub text_items : Repertoire → List ℕ → List Item
text_items R s = items_of R (clusters_of R s)

unfoldable pub lines_of : Repertoire → List ℕ → List Line
lines_of R s = lines_from R Fresh (text_items R s)

-- ---- the page: "each padded with spaces and closed by \n"
abbrev pub spaces : ℕ → List ℕ
spaces n = replicate n 0x20

-- a row's characters, one space between words
abbrev pub spelled : Row → List ℕ
spelled [] = []
spelled (p ∷ []) = concat p
spelled (p ∷ (q ∷ l)) = concat p ++ (0x20 ∷ spelled (q ∷ l))

abbrev pub row_columns : Repertoire → Row → ℕ
row_columns R l = column_after R 0 (spelled l)

unfoldable pub padded : Repertoire → Row → List ℕ
padded R l = encode_all (spelled l) ++ spaces (60 - row_columns R l)

abbrev pub printed : Repertoire → Line → List ℕ
printed R l = padded R l.row ++ (0x0A ∷ [])

unfoldable pub slip : Repertoire → List ℕ → List ℕ
slip R s = concat (map (printed R) (lines_of R s))
