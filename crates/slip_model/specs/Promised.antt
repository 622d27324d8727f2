-- What order 2 asks to be proved of a slip: "every line's width, that a line ends only at a \n, at the text's end or before a word that does not fit,
-- and that the words' bytes come out complete and in order".
use Rattle.std.specs.Prelude.{ℕ, ◌+◌, ◌≤◌, ◌<◌, ◌≡◌, false, cond, ◌||◌, List, [], ◌∷◌, ◌++◌, map, eqb}
use Rattle.lists.specs.Lists.{any, concat}
use Rattle.lists.proofs.Every.{Every}
use Rattle.utf8.specs.Encode.{encode_all}
use Rattle.repertoire.specs.Repertoire.{Repertoire}
use Rattle.layout.specs.Width.{width}
use Rattle.slip_model.specs.Slip.{Word, Row, Item, word, gap, newline, columns, pieces, Ends, at_newline, at_text_end, before, Line}
use Rattle.slip_model.specs.Slip.{text_items, lines_of, row_columns, padded, slip}

-- ---- every line's width: its bytes before the closing \n have 60 columns, and none of them is \n
pub record Wide (R : Repertoire) (l : Line) : Type 0 where
  pub columns60 : width R 0 (padded R l.row) ≡ 60
  pub no_newline : any (eqb 0x0A) (padded R l.row) ≡ false

-- ---- where a line ends: before w it has a word, and w would pass 60 columns, one space between
abbrev pub Rightly : Repertoire → Row → Ends → Type 0
Rightly R r at_newline = Unit {0}
Rightly R r at_text_end = Unit {0}
Rightly R [] (before w) = ⊥
Rightly R (p ∷ r) (before w) = 60 < row_columns R (p ∷ r) + 1 + columns R w

-- the text's end ends the last line alone
abbrev pub EndsLast : List Line → Type 0
EndsLast [] = Unit {0}
EndsLast (l ∷ []) = Unit {0}
EndsLast (l ∷ (m ∷ ls)) = (l.ends ≡ at_text_end → ⊥) × EndsLast (m ∷ ls)

-- lines read back: their pieces, and a newline where one has ended a line
abbrev pub closed : Ends → List Item
closed at_newline = newline ∷ []
closed at_text_end = []
closed (before w) = []

abbrev pub read_back : List Line → List Item
read_back [] = []
read_back (l ∷ ls) = map word l.row ++ (closed l.ends ++ read_back ls)

-- a text's items with every word cut into its pieces, and no white space
abbrev pub cut_items : Repertoire → List Item → List Item
cut_items R [] = []
cut_items R (word w ∷ is) = map word (pieces R 0 w) ++ cut_items R is
cut_items R (gap ∷ is) = cut_items R is
cut_items R (newline ∷ is) = newline ∷ cut_items R is

-- w comes next: it is what is left, from one of its pieces on, of a word of the text, and the lines ls begin with it and go on with what stands behind it
pub record Next (R : Repertoire) (is : List Item) (w : Word) (ls : List Line) : Type 0 where
  pub front : List Item
  pub whole : Word
  pub behind : List Item
  pub text : is ≡ front ++ (word whole ∷ behind)
  pub earlier : List Word
  pub next : Word
  pub later : List Word
  pub cut : pieces R 0 whole ≡ earlier ++ (next ∷ later)
  pub rest : w ≡ concat (next ∷ later)
  pub read : read_back ls ≡ map word (next ∷ later) ++ cut_items R behind

-- the word that a line ends before comes next
abbrev pub ComesNext : Repertoire → List Item → Ends → List Line → Type 0
ComesNext R is at_newline ls = Unit {0}
ComesNext R is at_text_end ls = Unit {0}
ComesNext R is (before w) ls = Next R is w ls

abbrev pub AllNext : Repertoire → List Item → List Line → Type 0
AllNext R is [] = Unit {0}
AllNext R is (l ∷ ls) = ComesNext R is l.ends ls × AllNext R is ls

-- ---- words come out whole: each piece but a word's last has 60 columns, and the last no more
abbrev pub CutAt60 : Repertoire → List Word → Type 0
CutAt60 R [] = Unit {0}
CutAt60 R (p ∷ []) = columns R p ≤ 60
CutAt60 R (p ∷ (q ∷ ps)) = (columns R p ≡ 60) × CutAt60 R (q ∷ ps)

-- the words of a text
abbrev pub words_in : List Item → List Word
words_in [] = []
words_in (word w ∷ is) = w ∷ words_in is
words_in (gap ∷ is) = words_in is
words_in (newline ∷ is) = words_in is

-- the bytes of a page that are neither spaces nor \n
abbrev pub inked : List ℕ → List ℕ
inked [] = []
inked (b ∷ bs) = cond (eqb b 0x20 || eqb b 0x0A) (inked bs) (b ∷ inked bs)

-- ---- all of it, of one text
pub record Promised (R : Repertoire) (s : List ℕ) : Type 0 where
  pub wide : Every (Wide R) (lines_of R s)
  pub rightly : Every (λ (l : Line). Rightly R l.row l.ends) (lines_of R s)
  pub next : AllNext R (text_items R s) (lines_of R s)
  pub ends_last : EndsLast (lines_of R s)
  pub newlines : read_back (lines_of R s) ≡ cut_items R (text_items R s)
  pub cut : Every (λ (w : Word). CutAt60 R (pieces R 0 w)) (words_in (text_items R s))
  pub bytes : inked (slip R s) ≡ encode_all (concat (concat (words_in (text_items R s))))
