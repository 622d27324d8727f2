-- The words' clusters come out complete and in order, every \n ends a line in its place, and nothing else does so. Assumes nothing.
use Prim.Native.Nat.{ℕ, ◌+◌}
use mathlib.Core.Path.{◌≡◌, refl, ap, ◌∙◌}
use mathlib.Core.Bool.{Bool, true, false, cond}
use mathlib.Core.List.{List, [], ◌∷◌, ◌++◌, map}
use lib.Dec.{leb}
use Rattle.lists.specs.Lists.{concat}
use Rattle.lists.proofs.Concat.{concat-append}
use Rattle.repertoire.specs.Repertoire.{Repertoire}
use Rattle.slip_model.specs.Slip.{Word, Row, Item, word, gap, newline, columns, onto, pieces}
use Rattle.slip_model.specs.Slip.{before, Line, empty_line, put, Filled, Fresh, Blank, UpTo, with, spaced, closing, laid, lines_from}
use Rattle.slip_model.specs.Promised.{read_back, cut_items, words_in}

-- ---- a word is its pieces
-- a cluster put on the piece begun comes first
concat-onto : (k : List ℕ) (ps : List Word) → concat (onto k ps) ≡ k ∷ concat ps
concat-onto k [] = refl
concat-onto k (p ∷ ps) = refl

-- a cluster put on the piece begun, or on one of its own
cut-whole : (b : Bool) (k : List ℕ) (ks : Word) (ps qs : List Word) → concat ps ≡ ks → concat qs ≡ ks → concat (cond b (onto k ps) ([] ∷ onto k qs)) ≡ k ∷ ks
cut-whole true k ks ps qs e f = concat-onto k ps ∙ ap (λ (l : Word). k ∷ l) e
cut-whole false k ks ps qs e f = concat-onto k qs ∙ ap (λ (l : Word). k ∷ l) f

-- a word's pieces, one behind the other, are the word
pub pieces_whole : (R : Repertoire) (col : ℕ) (w : Word) → concat (pieces R col w) ≡ w
unfolding pieces
pieces_whole R col [] = refl
pieces_whole R col (k ∷ ks) =
    let n = columns R (k ∷ []) in
    cut-whole (leb (col + n) 60) k ks (pieces R (col + n) ks) (pieces R n ks) (pieces_whole R (col + n) ks) (pieces_whole R n ks)

-- ---- lines read back are the items
-- a piece put at the front of the first line is read first
pub read-put : (p : Word) (ls : List Line) → read_back (put p ls) ≡ word p ∷ read_back ls
read-put p [] = refl
read-put p (l ∷ ls) = refl

-- a piece put on the line begun, or on one of its own, is read first
put-read : (b : Bool) (p w : Word) (is : List Item) (ls ms : List Line) → read_back ls ≡ is → read_back ms ≡ is
    → read_back (cond b (put p ls) (empty_line (before w) ∷ put p ms)) ≡ word p ∷ is
put-read true p w is ls ms e f = read-put p ls ∙ ap (λ (l : List Item). word p ∷ l) e
put-read false p w is ls ms e f = read-put p ms ∙ ap (λ (l : List Item). word p ∷ l) f

-- pieces laid are read in their order, before what comes behind them
pub laid-read : (R : Repertoire) (is : List Item) (go : Filled → List Line) → ((g : Filled) → read_back (go g) ≡ is) → (f : Filled) (ps : List Word)
    → read_back (laid R f ps go) ≡ map word ps ++ is
unfolding laid
laid-read R is go h f [] = h f
laid-read R is go h f (p ∷ ps) =
    let n = columns R p in
    put-read (leb (with f n) 60) p (concat (p ∷ ps)) (map word ps ++ is) (laid R (UpTo (with f n)) ps go) (laid R (UpTo n) ps go)
    (laid-read R is go h (UpTo (with f n)) ps) (laid-read R is go h (UpTo n) ps)

-- at the text's end nothing is read
closing-read : (f : Filled) → read_back (closing f) ≡ []
closing-read Fresh = refl
closing-read Blank = refl
closing-read (UpTo c) = refl

-- every \n ends a line, in its place, and nothing else is read there
pub read-back : (R : Repertoire) (f : Filled) (is : List Item) → read_back (lines_from R f is) ≡ cut_items R is
unfolding lines_from
read-back R f [] = closing-read f
read-back R f (word w ∷ is) = laid-read R (cut_items R is) (λ g. lines_from R g is) (λ g. read-back R g is) f (pieces R 0 w)
read-back R f (gap ∷ is) = read-back R (spaced f) is
read-back R f (newline ∷ is) = ap (λ (l : List Item). newline ∷ l) (read-back R Fresh is)

-- ---- the rows have the words' pieces
abbrev pub rows_of : List Line → List Row
rows_of ls = map (λ (l : Line). l.row) ls

-- a piece put at the front of the first line is the first of all
rows_put : (p : Word) (ls : List Line) → concat (rows_of (put p ls)) ≡ p ∷ concat (rows_of ls)
rows_put p [] = refl
rows_put p (l ∷ ls) = refl

-- a piece put on the line begun, or on one of its own, is the first of all
put_whole : (b : Bool) (p w : Word) (ps : List Word) (ls ms : List Line) → concat (rows_of ls) ≡ ps → concat (rows_of ms) ≡ ps
    → concat (rows_of (cond b (put p ls) (empty_line (before w) ∷ put p ms))) ≡ p ∷ ps
put_whole true p w ps ls ms e f = rows_put p ls ∙ ap (λ (l : List Word). p ∷ l) e
put_whole false p w ps ls ms e f = rows_put p ms ∙ ap (λ (l : List Word). p ∷ l) f

-- pieces laid come out in their order, whatever line they begin in
laid-whole : (R : Repertoire) (qs : List Word) (go : Filled → List Line) → ((g : Filled) → concat (rows_of (go g)) ≡ qs) → (f : Filled) (ps : List Word)
    → concat (rows_of (laid R f ps go)) ≡ ps ++ qs
unfolding laid
laid-whole R qs go h f [] = h f
laid-whole R qs go h f (p ∷ ps) =
    let n = columns R p in
    put_whole (leb (with f n) 60) p (concat (p ∷ ps)) (ps ++ qs) (laid R (UpTo (with f n)) ps go) (laid R (UpTo n) ps go)
    (laid-whole R qs go h (UpTo (with f n)) ps) (laid-whole R qs go h (UpTo n) ps)

-- the line that the text's end closes has no more pieces
closing-whole : (f : Filled) → concat (rows_of (closing f)) ≡ []
closing-whole Fresh = refl
closing-whole Blank = refl
closing-whole (UpTo c) = refl

-- the pieces of all rows, one behind the other, are those of the words
pub rows_whole : (R : Repertoire) (f : Filled) (is : List Item)
    → concat (map (λ (l : Line). l.row) (lines_from R f is)) ≡ concat (map (pieces R 0) (words_in is))
unfolding lines_from
rows_whole R f [] = closing-whole f
rows_whole R f (word w ∷ is) = laid-whole R (concat (map (pieces R 0) (words_in is))) (λ g. lines_from R g is) (λ g. rows_whole R g is) f (pieces R 0 w)
rows_whole R f (gap ∷ is) = rows_whole R (spaced f) is
rows_whole R f (newline ∷ is) = rows_whole R Fresh is

-- and so the words' clusters are complete
pub words_whole : (R : Repertoire) (is : List Item) → concat (concat (map (pieces R 0) (words_in is))) ≡ concat (words_in is)
words_whole R [] = refl
words_whole R (word w ∷ is) =
    let rest = concat (map (pieces R 0) (words_in is)) in
    concat-append (pieces R 0 w) rest ∙ (ap (λ (l : Word). l ++ concat rest) (pieces_whole R 0 w) ∙ ap (λ (l : Word). w ++ l) (words_whole R is))
words_whole R (gap ∷ is) = words_whole R is
words_whole R (newline ∷ is) = words_whole R is
