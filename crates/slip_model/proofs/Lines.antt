-- What holds of every line of a slip: what holds where a line ends, and is kept where a piece or white space goes in front of the rest of a line.
-- Over any repertoire, for words that are cut at 60.
use Prim.Native.Nat.{◌≤◌, ◌<◌}
use mathlib.Core.Path.{◌≡◌, refl}
use mathlib.Core.Bool.{Bool, true, false, cond}
use mathlib.Core.List.{List, [], ◌∷◌}
use native.Mathlib.Omega.{arith}
use lib.Dec.{leb}
use borrow.Author.Tests.{leb-true, leb-false}
use Rattle.lists.specs.Lists.{concat}
use Rattle.lists.proofs.Every.{Every}
use Rattle.repertoire.specs.Repertoire.{Repertoire}
use Rattle.slip_model.specs.Slip.{Word, Item, word, gap, newline, columns, pieces, at_newline, at_text_end, before, Line, empty_line, put}
use Rattle.slip_model.specs.Slip.{Filled, Fresh, Blank, UpTo, with, spaced, closing, laid, lines_from}
use Rattle.slip_model.specs.Promised.{CutAt60, words_in}

-- no piece of a word that is cut at 60 passes 60 columns
pub cut_most : (R : Repertoire) (ps : List Word) → CutAt60 R ps → Every (λ (p : Word). columns R p ≤ 60) ps
cut_most R [] c = tt
cut_most R (p ∷ []) c = (c, tt)
cut_most R (p ∷ (q ∷ ps)) c = (omega (arith, c.0), cut_most R (q ∷ ps) c.1)

-- P f l: what is to hold of a line l that goes on from where f says
module _ (R : Repertoire) (P : Filled → Line → Type 0) where
  pub record Kept : Type 0 where
    -- of a line that the text's end or a \n ends there
    pub closes : (f : Filled) → P f (empty_line at_text_end)
    pub breaks : (f : Filled) → P f (empty_line at_newline)
    -- of a line that a piece, which does not fit, ends there
    pub stops : (f : Filled) (p : Word) (ps : List Word) → columns R p ≤ 60 → 60 < with f (columns R p) → P f (empty_line (before (concat (p ∷ ps))))
    -- of a line that a piece, which fits, goes on
    pub goes_on : (f : Filled) (p : Word) (l : Line) → with f (columns R p) ≤ 60 → P (UpTo (with f (columns R p))) l
        → P f (record { row = p ∷ l.row; ends = l.ends })
    -- and of one that white space does
    pub parts : (f : Filled) (l : Line) → P (spaced f) l → P f l

  -- the first line goes on from there, each other begins
  abbrev pub Along : Filled → List Line → Type 0
  Along f [] = Unit {0}
  Along f (l ∷ ls) = P f l × Every (P Fresh) ls

  -- where the first begins too, it holds of every line
  pub along_every : (ls : List Line) → Along Fresh ls → Every (P Fresh) ls
  along_every [] a = tt
  along_every (l ∷ ls) a = a

  module _ (k : Kept) where
    -- a piece that fits is put at the front of the first line
    along_put : (f : Filled) (p : Word) (ls : List Line) → with f (columns R p) ≤ 60 → Along (UpTo (with f (columns R p))) ls → Along f (put p ls)
    along_put f p [] h a = (k.goes_on f p (empty_line at_text_end) h (k.closes (UpTo (with f (columns R p)))), tt)
    along_put f p (l ∷ ls) h a = (k.goes_on f p l h a.0, a.1)

    -- a piece goes on the line, or ends it and begins the next
    along_piece : (f : Filled) (p : Word) (ps : List Word) (b : Bool) (ls ms : List Line) → leb (with f (columns R p)) 60 ≡ b → columns R p ≤ 60
        → Along (UpTo (with f (columns R p))) ls → Along (UpTo (columns R p)) ms
        → Along f (cond b (put p ls) (empty_line (before (concat (p ∷ ps))) ∷ put p ms))
    along_piece f p ps true ls ms e h a c = along_put f p ls (leb-true (with f (columns R p)) 60 e) a
    along_piece f p ps false ls ms e h a c =
        (k.stops f p ps h (leb-false (with f (columns R p)) 60 e), along_every (put p ms) (along_put Fresh p ms h c))

    -- pieces laid, and what comes behind them
    along_laid : (go : Filled → List Line) → ((g : Filled) → Along g (go g)) → (f : Filled) (ps : List Word) → Every (λ (p : Word). columns R p ≤ 60) ps
        → Along f (laid R f ps go)
    unfolding laid
    along_laid go h f [] m = h f
    along_laid go h f (p ∷ ps) m =
        let n = columns R p in
        along_piece f p ps (leb (with f n) 60) (laid R (UpTo (with f n)) ps go) (laid R (UpTo n) ps go) refl m.0
        (along_laid go h (UpTo (with f n)) ps m.1) (along_laid go h (UpTo n) ps m.1)

    -- the text's end
    along_closing : (f : Filled) → Along f (closing f)
    along_closing Fresh = tt
    along_closing Blank = (k.closes Blank, tt)
    along_closing (UpTo c) = (k.closes (UpTo c), tt)

    -- white space
    along_spaced : (f : Filled) (ls : List Line) → Along (spaced f) ls → Along f ls
    along_spaced f [] a = tt
    along_spaced f (l ∷ ls) a = (k.parts f l a.0, a.1)

    -- the lines of a text
    along_lines : (f : Filled) (is : List Item) → Every (λ (w : Word). CutAt60 R (pieces R 0 w)) (words_in is) → Along f (lines_from R f is)
    unfolding lines_from
    along_lines f [] c = along_closing f
    along_lines f (word w ∷ is) c =
        along_laid (λ g. lines_from R g is) (λ g. along_lines g is c.1) f (pieces R 0 w) (cut_most R (pieces R 0 w) c.0)
    along_lines f (gap ∷ is) c = along_spaced f (lines_from R (spaced f) is) (along_lines (spaced f) is c)
    along_lines f (newline ∷ is) c = (k.breaks f, along_every (lines_from R Fresh is) (along_lines Fresh is c))

    -- what is kept holds of every line, as it does of one that begins
    pub every_line : (is : List Item) → Every (λ (w : Word). CutAt60 R (pieces R 0 w)) (words_in is) → Every (P Fresh) (lines_from R Fresh is)
    every_line is c = along_every (lines_from R Fresh is) (along_lines Fresh is c)
