-- Where the lines of a slip end: at a \n, at the text's end, or before a word that does not fit. Over any lawful repertoire, for words that are cut at 60.
use Prim.Native.Nat.{ℕ, ◌+◌, ◌≤◌, ◌<◌}
use mathlib.Core.Path.{◌≡◌, refl, ap, subst, ◌∙◌}
use mathlib.Core.Bool.{Bool, true, false, cond}
use mathlib.Core.List.{List, [], ◌∷◌, ◌++◌}
use native.Mathlib.Omega.{arith}
use lib.Dec.{leb}
use Rattle.lists.specs.Lists.{concat}
use Rattle.lists.proofs.Concat.{concat-append}
use Rattle.lists.proofs.Every.{Every, every_weaken}
use Rattle.repertoire.specs.Repertoire.{Repertoire, Lawful}
use Rattle.layout.specs.Width.{column_after}
use Rattle.slip_model.specs.Slip.{Word, Row, Item, word, gap, newline, columns, pieces, Ends, at_newline, at_text_end, before, Line}
use Rattle.slip_model.specs.Slip.{empty_line, put}
use Rattle.slip_model.specs.Slip.{Filled, Fresh, Blank, UpTo, with, spaced, closing, laid, lines_from, row_columns}
use Rattle.slip_model.specs.Promised.{Rightly, EndsLast, CutAt60, words_in}
use Rattle.slip_model.proofs.Columns.{columns-append, word-columns, row_one}
use Rattle.slip_model.proofs.Lines.{Kept, every_line}
use Rattle.slip_model.proofs.Fits.{with_row}

module _ (R : Repertoire) where
  -- a word has its front's columns at least
  pub columns-front : (p q : Word) → columns R p ≤ columns R (p ++ q)
  columns-front p q =
      let e : column_after R 0 (concat (p ++ q)) ≡ column_after R 0 (concat p) + column_after R 0 (concat q) =
      ap (column_after R 0) (concat-append p q) ∙ columns-append R (concat p) (concat q) in
      omega (arith, e, word-columns R p, word-columns R (p ++ q))

  -- w does not fit a line that is filled so far; there must be words on it
  abbrev Refuses : Filled → Word → Type 0
  Refuses Fresh w = ⊥
  Refuses Blank w = ⊥
  Refuses (UpTo c) w = 60 < c + 1 + columns R w

  -- a row that goes on from where a line is filled to, and ends rightly
  abbrev RightlyFrom : Filled → Row → Ends → Type 0
  RightlyFrom f r at_newline = Unit {0}
  RightlyFrom f r at_text_end = Unit {0}
  RightlyFrom f [] (before w) = Refuses f w
  RightlyFrom f (p ∷ r) (before w) = 60 < with f (row_columns R (p ∷ r)) + 1 + columns R w

  -- one that begins a line
  rightly-row : (r : Row) (e : Ends) → RightlyFrom Fresh r e → Rightly R r e
  rightly-row r at_newline h = tt
  rightly-row r at_text_end h = tt
  rightly-row [] (before w) h = h
  rightly-row (p ∷ r) (before w) h = h

  -- white space makes no word fit
  refuses_spaced : (f : Filled) (w : Word) → Refuses (spaced f) w → Refuses f w
  refuses_spaced Fresh w h = h
  refuses_spaced Blank w h = h
  refuses_spaced (UpTo c) w h = h

  -- white space moves no column
  with-spaced : (f : Filled) (n : ℕ) → with (spaced f) n ≡ with f n
  with-spaced Fresh n = refl
  with-spaced Blank n = refl
  with-spaced (UpTo c) n = refl

  -- behind white space
  rightly-spaced : (f : Filled) (r : Row) (e : Ends) → RightlyFrom (spaced f) r e → RightlyFrom f r e
  rightly-spaced f r at_newline h = tt
  rightly-spaced f r at_text_end h = tt
  rightly-spaced f [] (before w) h = refuses_spaced f w h
  rightly-spaced f (p ∷ r) (before w) h = omega (arith, h, with-spaced f (row_columns R (p ∷ r)))

  -- a piece that fits no further, in front of what is left of its word
  refuses : (f : Filled) (p : Word) (ps : List Word) → columns R p ≤ 60 → 60 < with f (columns R p) → Refuses f (concat (p ∷ ps))
  refuses Fresh p ps m h = absurd (let x : ⊥ = omega arith in x)
  refuses Blank p ps m h = absurd (let x : ⊥ = omega arith in x)
  refuses (UpTo c) p ps m h = omega (arith, h, columns-front p (concat ps))

  module _ (law : Lawful R) where
    -- a piece that fits, and a row behind it
    rightly_more : (f : Filled) (p : Word) (r : Row) (e : Ends) → RightlyFrom (UpTo (with f (columns R p))) r e → RightlyFrom f (p ∷ r) e
    rightly_more f p r at_newline h = tt
    rightly_more f p r at_text_end h = tt
    rightly_more f p [] (before w) h = omega (arith, h, ap (with f) (row_one R law p))
    rightly_more f p (q ∷ r) (before w) h = omega (arith, h, with_row R law f p q r)

    -- so it is kept along a line
    rightly-kept : Kept R (λ (f : Filled) (l : Line). RightlyFrom f l.row l.ends)
    rightly-kept =
        record {
          closes = λ f. tt;
          breaks = λ f. tt;
          stops = λ f p ps m h. refuses f p ps m h;
          goes_on = λ f p l h a. rightly_more f p l.row l.ends a;
          parts = λ f l a. rightly-spaced f l.row l.ends a;
        }

    -- a line ends only at a \n, at the text's end or before a word that does not fit
    pub ends-rightly : (is : List Item) → Every (λ (w : Word). CutAt60 R (pieces R 0 w)) (words_in is)
        → Every (λ (l : Line). Rightly R l.row l.ends) (lines_from R Fresh is)
    ends-rightly is c =
        every_weaken (λ (l : Line). RightlyFrom Fresh l.row l.ends) (λ (l : Line). Rightly R l.row l.ends)
        (λ l h. rightly-row l.row l.ends h) (lines_from R Fresh is)
        (every_line R (λ (f : Filled) (l : Line). RightlyFrom f l.row l.ends) rightly-kept is c)

-- ---- the text's end ends the last line alone
-- a line that does not end there may stand before others
ends-before : (l : Line) (ls : List Line) → (l.ends ≡ at_text_end → ⊥) → EndsLast ls → EndsLast (l ∷ ls)
ends-before l [] n h = tt
ends-before l (m ∷ ls) n h = (n, h)

-- a piece at the front of a line leaves its end
ends-put : (p : Word) (ls : List Line) → EndsLast ls → EndsLast (put p ls)
ends-put p [] h = tt
ends-put p (l ∷ []) h = tt
ends-put p (l ∷ (m ∷ ls)) h = h

-- whether an end is not the text's
abbrev Other : Ends → Type 0
Other at_newline = Unit {0}
Other at_text_end = ⊥
Other (before w) = Unit {0}

-- a \n and a word are not the text's end
other_end : (e : Ends) → Other e → e ≡ at_text_end → ⊥
other_end e o q = subst Other q o

-- a piece goes on the line, or ends it and begins the next
ends_piece : (b : Bool) (p w : Word) (ls ms : List Line) → EndsLast ls → EndsLast ms → EndsLast (cond b (put p ls) (empty_line (before w) ∷ put p ms))
ends_piece true p w ls ms h k = ends-put p ls h
ends_piece false p w ls ms h k = ends-before (empty_line (before w)) (put p ms) (other_end (before w) tt) (ends-put p ms k)

-- pieces laid, and what comes behind them
ends-laid : (R : Repertoire) (go : Filled → List Line) → ((g : Filled) → EndsLast (go g)) → (f : Filled) (ps : List Word) → EndsLast (laid R f ps go)
unfolding laid
ends-laid R go h f [] = h f
ends-laid R go h f (p ∷ ps) =
    let n = columns R p in
    ends_piece (leb (with f n) 60) p (concat (p ∷ ps)) (laid R (UpTo (with f n)) ps go) (laid R (UpTo n) ps go) (ends-laid R go h (UpTo (with f n)) ps)
    (ends-laid R go h (UpTo n) ps)

-- at the text's end there is one line at most
ends-closing : (f : Filled) → EndsLast (closing f)
ends-closing Fresh = tt
ends-closing Blank = tt
ends-closing (UpTo c) = tt

-- the text's end ends no line but the last
pub ends-last : (R : Repertoire) (f : Filled) (is : List Item) → EndsLast (lines_from R f is)
unfolding lines_from
ends-last R f [] = ends-closing f
ends-last R f (word w ∷ is) = ends-laid R (λ g. lines_from R g is) (λ g. ends-last R g is) f (pieces R 0 w)
ends-last R f (gap ∷ is) = ends-last R (spaced f) is
ends-last R f (newline ∷ is) = ends-before (empty_line at_newline) (lines_from R Fresh is) (other_end at_newline tt) (ends-last R Fresh is)
