-- No line of a slip passes 60 columns. Over any lawful repertoire, for words that are cut at 60.
use Prim.Native.Nat.{ℕ, ◌+◌, ◌≤◌}
use mathlib.Core.Path.{◌≡◌, ap, ◌∙◌}
use mathlib.Core.List.{List, [], ◌∷◌}
use native.Mathlib.Omega.{arith}
use Rattle.lists.proofs.Every.{Every, every_weaken}
use Rattle.repertoire.specs.Repertoire.{Repertoire, Lawful}
use Rattle.layout.specs.Width.{column_after}
use Rattle.slip_model.specs.Slip.{Word, Row, Item, columns, pieces, Line, Filled, Fresh, Blank, UpTo, with, spaced, lines_from, row_columns}
use Rattle.slip_model.specs.Promised.{CutAt60, words_in}
use Rattle.slip_model.proofs.Columns.{row_one, row_more}
use Rattle.slip_model.proofs.Lines.{Kept, every_line}

module _ (R : Repertoire) where
  -- a row that goes on from where a line is filled to ends at 60 columns at the latest
  abbrev Within60 : Filled → Row → Type 0
  Within60 f [] = Unit {0}
  Within60 f (p ∷ r) = with f (row_columns R (p ∷ r)) ≤ 60

  -- a row without a piece has no column
  pub row_none : row_columns R [] ≡ 0
  unfolding column_after
  row_none = omega arith

  -- a row that begins a line
  within-row : (r : Row) → Within60 Fresh r → row_columns R r ≤ 60
  within-row [] h = omega (arith, row_none)
  within-row (p ∷ r) h = h

  -- white space moves no column
  within-spaced : (f : Filled) (r : Row) → Within60 (spaced f) r → Within60 f r
  within-spaced Fresh [] h = tt
  within-spaced Fresh (p ∷ r) h = h
  within-spaced Blank [] h = tt
  within-spaced Blank (p ∷ r) h = h
  within-spaced (UpTo c) r h = h

-- columns behind a piece are counted from where the line stood before it
pub with_more : (f : Filled) (n m : ℕ) → with f (n + 1 + m) ≡ with (UpTo (with f n)) m
with_more Fresh n m = omega arith
with_more Blank n m = omega arith
with_more (UpTo c) n m = omega arith

module _ (R : Repertoire) (law : Lawful R) where
  -- a row's columns behind its first piece
  pub with_row : (f : Filled) (p q : Word) (r : Row) → with f (row_columns R (p ∷ (q ∷ r))) ≡ with (UpTo (with f (columns R p))) (row_columns R (q ∷ r))
  with_row f p q r = ap (with f) (row_more R law p q r) ∙ with_more f (columns R p) (row_columns R (q ∷ r))

  -- a piece that fits, and a row behind it
  within_more : (f : Filled) (p : Word) (r : Row) → with f (columns R p) ≤ 60 → Within60 R (UpTo (with f (columns R p))) r → Within60 R f (p ∷ r)
  within_more f p [] h a = omega (arith, h, ap (with f) (row_one R law p))
  within_more f p (q ∷ r) h a = omega (arith, a, with_row f p q r)

  -- so it is kept along a line
  within-kept : Kept R (λ (f : Filled) (l : Line). Within60 R f l.row)
  within-kept =
      record {
        closes = λ f. tt;
        breaks = λ f. tt;
        stops = λ f p ps m h. tt;
        goes_on = λ f p l h a. within_more f p l.row h a;
        parts = λ f l a. within-spaced R f l.row a;
      }

  -- no line passes 60 columns
  pub lines_fit : (is : List Item) → Every (λ (w : Word). CutAt60 R (pieces R 0 w)) (words_in is)
      → Every (λ (l : Line). row_columns R l.row ≤ 60) (lines_from R Fresh is)
  lines_fit is c =
      every_weaken (λ (l : Line). Within60 R Fresh l.row) (λ (l : Line). row_columns R l.row ≤ 60) (λ l h. within-row R l.row h) (lines_from R Fresh is)
      (every_line R (λ (f : Filled) (l : Line). Within60 R f l.row) within-kept is c)
