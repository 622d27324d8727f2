-- The columns of rows: those of their pieces, and one for each space between them. Over any lawful repertoire.
use Prim.Native.Nat.{ℕ, ◌+◌}
use mathlib.Core.Path.{◌≡◌, refl, sym, ap, ◌∙◌}
use mathlib.Core.Bool.{Bool, cond}
use mathlib.Core.List.{List, [], ◌∷◌, ◌++◌}
use native.Mathlib.Omega.{arith}
use Rattle.lists.specs.Lists.{concat}
use Rattle.repertoire.specs.Repertoire.{Repertoire, Lawful}
use Rattle.layout.specs.Width.{advance, column_after, columns_after}
use Rattle.layout.proofs.Columns.{column_append, columns-concat}
use Rattle.slip_model.specs.Slip.{Word, Row, columns, spelled, row_columns}

module _ (R : Repertoire) where
  -- characters take as many columns wherever they start
  pub column_add : (col : ℕ) (cs : List ℕ) → column_after R col cs ≡ col + column_after R 0 cs
  unfolding column_after advance
  column_add col [] = omega arith
  column_add col (c ∷ cs) = omega (arith, column_add (col + R.width c) cs, column_add (0 + R.width c) cs)

  pub columns-append : (a b : List ℕ) → column_after R 0 (a ++ b) ≡ column_after R 0 a + column_after R 0 b
  columns-append a b = column_append R 0 a b ∙ column_add (column_after R 0 a) b

  -- a piece's columns are those of its characters
  pub word-columns : (p : Word) → columns R p ≡ column_after R 0 (concat p)
  word-columns p = columns-concat R 0 p

  -- a piece without clusters has none
  pub none_columns : columns R [] ≡ 0
  unfolding columns_after
  none_columns = refl

  -- a cluster more in front of a piece
  pub piece_more : (k : List ℕ) (p : Word) → columns R (k ∷ p) ≡ columns R (k ∷ []) + columns R p
  unfolding columns_after
  piece_more k p = omega (arith, columns-concat R (column_after R 0 k) p, column_add (column_after R 0 k) (concat p), word-columns p)

  module _ (law : Lawful R) where
    pub space_column : column_after R 0 (0x20 ∷ []) ≡ 1
    unfolding column_after advance
    space_column = omega (arith, law.widths 0x20 ∙ ap (λ (b : Bool). cond b 0 1) law.space_unmarked)

    pub row_one : (p : Word) → row_columns R (p ∷ []) ≡ columns R p
    row_one p = sym (word-columns p)

    pub row_more : (p q : Word) (l : Row) → row_columns R (p ∷ (q ∷ l)) ≡ columns R p + 1 + row_columns R (q ∷ l)
    row_more p q l =
        let behind = spelled (q ∷ l) in
        omega (arith, columns-append (concat p) (0x20 ∷ behind), columns-append (0x20 ∷ []) behind, space_column, word-columns p)
