-- Columns: clusters take the columns of their characters, so a width is read character by character. Assumes nothing.
use mathlib.Core.Path.{◌≡◌, refl, sym, ap, ◌∙◌}
use mathlib.Core.Bool.{false}
use mathlib.Core.List.{List, [], ◌∷◌, ◌++◌}
use Prim.Native.Nat.{ℕ, ◌+◌, ◌-◌, ◌*◌, ◌≤◌, ◌<◌}
use native.Mathlib.Nat.{mul-le-mul_left, mul-add}
use native.Mathlib.Omega.{arith}
use lib.Dec.{eqb}
use lib.ListN.{length, drop}
use lib.Seq.{drop-drop}
use Rattle.lists.specs.Lists.{any, concat}
use Rattle.lists.proofs.Bools.{or_none}
use Rattle.utf8.specs.Utf8.{char, bad, first}
use Rattle.utf8.specs.Chars.{chars}
use Rattle.utf8.proofs.Chars.{chars_step, chars-bad}
use Rattle.repertoire.specs.Repertoire.{Repertoire, Lawful}
use Rattle.repertoire.proofs.Text.{within-at}
use Rattle.repertoire.proofs.Widths.{width-most}
use Rattle.cluster.specs.Clusters.{clusters_of}
use Rattle.cluster.proofs.Clusters.{clusters-concat}
use Rattle.layout.specs.Width.{next_stop, NextMultiple, advance, most_columns, column_after, columns_after, width, plain_width, has_tab}

-- ---- a stop is the next multiple of 8
pub stop_next : (col : ℕ) → NextMultiple col (next_stop col)
stop_next col = record { multiple = omega arith; above = omega arith; next = λ m e h. omega arith }

-- a character reaches no further than most columns
pub record Reach (most : ℕ) (R : Repertoire) (col c : ℕ) : Type 0 where
  pub low : col ≤ advance R col c
  pub high : advance R col c ≤ col + most

mul_le : (m a b : ℕ) → a ≤ b → m * a ≤ m * b
mul_le m a b h = mul-le-mul_left m h

-- a character is a byte at least
one_more : (m a n : ℕ) → 0 < n → m * a + m ≤ m * (a + n)
one_more m a n h = omega (arith, mul_le m (a + 1) (a + n) (omega arith), mul-add m a 1)

module _ (R : Repertoire) where
  pub column_append : (col : ℕ) (a b : List ℕ) → column_after R col (a ++ b) ≡ column_after R (column_after R col a) b
  unfolding column_after
  column_append col [] b = refl
  column_append col (c ∷ a) b = column_append (advance R col c) a b

  pub columns-concat : (col : ℕ) (ks : List (List ℕ)) → columns_after R col ks ≡ column_after R col (concat ks)
  unfolding column_after columns_after
  columns-concat col [] = refl
  columns-concat col (k ∷ ks) = columns-concat (column_after R col k) ks ∙ sym (column_append col k (concat ks))

  pub width-columns : (col : ℕ) (s : List ℕ) → width R col s ≡ column_after R col (chars s) - col
  unfolding width
  width-columns col s = ap (λ (x : ℕ). x - col) (columns-concat col (clusters_of R s) ∙ ap (column_after R col) (clusters-concat R (chars s)))

  -- ---- where no U+0009 stands, a width is document 01's, wherever it starts
  pub plain-append : (a b : List ℕ) → plain_width R (a ++ b) ≡ plain_width R a + plain_width R b
  unfolding plain_width
  plain-append [] b = omega arith
  plain-append (c ∷ a) b = omega (arith, plain-append a b)

  pub column_plain : (col : ℕ) (cs : List ℕ) → has_tab cs ≡ false → column_after R col cs ≡ col + plain_width R cs
  unfolding column_after plain_width advance
  column_plain col [] e = omega arith
  column_plain col (c ∷ cs) e =
      let p = or_none (eqb 0x09 c) (any (eqb 0x09) cs) e in
      omega (arith, column_plain (col + R.width c) cs p.1)

  pub width-plain : (col : ℕ) (s : List ℕ) → has_tab (chars s) ≡ false → width R col s ≡ plain_width R (chars s)
  width-plain col s e = omega (arith, width-columns col s, column_plain col (chars s) e)

  -- ---- a scan that stands at a place and at a column, where no character takes more than so many columns
  module _ (most : ℕ) (reach : (col c : ℕ) → Reach most R col c) (s : List ℕ) (col : ℕ) where
    pub record Measured (at column : ℕ) : Type 0 where
      pub within : at ≤ length s
      pub low : col ≤ column
      pub high : column ≤ col + most * at
      pub rest : column_after R col (chars s) ≡ column_after R column (chars (drop at s))

    pub measure_start : Measured 0 col
    measure_start = record { within = omega arith; low = omega arith; high = omega arith; rest = refl }

    module _ (at column : ℕ) (m : Measured at column) where
      -- over a character
      pub measure_on : (c n next : ℕ) → first (drop at s) ≡ char c n → next ≡ advance R column c → Measured (at + n) next
      unfolding column_after
      measure_on c n next e q =
          let x = within-at s at c n m.within e in
          let r = reach column c in
          let p = one_more most at n x.0 in
          record {
            within = x.1;
            low = omega (arith, r.low, m.low);
            high = omega (arith, r.high, m.high);
            rest =
                m.rest ∙ ap (column_after R column) (chars_step (drop at s) c n e) ∙
                ap (λ (k : ℕ). column_after R k (chars (drop n (drop at s)))) (sym q) ∙
                ap (λ (l : List ℕ). column_after R next (chars l)) (drop-drop n at s);
          }

      -- no character is left
      pub measure_end : first (drop at s) ≡ bad → (column - col ≡ width R col s) × (column - col ≤ most * length s)
      unfolding column_after
      measure_end e =
          let x : column_after R col (chars s) ≡ column = m.rest ∙ ap (column_after R column) (chars-bad (drop at s) e) in
          (sym (width-columns col s ∙ ap (λ (k : ℕ). k - col) x), omega (arith, m.high, mul_le most at (length s) m.within))

-- in a lawful repertoire
pub lawful_reach : (R : Repertoire) → Lawful R → (col c : ℕ) → Reach most_columns R col c
unfolding advance
lawful_reach R law col c = record { low = omega arith; high = omega (arith, width-most R law c) }
