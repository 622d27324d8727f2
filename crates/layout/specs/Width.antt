-- Columns on a terminal: layout.rs, width in Unicode mode. A width is measured from a start column, one cluster after the other.
use Rattle.std.specs.Prelude.{ℕ, ◌+◌, ◌-◌, ◌*◌, ◌/◌, ◌%◌, ◌≤◌, ◌<◌, ◌≡◌, Bool, List, [], ◌∷◌, eqb}
use Rattle.lists.specs.Lists.{any}
use Rattle.repertoire.specs.Repertoire.{Repertoire}
use Rattle.cluster.specs.Clusters.{clusters_of}

-- the column behind a character that stands at a column
unfoldable pub advance : Repertoire → ℕ → ℕ → ℕ
advance R col c = col + R.width c

-- the most columns from a character's column to the one behind it
abbrev pub most_columns : ℕ
most_columns = 1

-- behind the characters of a cluster
unfoldable pub column_after : Repertoire → ℕ → List ℕ → ℕ
column_after R col [] = col
column_after R col (c ∷ cs) = column_after R (advance R col c) cs

-- behind some clusters
unfoldable pub columns_after : Repertoire → ℕ → List (List ℕ) → ℕ
columns_after R col [] = col
columns_after R col (k ∷ ks) = columns_after R (column_after R col k) ks

-- the width of a part that starts at a column
unfoldable pub width : Repertoire → ℕ → List ℕ → ℕ
width R col s = columns_after R col (clusters_of R s) - col

-- the widths of some characters by document 01's table, wherever they start
unfoldable pub plain_width : Repertoire → List ℕ → ℕ
plain_width R [] = 0
plain_width R (c ∷ cs) = R.width c + plain_width R cs

-- is U+0009 among them?
abbrev pub has_tab : List ℕ → Bool
has_tab cs = any (eqb 0x09) cs

-- ---- the columns of order 3, which `advance` does not take yet
-- "U+0009 now reaches the next multiple of 8"
abbrev pub next_stop : ℕ → ℕ
next_stop col = (col / 8 + 1) * 8

-- what 'the next multiple' says: it lies above the column, and none lies between
pub record NextMultiple (col stop : ℕ) : Type 0 where
  pub multiple : stop % 8 ≡ 0
  pub above : col < stop
  pub next : (m : ℕ) → m % 8 ≡ 0 → col < m → stop ≤ m
