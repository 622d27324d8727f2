-- The plan of transpose_chars suits the text, and leaves the cursor between characters: over any repertoire. Assumes nothing.
use Prim.Native.Nat.{ℕ}
use mathlib.Core.Path.{◌≡◌, refl}
use mathlib.Core.Bool.{true}
use mathlib.Core.List.{List}
use Rattle.std.specs.Prelude.{Option, None, Some}
use Rattle.utf8.specs.Chars.{valid, In}
use Rattle.repertoire.specs.Repertoire.{Repertoire}
use Rattle.repertoire.specs.Text.{is_text}
use Rattle.repertoire.proofs.Text.{text-valid}
use Rattle.edit.proofs.Suits.{PlanSuits, nothing_plan}
use Rattle.edit_transpose.specs.TransposeChars.{starts_at, exchange_at, transpose_chars_plan}
use Rattle.edit_transpose.proofs.Suits.{exchange_suits, exchange-cursor}
use Rattle.edit_transpose.proofs.Begins.{starts_in}

module _ (R : Repertoire) (t : List ℕ) (is : is_text R t ≡ true) (pos : ℕ) (i : In t pos pos) where
  v : valid t ≡ true
  v = text-valid R t is

  chars-end : (f : Option ℕ) → f ≡ starts_at R t pos → PlanSuits R t (exchange_at R t pos f)
  chars-end (Some p) e = let k = starts_in R t v pos i (Some p) p e refl in (exchange_suits R t is p k, exchange-cursor R t is p k)
  chars-end None e = nothing_plan R t pos i

  pub transpose_chars_suits : PlanSuits R t (transpose_chars_plan R t pos)
  transpose_chars_suits = chars-end (starts_at R t pos) refl
