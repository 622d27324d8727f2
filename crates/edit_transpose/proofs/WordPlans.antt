-- The plan of transpose_words suits the text, and leaves the cursor between characters: over any repertoire. Assumes nothing.
use Prim.Native.Nat.{ℕ}
use native.Mathlib.Omega.{arith}
use mathlib.Core.Path.{◌≡◌, refl}
use mathlib.Core.Bool.{true}
use mathlib.Core.List.{List}
use Rattle.lists.proofs.Bools.{by_test}
use Rattle.utf8.specs.Chars.{valid, In}
use Rattle.repertoire.specs.Repertoire.{Repertoire}
use Rattle.repertoire.specs.Text.{is_text}
use Rattle.repertoire.proofs.Text.{text-valid}
use Rattle.edit.proofs.Suits.{PlanSuits, nothing_plan}
use Rattle.edit_transpose.specs.WordPairs.{words_around}
use Rattle.edit_transpose.specs.TransposeWords.{is_one, transpose_words_plan}
use Rattle.edit_transpose.proofs.Four.{end1_in, words_suit, words_cursor}
use Rattle.edit_transpose.proofs.Around.{words_apart}

module _ (R : Repertoire) (t : List ℕ) (is : is_text R t ≡ true) (pos : ℕ) (i : In t pos pos) where
  v : valid t ≡ true
  v = text-valid R t is

  pub transpose_words_suits : (n : ℕ) → PlanSuits R t (transpose_words_plan R t n pos)
  transpose_words_suits n =
      let w = words_around R t n pos in
      by_test (PlanSuits R t (transpose_words_plan R t n pos)) (is_one (words_around R t n pos))
      (λ e. let k = end1_in R t v n pos i in rw e (nothing_plan R t w.end1 (omega arith, k.1, k.2, k.2)))
      (λ e. let p = words_apart R t n pos (words_around R t n pos) refl v i e in rw e (words_suit R t is (words_around R t n pos) p, words_cursor R t is (words_around R t n pos) p))
