-- The plan of edit_word suits the text, and leaves the cursor between characters: over any repertoire. Assumes nothing.
use Prim.Native.Nat.{ℕ}
use mathlib.Core.Path.{◌≡◌, refl}
use mathlib.Core.Bool.{true}
use mathlib.Core.List.{List}
use Rattle.std.specs.Prelude.{Option, None, Some}
use Rattle.utf8.specs.Chars.{valid, In}
use Rattle.repertoire.specs.Repertoire.{Repertoire, Lawful}
use Rattle.repertoire.specs.Text.{is_text}
use Rattle.repertoire.proofs.Text.{text-valid}
use Rattle.motion.specs.Trim.{skip_whitespace}
use Rattle.edit.proofs.Suits.{PlanSuits, nothing_plan}
use Rattle.edit_case.specs.declared.WordAction.{WordAction}
use Rattle.motion_words.specs.Places.{words_on}
use Rattle.edit_case.specs.EditWord.{cased_from, edit_word_plan}
use Rattle.motion_words.proofs.Stays.{words_on_place}
use Rattle.edit_case.proofs.Suits.{case_suits, case_cursor}
use Rattle.edit_case.proofs.Begins.{skip_in}

module _ (R : Repertoire) (t : List ℕ) (is : is_text R t ≡ true) (pos : ℕ) (i : In t pos pos) where
  v : valid t ≡ true
  v = text-valid R t is

  case_end : Lawful R → (w : WordAction) (f : Option ℕ) → f ≡ skip_whitespace R t pos → PlanSuits R t (cased_from R t w pos f)
  case_end law w (Some p) e =
      let k = skip_in R t w pos (Some p) e is i p refl in
      let q = words_on_place R t v p k.2 k.1 1 in
      let j : In t p (words_on R t 1 p) = (q.0, q.1, k.2, q.2) in
      (case_suits R t is law w p (words_on R t 1 p) j, case_cursor R t is law w p (words_on R t 1 p) j)
  case_end law w None e = nothing_plan R t pos i

  pub edit-word_suits : Lawful R → (w : WordAction) → PlanSuits R t (edit_word_plan R t w pos)
  edit-word_suits law w = case_end law w (skip_whitespace R t pos) refl
