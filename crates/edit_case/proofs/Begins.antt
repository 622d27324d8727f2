-- The word that edit_word finds. Assumes nothing.
use Prim.Native.Nat.{ℕ}
use native.Mathlib.Omega.{arith}
use mathlib.Core.Path.{◌≡◌, sym, ap, ◌∙◌}
use mathlib.Core.Bool.{true}
use mathlib.Core.List.{List}
use Rattle.std.specs.Prelude.{Option, None, Some}
use Rattle.utf8.specs.Chars.{In}
use Rattle.repertoire.specs.Repertoire.{Repertoire}
use Rattle.repertoire.specs.Text.{is_text}
use Rattle.repertoire.proofs.Text.{text-valid}
use Rattle.motion.specs.Trim.{skip_whitespace}
use Rattle.motion.proofs.Places.{skip_place}
use Rattle.edit.specs.Plan.{nothing}
use Rattle.edit_case.specs.declared.WordAction.{WordAction}
use Rattle.motion_words.specs.Places.{words_on}
use Rattle.edit_case.specs.EditWord.{case_plan, cased_from, edit_word_plan}

module _ (R : Repertoire) (t : List ℕ) (w : WordAction) (pos : ℕ) (f : Option ℕ) (e : f ≡ skip_whitespace R t pos) where
  pub case_at : (p : ℕ) → f ≡ Some p → case_plan R t w p (words_on R t 1 p) ≡ edit_word_plan R t w pos
  case_at p g = sym (ap (cased_from R t w pos) (sym e ∙ g))

  pub case_none : f ≡ None → nothing pos ≡ edit_word_plan R t w pos
  case_none g = sym (ap (cased_from R t w pos) (sym e ∙ g))

  pub skip_in : is_text R t ≡ true → In t pos pos → (p : ℕ) → f ≡ Some p → In t p p
  skip_in is i p g = let k = skip_place R t pos p (text-valid R t is) i.2 i.1 (sym e ∙ g) in (omega arith, k.1, k.2, k.2)
