-- The words that transpose_words finds, and the plan that follows. Assumes nothing.
use Prim.Native.Nat.{ℕ, ◌≤◌}
use mathlib.Core.Path.{◌≡◌, sym, ap, subst, ◌∙◌}
use mathlib.Core.Bool.{true, false}
use mathlib.Core.List.{List}
use lib.Dec.{eqb, ltb}
use borrow.Author.Tests.{ltb-false}
use Rattle.lists.proofs.Bools.{or_none}
use Rattle.utf8.specs.Chars.{valid, In}
use Rattle.repertoire.specs.Repertoire.{Repertoire}
use Rattle.edit.specs.Plan.{nothing}
use Rattle.edit_transpose.specs.declared.Words.{Words}
use Rattle.edit_transpose.specs.WordPairs.{words_around, words_plan, Apart}
use Rattle.edit_transpose.specs.TransposeWords.{is_one, words_or, transpose_words_plan}
use Rattle.edit_transpose.proofs.Four.{around_apart}

module _ (R : Repertoire) (t : List ℕ) (n pos : ℕ) (w : Words) (e : w ≡ words_around R t n pos) where
  pub words_one : is_one w ≡ true → nothing w.end1 ≡ transpose_words_plan R t n pos
  words_one h = sym (rw h) ∙ ap (words_or t) e

  pub words_two : is_one w ≡ false → words_plan t w ≡ transpose_words_plan R t n pos
  words_two h = sym (rw h) ∙ ap (words_or t) e

  pub words_apart : valid t ≡ true → In t pos pos → is_one w ≡ false → Apart t w
  words_apart v i h =
      subst (Apart t) (sym e)
      (around_apart R t v n pos i
      (subst (λ (x : Words). x.end1 ≤ x.beg2) e (ltb-false w.beg2 w.end1 (or_none (eqb w.beg1 w.beg2) (ltb w.beg2 w.end1) h).1)))
