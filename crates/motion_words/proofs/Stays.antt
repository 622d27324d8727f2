-- A movement's place, or the place where it began: where they stand in the text. Assumes nothing.
use Prim.Native.Nat.{ℕ, ◌≤◌}
use native.Mathlib.Omega.{arith}
use mathlib.Core.Path.{◌≡◌, refl}
use mathlib.Core.Bool.{true}
use mathlib.Core.List.{List}
use lib.ListN.{length}
use Rattle.std.specs.Prelude.{Option, None, Some}
use Rattle.utf8.specs.Chars.{valid, boundary}
use Rattle.repertoire.specs.Repertoire.{Repertoire}
use Rattle.keymap.specs.declared.Word.TheVariants.{Emacs}
use Rattle.keymap.specs.declared.At.TheVariants.{AfterEnd}
use Rattle.motion.specs.Steps.{next_pos, prev_pos, or_stay}
use Rattle.motion.proofs.Places.{next_pos_place, prev_pos_place}
use Rattle.motion_words.specs.Words.{prev_word_pos, next_word_pos}
use Rattle.motion_words.proofs.Places.{next-word-place, prev_word-place}
use Rattle.motion_words.specs.Places.{on_from, back_from, words_on, words_back}

-- ---- places of a text
module _ (R : Repertoire) (t : List ℕ) (v : valid t ≡ true) (pos : ℕ) (b : boundary t pos ≡ true) (h : pos ≤ length t) where
  -- at or after where it began
  abbrev After : ℕ → Type 0
  After p = (pos ≤ p) × (p ≤ length t) × (boundary t p ≡ true)

  abbrev Before : ℕ → Type 0
  Before p = (p ≤ pos) × (boundary t p ≡ true)

  after : (f : Option ℕ) → ((p : ℕ) → f ≡ Some p → After p) → After (or_stay pos f)
  after (Some p) k = k p refl
  after None k = (omega arith, h, b)

  before : (f : Option ℕ) → ((p : ℕ) → f ≡ Some p → Before p) → Before (or_stay pos f)
  before (Some p) k = k p refl
  before None k = (omega arith, b)

  pub on_place : After (on_from R t pos)
  on_place = after (next_pos R t pos 1) (λ p e. next_pos_place R t pos 1 p v b h e)

  pub back_place : Before (back_from R t pos)
  back_place = before (prev_pos R t pos 1) (λ p e. prev_pos_place R t pos 1 p v b h e)

  pub words_on_place : (n : ℕ) → After (words_on R t n pos)
  words_on_place n = after (next_word_pos R t pos AfterEnd Emacs n) (λ p e. next-word-place R t pos AfterEnd Emacs n p v b h e)

  pub words_back_place : (n : ℕ) → Before (words_back R t n pos)
  words_back_place n = before (prev_word_pos R t pos Emacs n) (λ p e. prev_word-place R t pos Emacs n p v b h e)
