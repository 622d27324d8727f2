-- A movement's place in a text, or the place where it began: line_buffer.rs, where a movement that finds nothing stays.
use Rattle.std.specs.Prelude.{ℕ, List}
use Rattle.repertoire.specs.Repertoire.{Repertoire}
use Rattle.keymap.specs.declared.Word.TheVariants.{Emacs}
use Rattle.keymap.specs.declared.At.TheVariants.{AfterEnd}
use Rattle.motion.specs.Steps.{next_pos, prev_pos, or_stay}
use Rattle.motion_words.specs.Words.{prev_word_pos, next_word_pos}

module _ (R : Repertoire) (t : List ℕ) where
  -- one cluster on, and one back
  abbrev pub on_from : ℕ → ℕ
  on_from p = or_stay p (next_pos R t p 1)

  abbrev pub back_from : ℕ → ℕ
  back_from p = or_stay p (prev_pos R t p 1)

  -- behind the n-th word from a place on, and at the start of the n-th word before it
  abbrev pub words_on : ℕ → ℕ → ℕ
  words_on n p = or_stay p (next_word_pos R t p AfterEnd Emacs n)

  abbrev pub words_back : ℕ → ℕ → ℕ
  words_back n p = or_stay p (prev_word_pos R t p Emacs n)
