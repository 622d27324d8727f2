-- transpose_words of line_buffer.rs: two words put in for each other.
use Rattle.std.specs.Prelude.{ℕ, Bool, false, cond, ◌||◌, List, eqb, ltb}
use Rattle.repertoire.specs.Repertoire.{Repertoire}
use Rattle.checks.specs.Checks.{own_tests}
use Rattle.checks.specs.Outcome.{Outcome}
use Rattle.formats.specs.declared.Format.{Format}
use Rattle.edit.specs.Plan.{State, Plan, nothing}
use Rattle.edit.specs.Calls.{Lent, text_of, edit_call}
use Rattle.edit_transpose.specs.declared.Words.{Words}
use Rattle.edit_transpose.specs.WordPairs.{words_around, words_plan}

-- the same word, or two that overlap
abbrev pub is_one : Words → Bool
is_one w = eqb w.beg1 w.beg2 || ltb w.beg2 w.end1

-- answered by 1: the cursor stays behind w1
abbrev pub words_or : List ℕ → Words → Plan
words_or t w = cond (is_one w) (nothing w.end1) (words_plan t w)

abbrev pub transpose_words_plan : Repertoire → List ℕ → ℕ → ℕ → Plan
transpose_words_plan R t n pos = words_or t (words_around R t n pos)

abbrev pub transpose_words_call : Repertoire → Format → Lent → ℕ → Outcome State
transpose_words_call R F l n = edit_call R F l (own_tests false false false) (transpose_words_plan R (text_of l) n l.line.cursor)
