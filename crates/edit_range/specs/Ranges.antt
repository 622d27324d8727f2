-- The calls of LineBuffer with a range of places of their own: line_buffer.rs, delete_range and replace. The places are tried by 5 and 6.
use Rattle.std.specs.Prelude.{ℕ, ◌+◌, not, ◌||◌, List, ltb, length}
use Rattle.utf8.specs.Chars.{boundary}
use Rattle.repertoire.specs.Repertoire.{Repertoire}
use Rattle.repertoire.specs.Text.{is_text}
use Rattle.checks.specs.Checks.{Tests, no_tests, with_sizes, with_foreign, with_place, with_split}
use Rattle.checks.specs.Outcome.{Outcome}
use Rattle.formats.specs.declared.Format.{Format}
use Rattle.edit.specs.Plan.{State, cutting, swapping, once}
use Rattle.edit.specs.Calls.{Lent, text_of, edit_call}

module _ (R : Repertoire) (F : Format) (l : Lent) where
  -- 5: an end beyond the text, a start after its end; 6: one of them inside a character
  abbrev pub range_tests : ℕ → ℕ → Tests
  range_tests a b =
      with_place (ltb l.line.len b || ltb b a) (with_split (not (boundary (text_of l) a) || not (boundary (text_of l) b)) no_tests)

  -- 2 and 4 try the text to put in too
  abbrev pub replace_tests : ℕ → ℕ → List ℕ → Tests
  replace_tests a b s =
      with_sizes (ltb (length l.text) (length s)) (with_foreign (not (is_text R s)) (range_tests a b))

  -- delete_range: the cursor goes to the start
  abbrev pub delete_range_call : ℕ → ℕ → Outcome State
  delete_range_call a b = edit_call R F l (range_tests a b) (once (cutting a b) a)

  -- replace: behind the text
  abbrev pub replace_call : ℕ → ℕ → List ℕ → Outcome State
  replace_call a b s = edit_call R F l (replace_tests a b s) (once (swapping a b s) (a + length s))
