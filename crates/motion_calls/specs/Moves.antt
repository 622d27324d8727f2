-- The movements of LineBuffer, each a call that is lent a text: checks 2 to 7 in number order, then the motion. A movement changes at most the cursor.
use Rattle.std.specs.Prelude.{ℕ, Bool, true, false, cond, not, List, eqb, ltb, leb, length, Option, None, Some}
use Rattle.formats.specs.Formats.{format_for}
use Rattle.utf8.specs.Chars.{boundary}
use Rattle.repertoire.specs.Repertoire.{Repertoire}
use Rattle.repertoire.specs.Text.{is_char}
use Rattle.keymap.specs.Codes.{word_of, at_of, search_of}
use Rattle.keymap.specs.declared.Word.{Word}
use Rattle.keymap.specs.declared.At as stops
use Rattle.keymap.specs.declared.CharSearch.{CharSearch}
use Rattle.motion.specs.Steps.{next_pos, prev_pos}
use Rattle.motion.specs.Search.{search_char_pos}
use Rattle.motion.specs.Trim.{trim_end}
use Rattle.motion_words.specs.Words.{prev_word_pos, next_word_pos}
use Rattle.motion_lines.specs.Lines.{start_of_line, end_of_line}
use Rattle.motion_lines.specs.Columns.{line_up, line_down}
use Rattle.checks.specs.Checks.{Tests, no_tests, with_place, with_split, with_prompt, both, refusal, lent_text, line_tests, own_tests}
use Rattle.checks.specs.Answers.{moved_to, place_of}
use Rattle.checks.specs.declared.Line.{Line}
use Rattle.checks.specs.Outcome.{Outcome, answered, called}

-- the tests of the lent text in its buffer's format
abbrev pub lent : Repertoire → List ℕ → Line → Tests
lent R buffer line = line_tests R (format_for (length buffer)) buffer line

-- a call: refused by the lowest number of the lent text's tests and its own, else it comes to o
unfoldable pub move_call : Repertoire → List ℕ → Line → Tests → Outcome Line → Outcome Line
move_call R buffer line own o = called (refusal (both (lent R buffer line) own)) o

-- to a place, unless the cursor is there
abbrev pub elsewhere : Line → ℕ → Option ℕ
elsewhere line p = cond (eqb line.cursor p) None (Some p)

-- the number 0 where a test is met, else 1
abbrev pub tells : Line → Bool → Outcome Line
tells line b = answered (cond b 0 1) 0 0 line

-- a place of the call's own in a text of len bytes
abbrev pub place_tests : List ℕ → ℕ → ℕ → Tests
place_tests s len pos = with_place (ltb len pos) (with_split (not (boundary s pos)) no_tests)

-- a prompt column
abbrev pub prompt_tests : ℕ → Tests
prompt_tests prompt = with_prompt (ltb 1024 prompt) no_tests

module _ (R : Repertoire) (buffer : List ℕ) (line : Line) where
  -- ---- without a code
  abbrev pub next_pos_call : ℕ → Outcome Line
  next_pos_call n = move_call R buffer line no_tests (place_of line (next_pos R (lent_text buffer line) line.cursor n))

  abbrev pub move_forward : ℕ → Outcome Line
  move_forward n = move_call R buffer line no_tests (moved_to line (next_pos R (lent_text buffer line) line.cursor n))

  abbrev pub move_backward : ℕ → Outcome Line
  move_backward n = move_call R buffer line no_tests (moved_to line (prev_pos R (lent_text buffer line) line.cursor n))

  abbrev pub move_buffer_start : Outcome Line
  move_buffer_start = move_call R buffer line no_tests (moved_to line (elsewhere line 0))

  abbrev pub move_buffer_end : Outcome Line
  move_buffer_end = move_call R buffer line no_tests (moved_to line (elsewhere line line.len))

  abbrev pub move_home : Outcome Line
  move_home = move_call R buffer line no_tests (moved_to line (elsewhere line (start_of_line (lent_text buffer line) line.cursor)))

  abbrev pub move_end : Outcome Line
  move_end = move_call R buffer line no_tests (moved_to line (elsewhere line (end_of_line (lent_text buffer line) line.cursor)))

  abbrev pub is_cursor_at_end : Outcome Line
  is_cursor_at_end = move_call R buffer line no_tests (tells line (eqb line.cursor line.len))

  abbrev pub is_end_of_input : Outcome Line
  is_end_of_input = move_call R buffer line no_tests (tells line (leb (trim_end R (lent_text buffer line)) line.cursor))

  -- a place of its own is tried by 5 and 6
  abbrev pub set_pos : ℕ → Outcome Line
  set_pos pos = move_call R buffer line (place_tests (lent_text buffer line) line.len pos) (moved_to line (Some pos))

  -- a prompt column is tried by 7
  abbrev pub move_to_line_up : ℕ → ℕ → Outcome Line
  move_to_line_up n prompt = move_call R buffer line (prompt_tests prompt) (moved_to line (line_up R (lent_text buffer line) line.cursor n prompt))

  abbrev pub move_to_line_down : ℕ → ℕ → Outcome Line
  move_to_line_down n prompt = move_call R buffer line (prompt_tests prompt) (moved_to line (line_down R (lent_text buffer line) line.cursor n prompt))

  -- ---- with codes: a number that names nothing is 3
  abbrev pub unnamed : Outcome Line
  unnamed = move_call R buffer line (own_tests true false false) (answered 0 0 0 line)

  abbrev pub prev_word_by : ℕ → Option Word → Outcome Line
  prev_word_by n (Some w) = move_call R buffer line no_tests (moved_to line (prev_word_pos R (lent_text buffer line) line.cursor w n))
  prev_word_by n None = unnamed

  abbrev pub move_to_prev_word : ℕ → ℕ → Outcome Line
  move_to_prev_word w n = prev_word_by n (word_of w)

  abbrev pub next_word_by : ℕ → Option stops.At → Option Word → Outcome Line
  next_word_by n (Some a) (Some w) = move_call R buffer line no_tests (moved_to line (next_word_pos R (lent_text buffer line) line.cursor a w n))
  next_word_by n (Some a) None = unnamed
  next_word_by n None w = unnamed

  abbrev pub move_to_next_word : ℕ → ℕ → ℕ → Outcome Line
  move_to_next_word at w n = next_word_by n (at_of at) (word_of w)

  -- a character outside the repertoire is 4
  abbrev pub search_by : ℕ → ℕ → Option CharSearch → Outcome Line
  search_by c n (Some cs) =
      move_call R buffer line (own_tests false (not (is_char R c)) false) (moved_to line (search_char_pos R (lent_text buffer line) line.cursor cs n))
  search_by c n None = unnamed

  abbrev pub move_to : ℕ → ℕ → ℕ → Outcome Line
  move_to s c n = search_by c n (search_of s c)
