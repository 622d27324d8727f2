-- Every call of document 01, "The list of demand 3", as a value, and what each comes to: the contracts of the entries for C say it by these values, and so
-- does the theorem about runs. An edit is a call of LineBuffer that may change the text, a movement one that changes at most the cursor; the other calls are
-- the log's. What a call takes goes with it, fit or unfit, in the order of the entries for C.
use Rattle.std.specs.Prelude.{ℕ, Bool, List}
use Rattle.repertoire.specs.Repertoire.{Repertoire}
use Rattle.keymap.specs.declared.MovementCodes.{MovementCodes}
use Rattle.checks.specs.declared.Line.{Line}
use Rattle.checks.specs.Outcome.{Outcome, refused, answered}
use Rattle.motion_calls.specs.Moves as moves
use Rattle.motion_calls.specs.Copy.{copy_call}
use Rattle.formats.specs.declared.Format.{Format}
use Rattle.log_model.specs.Groups.{Log}
use Rattle.log_state.specs.Calls as logs
use Rattle.edit.specs.Plan.{State}
use Rattle.edit.specs.Calls.{Lent, log_lent, state_of}
use Rattle.edit_kill.specs.Kills.{kill_call, kill_line_call, kill_buffer_call, discard_line_call, discard_buffer_call, delete_call}
use Rattle.edit_kill.specs.Kills.{backspace_call}
use Rattle.edit_kill.specs.Kills.{delete_prev_word_call, delete_word_call, delete_to_call}
use Rattle.edit_range.specs.Ranges.{replace_call, delete_range_call}
use Rattle.edit_insert.specs.Inserts.{update_call, insert_call, yank_call, yank_pop_call}
use Rattle.edit_transpose.specs.TransposeChars.{transpose_chars_call}
use Rattle.edit_case.specs.EditWord.{edit_word_call}
use Rattle.edit_transpose.specs.TransposeWords.{transpose_words_call}
use Rattle.edit_indent.specs.Indents.{indent_call}
use Rattle.undo.specs.Undo.{undo_call}
use Rattle.undo_redo.specs.Redo.{redo_call}
use Rattle.undo_cancel.specs.Cancel.{cancel_call}

pub data EditCall : Type 0 where
  update : List ℕ → ℕ → EditCall
  insert : ℕ → ℕ → EditCall
  yank : List ℕ → ℕ → EditCall
  yank_pop : ℕ → List ℕ → EditCall
  delete backspace : ℕ → EditCall
  kill_line kill_buffer discard_line discard_buffer transpose_chars : EditCall
  delete_prev_word : ℕ → ℕ → EditCall
  delete_word delete_to : ℕ → ℕ → ℕ → EditCall
  edit_word transpose_words : ℕ → EditCall
  replace : ℕ → ℕ → List ℕ → EditCall
  delete_range : ℕ → ℕ → EditCall
  kill : MovementCodes → EditCall
  indent : MovementCodes → ℕ → Bool → EditCall

pub data MoveCall : Type 0 where
  next_pos : ℕ → MoveCall
  copy : MovementCodes → MoveCall
  is_cursor_at_end is_end_of_input : MoveCall
  set_pos move_forward move_backward : ℕ → MoveCall
  move_buffer_start move_buffer_end move_home move_end : MoveCall
  move_to_prev_word : ℕ → ℕ → MoveCall
  move_to_next_word : ℕ → ℕ → ℕ → MoveCall
  move_to_line_up move_to_line_down : ℕ → ℕ → MoveCall
  move_to : ℕ → ℕ → ℕ → MoveCall

-- the calls of the log that are lent no text
pub data LogCall : Type 0 where
  begin end last_insert : LogCall

pub data Asked : Type 0 where
  edit : EditCall → Asked
  move : MoveCall → Asked
  log : LogCall → Asked
  undo redo cancel : ℕ → Asked

-- ---- what a call comes to
-- a movement is lent a text to read
module _ (R : Repertoire) (t : List ℕ) (line : Line) where
  abbrev pub move_outcome : MoveCall → Outcome Line
  move_outcome (next_pos n) = moves.next_pos_call R t line n
  move_outcome (copy m) = copy_call R t line m
  move_outcome is_cursor_at_end = moves.is_cursor_at_end R t line
  move_outcome is_end_of_input = moves.is_end_of_input R t line
  move_outcome (set_pos pos) = moves.set_pos R t line pos
  move_outcome (move_forward n) = moves.move_forward R t line n
  move_outcome (move_backward n) = moves.move_backward R t line n
  move_outcome move_buffer_start = moves.move_buffer_start R t line
  move_outcome move_buffer_end = moves.move_buffer_end R t line
  move_outcome move_home = moves.move_home R t line
  move_outcome move_end = moves.move_end R t line
  move_outcome (move_to_prev_word w n) = moves.move_to_prev_word R t line w n
  move_outcome (move_to_next_word at w n) = moves.move_to_next_word R t line at w n
  move_outcome (move_to_line_up n prompt) = moves.move_to_line_up R t line n prompt
  move_outcome (move_to_line_down n prompt) = moves.move_to_line_down R t line n prompt
  move_outcome (move_to s c n) = moves.move_to R t line s c n

-- begin, end and last_insert are lent a log
module _ (R : Repertoire) (F : Format) (l : logs.Lent) where
  abbrev pub log_outcome : LogCall → Outcome Log
  log_outcome begin = logs.begin_call R F l
  log_outcome end = logs.end_call R F l
  log_outcome last_insert = logs.last_insert_call R F l

-- all others are lent text, line and log
module _ (R : Repertoire) (F : Format) (l : Lent) where
  abbrev pub edit_outcome : EditCall → Outcome State
  edit_outcome (update s pos) = update_call R F l s pos
  edit_outcome (insert c n) = insert_call R F l c n
  edit_outcome (yank s n) = yank_call R F l s n
  edit_outcome (yank_pop size s) = yank_pop_call R F l size s
  edit_outcome (delete n) = delete_call R F l n
  edit_outcome (backspace n) = backspace_call R F l n
  edit_outcome kill_line = kill_line_call R F l
  edit_outcome kill_buffer = kill_buffer_call R F l
  edit_outcome discard_line = discard_line_call R F l
  edit_outcome discard_buffer = discard_buffer_call R F l
  edit_outcome transpose_chars = transpose_chars_call R F l
  edit_outcome (delete_prev_word w n) = delete_prev_word_call R F l w n
  edit_outcome (delete_word at w n) = delete_word_call R F l at w n
  edit_outcome (delete_to s c n) = delete_to_call R F l s c n
  edit_outcome (edit_word a) = edit_word_call R F l a
  edit_outcome (transpose_words n) = transpose_words_call R F l n
  edit_outcome (replace a b s) = replace_call R F l a b s
  edit_outcome (delete_range a b) = delete_range_call R F l a b
  edit_outcome (kill m) = kill_call R F l m
  edit_outcome (indent m amount dedent) = indent_call R F l amount dedent m

  -- what a movement leaves is the cursor
  abbrev pub moved_by : Outcome Line → Outcome State
  moved_by (refused k) = refused k
  moved_by (answered k a b line) = answered k a b (record { text = (state_of R F l).text; cursor = line.cursor; log = (state_of R F l).log })

  -- what a log's outcome leaves is the log
  abbrev pub logged_by : Outcome Log → Outcome State
  logged_by (refused k) = refused k
  logged_by (answered k a b g) = answered k a b (record { text = (state_of R F l).text; cursor = l.line.cursor; log = g })

  abbrev pub outcome_of : Asked → Outcome State
  outcome_of (edit x) = edit_outcome x
  outcome_of (move x) = moved_by (move_outcome R l.text l.line x)
  outcome_of (log x) = logged_by (log_outcome R F (log_lent l) x)
  outcome_of (undo n) = undo_call R F l n
  outcome_of (redo n) = redo_call R F l n
  outcome_of (cancel mark) = cancel_call R F l mark
