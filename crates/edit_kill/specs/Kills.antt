-- The calls of LineBuffer that cut: line_buffer.rs, kill and the functions that it calls for each movement. A call cuts the bytes between two places of
-- the text and leaves the cursor there; where there are none it answers 1.
use Rattle.std.specs.Prelude.{ℕ, true, false, List, [], ◌∷◌, Option, None, Some}
use Rattle.std.specs.Option.{option_or}
use Rattle.repertoire.specs.Repertoire.{Repertoire}
use Rattle.keymap.specs.Codes.{codes, movement_of}
use Rattle.keymap.specs.declared.Movement.{Movement}
use Rattle.keymap.specs.declared.Movement.TheVariants as m
use Rattle.keymap.specs.declared.MovementCodes.{MovementCodes}
use Rattle.motion.specs.Steps.{next_pos, prev_pos}
use Rattle.motion_lines.specs.Lines.{start_of_line, end_of_line}
use Rattle.checks.specs.Checks.{own_tests}
use Rattle.checks.specs.Outcome.{Outcome}
use Rattle.motion_ranges.specs.Ranges.{up_to, back_to, between, copied, is_foreign}
use Rattle.formats.specs.declared.Format.{Format}
use Rattle.edit.specs.Plan.{State, cutting, Plan, once, nothing}
use Rattle.edit.specs.Calls.{Lent, text_of, edit_call}
use Rattle.motion_lines.specs.declared.Span.{Span}

module _ (R : Repertoire) (s : List ℕ) where
  -- kill_line: to the end of the line; the next cluster where the place is at the line's end
  unfoldable pub kill_line : ℕ → Option Span
  kill_line pos = option_or (between pos (end_of_line s pos)) (up_to pos 0 (next_pos R s pos 1))

  -- discard_line: back to the start of the line; the cluster before the place where that is at the line's start
  unfoldable pub discard_line : ℕ → Option Span
  discard_line pos = option_or (between (start_of_line s pos) pos) (back_to pos 0 (prev_pos R s pos 1))

  -- kill: WholeLine goes to the line's start and kills from there; ViFirstPrint finds nothing; other movements cut what copy copies
  abbrev pub kill_range : ℕ → Movement → Option Span
  kill_range pos m.WholeLine = kill_line (start_of_line s pos)
  kill_range pos m.BeginningOfLine = discard_line pos
  kill_range pos m.EndOfLine = kill_line pos
  kill_range pos (m.BackwardWord n w) = copied R s pos (m.BackwardWord n w)
  kill_range pos (m.ForwardWord n at w) = copied R s pos (m.ForwardWord n at w)
  kill_range pos (m.ViCharSearch n cs) = copied R s pos (m.ViCharSearch n cs)
  kill_range pos m.ViFirstPrint = None
  kill_range pos (m.BackwardChar n) = copied R s pos (m.BackwardChar n)
  kill_range pos (m.ForwardChar n) = copied R s pos (m.ForwardChar n)
  kill_range pos (m.LineUp n) = copied R s pos (m.LineUp n)
  kill_range pos (m.LineDown n) = copied R s pos (m.LineDown n)
  kill_range pos m.WholeBuffer = copied R s pos m.WholeBuffer
  kill_range pos m.BeginningOfBuffer = copied R s pos m.BeginningOfBuffer
  kill_range pos m.EndOfBuffer = copied R s pos m.EndOfBuffer

-- the plan of a cut, from the cursor pos
abbrev pub cut_plan : ℕ → Option Span → Plan
cut_plan pos (Some x) = once (cutting x.start x.end) x.start
cut_plan pos None = nothing pos

module _ (R : Repertoire) (F : Format) (l : Lent) where
  -- check 4 tries the character of a search
  abbrev pub kill_of : Movement → Outcome State
  kill_of mvt = edit_call R F l (own_tests false (is_foreign R mvt) false) (cut_plan l.line.cursor (kill_range R (text_of l) l.line.cursor mvt))

  abbrev pub kill_by : Option Movement → Outcome State
  kill_by (Some mvt) = kill_of mvt
  kill_by None = edit_call R F l (own_tests true false false) (nothing l.line.cursor)

  -- kill, by its movement's codes
  abbrev pub kill_call : MovementCodes → Outcome State
  kill_call c = kill_by (movement_of c)

  -- kill_line, kill_buffer, discard_line, discard_buffer, backspace
  abbrev pub kill_line_call : Outcome State
  kill_line_call = kill_of m.EndOfLine

  abbrev pub kill_buffer_call : Outcome State
  kill_buffer_call = kill_of m.EndOfBuffer

  abbrev pub discard_line_call : Outcome State
  discard_line_call = kill_of m.BeginningOfLine

  abbrev pub discard_buffer_call : Outcome State
  discard_buffer_call = kill_of m.BeginningOfBuffer

  abbrev pub backspace_call : ℕ → Outcome State
  backspace_call n = kill_of (m.BackwardChar n)

  -- delete_prev_word, delete_word, delete_to: 3 BackwardWord, 4 ForwardWord, 5 ViCharSearch
  abbrev pub delete_prev_word_call : ℕ → ℕ → Outcome State
  delete_prev_word_call word n = kill_call (codes 3 n 0 word 0 0)

  abbrev pub delete_word_call : ℕ → ℕ → ℕ → Outcome State
  delete_word_call at word n = kill_call (codes 4 n at word 0 0)

  abbrev pub delete_to_call : ℕ → ℕ → ℕ → Outcome State
  delete_to_call search ch n = kill_call (codes 5 n 0 0 search ch)

-- delete answers the two places between which it cut
abbrev pub places_plan : ℕ → Option Span → Plan
places_plan pos (Some x) =
    record { changes = cutting x.start x.end ∷ []; cursor = x.start; number = 0; from = x.start; to = x.end }
places_plan pos None = nothing pos

abbrev pub delete_call : Repertoire → Format → Lent → ℕ → Outcome State
delete_call R F l n = edit_call R F l (own_tests false false false) (places_plan l.line.cursor (kill_range R (text_of l) l.line.cursor (m.ForwardChar n)))
