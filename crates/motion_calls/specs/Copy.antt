-- copy: line_buffer.rs, copy, which answers the text between two places. The call answers the places.
use Rattle.std.specs.Prelude.{ℕ, true, false, List, Option, None, Some}
use Rattle.repertoire.specs.Repertoire.{Repertoire}
use Rattle.keymap.specs.Codes.{movement_of}
use Rattle.keymap.specs.declared.Movement.{Movement}
use Rattle.keymap.specs.declared.MovementCodes.{MovementCodes}
use Rattle.checks.specs.Checks.{Tests, own_tests, lent_text}
use Rattle.checks.specs.declared.Line.{Line}
use Rattle.checks.specs.Outcome.{Outcome, answered}
use Rattle.motion_ranges.specs.Ranges.{is_foreign, starts_after, copied}
use Rattle.motion_calls.specs.Moves.{move_call}
use Rattle.motion_lines.specs.declared.Span.{Span}

abbrev pub ranged : Line → Option Span → Outcome Line
ranged line (Some x) = answered 0 x.start x.end line
ranged line None = answered 1 0 0 line

module _ (R : Repertoire) (buffer : List ℕ) (line : Line) where
  abbrev pub copy_tests : Movement → Tests
  copy_tests mvt = own_tests false (is_foreign R mvt) (starts_after R (lent_text buffer line) line.cursor mvt)

  abbrev pub copy_by : Option Movement → Outcome Line
  copy_by (Some mvt) = move_call R buffer line (copy_tests mvt) (ranged line (copied R (lent_text buffer line) line.cursor mvt))
  copy_by None = move_call R buffer line (own_tests true false false) (answered 0 0 0 line)

  -- by a movement's codes
  abbrev pub copy_call : MovementCodes → Outcome Line
  copy_call codes = copy_by (movement_of codes)
