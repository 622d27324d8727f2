-- indent and dedent, by a movement's codes: the lines are those that the movement's range touches.
use Rattle.std.specs.Prelude.{ℕ, Option, Some, None, Bool, true, false, cond, List}
use Rattle.repertoire.specs.Repertoire.{Repertoire}
use Rattle.keymap.specs.Codes.{movement_of}
use Rattle.keymap.specs.declared.Movement.{Movement}
use Rattle.keymap.specs.declared.MovementCodes.{MovementCodes}
use Rattle.checks.specs.Checks.{Tests, no_tests, with_foreign, with_split, own_tests}
use Rattle.checks.specs.Outcome.{Outcome}
use Rattle.motion_ranges.specs.Ranges.{is_foreign}
use Rattle.formats.specs.declared.Format.{Format}
use Rattle.edit.specs.Plan.{State, nothing}
use Rattle.edit.specs.Calls.{Lent, text_of, edit_call}
use Rattle.edit_indent_plans.specs.Touched.{splits, touched}
use Rattle.edit_indent_plans.specs.IndentPlans.{lines_in, indent_plan}

-- 4 tries the character of a search; 6 a dedent's cuts
abbrev pub indent_tests : Repertoire → List ℕ → ℕ → Movement → ℕ → Bool → Tests
indent_tests R s pos mvt amount dedent =
    with_foreign (is_foreign R mvt) (with_split (cond dedent (splits R amount (lines_in s (touched R s pos mvt))) false) no_tests)

module _ (R : Repertoire) (F : Format) (l : Lent) (amount : ℕ) (dedent : Bool) where
  abbrev pub indent_of : Movement → Outcome State
  indent_of mvt =
      edit_call R F l (indent_tests R (text_of l) l.line.cursor mvt amount dedent)
      (indent_plan R amount dedent l.line.cursor (touched R (text_of l) l.line.cursor mvt).start (lines_in (text_of l) (touched R (text_of l) l.line.cursor mvt)))

  abbrev pub indent_by : Option Movement → Outcome State
  indent_by (Some mvt) = indent_of mvt
  indent_by None = edit_call R F l (own_tests true false false) (nothing l.line.cursor)

  -- indent, by its movement's codes
  abbrev pub indent_call : MovementCodes → Outcome State
  indent_call c = indent_by (movement_of c)
