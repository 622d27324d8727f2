-- The changes that indent and dedent some lines: line_buffer.rs, indent. Each line is changed at its own place, from the first to the last.
use Rattle.std.specs.Prelude.{ℕ, zero, suc, ◌+◌, ◌-◌, ◌*◌, Bool, true, false, cond, List, [], ◌∷◌, ◌++◌, eqb, ltb, length, replicate}
use Rattle.lists.specs.Lists.{part}
use Rattle.repertoire.specs.Repertoire.{Repertoire}
use Rattle.formats.specs.declared.Format.{Format}
use Rattle.formats.specs.Formats.{text_max}
use Rattle.edit.specs.Plan.{PlannedChange, pasted, cutting, Plan}
use Rattle.motion_lines.specs.declared.Span.{Span}
use Rattle.edit_indent_plans.specs.Touched.{split_lines, deleting}

-- ---- indenting by m: spaces in pieces of at most 32, all at the line's place
abbrev pub spaces : ℕ → List ℕ
spaces n = replicate n 0x20

-- the spaces of the next piece, where m are left
abbrev pub piece_of : ℕ → ℕ
piece_of m = cond (ltb m 32) m 32

-- at most k pieces
unfoldable pub indent_pieces : ℕ → ℕ → ℕ → List PlannedChange
indent_pieces zero at m = []
indent_pieces (suc k) at m = cond (eqb m 0) [] (pasted at (spaces (piece_of m)) ∷ indent_pieces k at (m - 32))

-- m pieces are enough
abbrev pub indent_line : ℕ → ℕ → List PlannedChange
indent_line at m = indent_pieces m at m

-- the lines, the first of them at a place; each stands m bytes and the \n further on once the one before it is indented
unfoldable pub indent_lines : ℕ → ℕ → List (List ℕ) → List PlannedChange
indent_lines m at [] = []
indent_lines m at (x ∷ xs) = indent_line at m ++ indent_lines m (at + m + length x + 1) xs

-- the cursor as the line at a place is indented by m
abbrev pub indented : ℕ → ℕ → ℕ → ℕ
indented at m pos = cond (ltb pos at) pos (pos + m)

-- the cursor moves by m for each line whose place is not behind it
unfoldable pub indent_cursor : ℕ → ℕ → List (List ℕ) → ℕ → ℕ
indent_cursor m at [] pos = pos
indent_cursor m at (x ∷ xs) pos = indent_cursor m (at + m + length x + 1) xs (indented at m pos)

-- ---- dedenting by m: of each line what `deleting` says
unfoldable pub dedent_lines : Repertoire → ℕ → ℕ → List (List ℕ) → List PlannedChange
dedent_lines R m at [] = []
dedent_lines R m at (x ∷ xs) = cutting at (at + deleting R m x) ∷ dedent_lines R m (at + (length x - deleting R m x) + 1) xs

-- a cursor inside the cut goes to the line's place, one behind it moves back
abbrev pub dedented : ℕ → ℕ → ℕ → ℕ
dedented at d pos = cond (ltb pos at) pos (cond (ltb (pos - at) d) at (pos - d))

unfoldable pub dedent_cursor : Repertoire → ℕ → ℕ → List (List ℕ) → ℕ → ℕ
dedent_cursor R m at [] pos = pos
dedent_cursor R m at (x ∷ xs) pos = dedent_cursor R m (at + (length x - deleting R m x) + 1) xs (dedented at (deleting R m x) pos)

-- ---- the plan of a call
abbrev pub indent_plan : Repertoire → ℕ → Bool → ℕ → ℕ → List (List ℕ) → Plan
indent_plan R m true pos at xs = record { changes = dedent_lines R m at xs; cursor = dedent_cursor R m at xs pos; number = 0; from = 0; to = 0 }
indent_plan R m false pos at xs = record { changes = indent_lines m at xs; cursor = indent_cursor m at xs pos; number = 0; from = 0; to = 0 }

-- the lines of a text between two places, by what stands in them
abbrev pub lines_in : List ℕ → Span → List (List ℕ)
lines_in s r = split_lines (part s r.start r.end)

-- ---- what the changes take in the log
-- the record of an insertion or a cut: its kind, a place and a length
abbrev pub change_size : Format → ℕ
change_size F = 1 + F.width + F.width

-- no call makes more of them: 8 of 32 spaces in each line of the longest text
abbrev pub changes_max : ℕ
changes_max = (text_max + 1) * 8
