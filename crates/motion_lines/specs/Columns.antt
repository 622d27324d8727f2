-- The same column in another line: line_buffer.rs, move_to_line_up and move_to_line_down. The column is measured in widths, the landing counts
-- clusters; the prompt stands before the first line.
use Rattle.std.specs.Prelude.{ℕ, zero, suc, ◌+◌, ◌-◌, cond, List, eqb, ltb, length, take, Option, None, Some}
use Rattle.lists.specs.Lists.{sum, part}
use Rattle.utf8.specs.Chars.{chars}
use Rattle.repertoire.specs.Repertoire.{Repertoire}
use Rattle.layout.specs.Width.{width, plain_width}
use Rattle.motion.specs.Steps.{sizes}
use Rattle.motion_lines.specs.declared.Span.{Span}
use Rattle.motion_lines.specs.Lines.{start_of_line, end_of_line, has_newline}

-- grapheme_indices().nth(n) of the part from a to b: where cluster number n starts, other where there are no more than n
unfoldable pub nth_cluster : Repertoire → List ℕ → ℕ → ℕ → ℕ → ℕ → ℕ
nth_cluster R s a b n other =
    cond (ltb n (length (sizes R (part s a b)))) (a + sum (take n (sizes R (part s a b)))) other

-- the prompt's columns stand before the first line
abbrev pub offset : ℕ → ℕ → ℕ
offset a prompt = cond (eqb a 0) prompt 0

-- the line before the one that starts at a, and so on, n lines or as many as there are: its start and its end
unfoldable pub line_above : List ℕ → ℕ → ℕ → ℕ → Span
line_above s zero a e = record { start = a; end = e }
line_above s (suc n) a e = cond (eqb a 0) (record { start = a; end = e }) (line_above s n (start_of_line s (a - 1)) (a - 1))

unfoldable pub line_below : List ℕ → ℕ → ℕ → ℕ → Span
line_below s zero a e = record { start = a; end = e }
line_below s (suc n) a e = cond (eqb e (length s)) (record { start = a; end = e }) (line_below s n (e + 1) (end_of_line s (e + 1)))

-- the width of the cursor's line up to the cursor, which starts at a column
abbrev pub width_before : Repertoire → List ℕ → ℕ → ℕ → ℕ
width_before R s pos col = width R col (part s (start_of_line s pos) pos)

-- up: too short a line sends the cursor to the \n before its own line, which is at off
abbrev pub land_up : Repertoire → List ℕ → ℕ → ℕ → ℕ → Span → ℕ
land_up R s column off prompt l = nth_cluster R s l.start l.end (column - offset l.start prompt) off

-- n = 0 acts as 1; nothing on the first line
unfoldable pub line_up : Repertoire → List ℕ → ℕ → ℕ → ℕ → Option ℕ
line_up R s pos n prompt =
    cond (eqb (start_of_line s pos) 0) None
    (Some
    (land_up R s (width_before R s pos 0) (start_of_line s pos - 1) prompt
    (line_above s (n - 1) (start_of_line s (start_of_line s pos - 1)) (start_of_line s pos - 1))))

-- down: too short a line sends it to that line's end
abbrev pub land_down : Repertoire → List ℕ → ℕ → Span → ℕ
land_down R s column l = nth_cluster R s l.start l.end column l.end

-- the cursor's column, with the prompt on the first line
abbrev pub column_of : Repertoire → List ℕ → ℕ → ℕ → ℕ
column_of R s pos prompt = width_before R s pos (offset (start_of_line s pos) prompt) + offset (start_of_line s pos) prompt

-- n = 0 acts as 1; nothing on the last line
unfoldable pub line_down : Repertoire → List ℕ → ℕ → ℕ → ℕ → Option ℕ
line_down R s pos n prompt =
    cond (has_newline s pos)
    (Some (land_down R s (column_of R s pos prompt) (line_below s (n - 1) (end_of_line s pos + 1) (end_of_line s (end_of_line s pos + 1)))))
    None

-- ---- the same moves from a column, and from the column by document 01's widths
abbrev pub line_up_from : Repertoire → List ℕ → ℕ → ℕ → ℕ → ℕ → Option ℕ
line_up_from R s pos n prompt column =
    cond (eqb (start_of_line s pos) 0) None
    (Some
    (land_up R s column (start_of_line s pos - 1) prompt
    (line_above s (n - 1) (start_of_line s (start_of_line s pos - 1)) (start_of_line s pos - 1))))

abbrev pub line_down_from : Repertoire → List ℕ → ℕ → ℕ → ℕ → Option ℕ
line_down_from R s pos n column =
    cond (has_newline s pos) (Some (land_down R s column (line_below s (n - 1) (end_of_line s pos + 1) (end_of_line s (end_of_line s pos + 1))))) None

-- the characters that a line move measures
abbrev pub measured : List ℕ → ℕ → List ℕ
measured s pos = chars (part s (start_of_line s pos) pos)

unfoldable pub plain_line_up : Repertoire → List ℕ → ℕ → ℕ → ℕ → Option ℕ
plain_line_up R s pos n prompt = line_up_from R s pos n prompt (plain_width R (measured s pos))

unfoldable pub plain_line_down : Repertoire → List ℕ → ℕ → ℕ → ℕ → Option ℕ
plain_line_down R s pos n prompt = line_down_from R s pos n (plain_width R (measured s pos) + offset (start_of_line s pos) prompt)
