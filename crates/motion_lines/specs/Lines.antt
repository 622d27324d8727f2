-- Lines: line_buffer.rs, start_of_line, end_of_line, n_lines_up and n_lines_down. A line ends at a \n; rfind('\n') and find('\n') are said by the
-- start and the end of the line that a place lies in.
use Rattle.std.specs.Prelude.{ℕ, zero, suc, ◌+◌, ◌-◌, Bool, cond, List, [], ◌∷◌, eqb, ltb, length, get_or, drop, Option, None, Some}
use Rattle.motion_lines.specs.declared.Span.{Span}

-- the two places of a part of a text, where there is one
abbrev pub places : ℕ → ℕ → Option Span
places a b = Some (record { start = a; end = b })

abbrev pub newline : ℕ → Bool
newline b = eqb b 0x0A

-- behind the last \n before a place, 0 where there is none
unfoldable pub start_of_line : List ℕ → ℕ → ℕ
start_of_line s zero = 0
start_of_line s (suc i) = cond (newline (get_or s i 256)) (suc i) (start_of_line s i)

-- the bytes before the first \n
unfoldable pub before_newline : List ℕ → ℕ
before_newline [] = 0
before_newline (b ∷ s) = cond (newline b) 0 (suc (before_newline s))

-- at the next \n from a place on, the text's end where there is none
unfoldable pub end_of_line : List ℕ → ℕ → ℕ
end_of_line s pos = pos + before_newline (drop pos s)

-- is there a \n from a place on?
abbrev pub has_newline : List ℕ → ℕ → Bool
has_newline s pos = ltb (end_of_line s pos) (length s)

-- behind the line's own \n, the text's end where it has none
unfoldable pub behind_line : List ℕ → ℕ → ℕ
behind_line s pos = cond (has_newline s pos) (end_of_line s pos + 1) (length s)

-- the start of the n-th line above the one that starts at a, 0 where there are fewer
unfoldable pub lines_up : List ℕ → ℕ → ℕ → ℕ
lines_up s zero a = a
lines_up s (suc n) a = cond (eqb a 0) 0 (lines_up s n (start_of_line s (a - 1)))

-- the end, behind its \n, of the n-th line below the one that ends at e
unfoldable pub lines_down : List ℕ → ℕ → ℕ → ℕ
lines_down s zero e = e
lines_down s (suc n) e = cond (has_newline s e) (lines_down s n (end_of_line s e + 1)) (length s)

-- from the start of the n-th line above to behind this line; nowhere on the first line
unfoldable pub n_lines_up : List ℕ → ℕ → ℕ → Option Span
n_lines_up s pos n = cond (eqb (start_of_line s pos) 0) None (places (lines_up s n (start_of_line s pos)) (behind_line s pos))

-- from the \n before this line, 0 where there is none, to behind the n-th line below; nowhere on the last line
unfoldable pub n_lines_down : List ℕ → ℕ → ℕ → Option Span
n_lines_down s pos n = cond (has_newline s pos) (places (start_of_line s pos - 1) (lines_down s n (end_of_line s pos + 1))) None
