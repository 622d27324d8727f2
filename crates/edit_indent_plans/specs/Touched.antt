-- The lines that a movement touches, and the white space that they begin with: line_buffer.rs, indent.
use Rattle.std.specs.Prelude.{ℕ, suc, ◌+◌, Bool, false, cond, not, ◌||◌, List, [], ◌∷◌, ltb, length, drop, Option, None, Some}
use Rattle.lists.specs.Lists.{any}
use Rattle.utf8.specs.Chars.{chars, boundary}
use Rattle.utf8.specs.Encode.{size}
use Rattle.repertoire.specs.Repertoire.{Repertoire}
use Rattle.keymap.specs.declared.Movement.{Movement}
use Rattle.keymap.specs.declared.Movement.TheVariants as m
use Rattle.motion_words.specs.Words.{prev_word_pos, next_word_pos}
use Rattle.motion_lines.specs.Lines.{newline, start_of_line, n_lines_up, n_lines_down}
use Rattle.motion_ranges.specs.Ranges.{up_to, back_to}
use Rattle.motion_lines.specs.declared.Span.{Span}

-- ---- the lines
abbrev pub span : ℕ → ℕ → Span
span a b = record { start = a; end = b }

-- the span of a range, the cursor twice where it is nowhere
abbrev pub or_cursor : ℕ → Option Span → Span
or_cursor pos (Some x) = x
or_cursor pos None = span pos pos

-- the span of a movement: for one that stays within a line it is the cursor
abbrev pub span_of : Repertoire → List ℕ → ℕ → Movement → Span
span_of R s pos m.WholeLine = span pos pos
span_of R s pos m.BeginningOfLine = span pos pos
span_of R s pos m.EndOfLine = span pos pos
span_of R s pos (m.BackwardWord n w) = or_cursor pos (back_to pos 0 (prev_word_pos R s pos w n))
span_of R s pos (m.ForwardWord n at w) = or_cursor pos (up_to pos 0 (next_word_pos R s pos at w n))
span_of R s pos (m.ViCharSearch n cs) = span pos pos
span_of R s pos m.ViFirstPrint = span pos pos
span_of R s pos (m.BackwardChar n) = span pos pos
span_of R s pos (m.ForwardChar n) = span pos pos
span_of R s pos (m.LineUp n) = or_cursor pos (n_lines_up s pos n)
span_of R s pos (m.LineDown n) = or_cursor pos (n_lines_down s pos n)
span_of R s pos m.WholeBuffer = span 0 (length s)
span_of R s pos m.BeginningOfBuffer = span 0 pos
span_of R s pos m.EndOfBuffer = span pos (length s)

-- the bytes before the last \n, all of them where there is none
unfoldable pub before_last : List ℕ → ℕ
before_last [] = 0
before_last (b ∷ s) = cond (newline b) (cond (any newline s) (suc (before_last s)) 0) (suc (before_last s))

-- at the last \n of the text at or after a place, the text's end where there is none
abbrev pub last_newline : List ℕ → ℕ → ℕ
last_newline s pos = pos + before_last (drop pos s)

-- from the start of the line in which the span starts up to the last \n at or after its end
abbrev pub whole_lines : List ℕ → Span → Span
whole_lines s r = span (start_of_line s r.start) (last_newline s r.end)

-- the lines that a movement touches: where they begin and end in the text
abbrev pub touched : Repertoire → List ℕ → ℕ → Movement → Span
touched R s pos mvt = whole_lines s (span_of R s pos mvt)

-- a part's lines, split at each \n: there is always one
abbrev pub on_first : ℕ → List (List ℕ) → List (List ℕ)
on_first b [] = (b ∷ []) ∷ []
on_first b (x ∷ xs) = (b ∷ x) ∷ xs

unfoldable pub split_lines : List ℕ → List (List ℕ)
split_lines [] = [] ∷ []
split_lines (b ∷ s) = cond (newline b) ([] ∷ split_lines s) (on_first b (split_lines s))

-- ---- what dedenting by m cuts: at most the white space that a line begins with
-- the bytes of the white space at the front of some characters
unfoldable pub leading : Repertoire → List ℕ → ℕ
leading R [] = 0
leading R (c ∷ cs) = cond (R.white c) (size c + leading R cs) 0

-- the bytes to cut from a line
unfoldable pub deleting : Repertoire → ℕ → List ℕ → ℕ
deleting R m x = cond (ltb (leading R (chars x)) m) (leading R (chars x)) m

-- 6: a cut of a line ends inside a character
unfoldable pub splits : Repertoire → ℕ → List (List ℕ) → Bool
splits R m [] = false
splits R m (x ∷ xs) = not (boundary x (deleting R m x)) || splits R m xs
