-- The range of a movement: the two places between which copy answers the text and most kills cut it. line_buffer.rs, copy.
use Rattle.std.specs.Prelude.{ℕ, ◌+◌, Bool, true, false, cond, ◌&&◌, not, List, eqb, ltb, length, Option, None, Some}
use Rattle.utf8.specs.Encode.{size}
use Rattle.repertoire.specs.Repertoire.{Repertoire}
use Rattle.repertoire.specs.Text.{is_char}
use Rattle.keymap.specs.declared.Word.TheVariants.{Big}
use Rattle.keymap.specs.declared.At.TheVariants.{Start}
use Rattle.keymap.specs.declared.CharSearch.{CharSearch}
use Rattle.keymap.specs.declared.CharSearch.TheVariants.{Forward, ForwardBefore, Backward, BackwardAfter}
use Rattle.keymap.specs.declared.Movement.{Movement}
use Rattle.keymap.specs.declared.Movement.TheVariants as m
use Rattle.motion.specs.Steps.{next_pos, prev_pos}
use Rattle.motion.specs.Search.{match_forward, match_backward}
use Rattle.motion_words.specs.Words.{prev_word_pos, next_word_pos}
use Rattle.motion_lines.specs.Lines.{start_of_line, end_of_line, n_lines_up, n_lines_down, places}
use Rattle.motion_lines.specs.declared.Span.{Span}

-- from the cursor on to a place that is found k bytes further, or back from it
abbrev pub up_to : ℕ → ℕ → Option ℕ → Option Span
up_to pos k (Some p) = places pos (p + k)
up_to pos k None = None

abbrev pub back_to : ℕ → ℕ → Option ℕ → Option Span
back_to pos k (Some p) = places (p + k) pos
back_to pos k None = None

-- two places that differ
abbrev pub between : ℕ → ℕ → Option Span
between a b = cond (eqb a b) None (places a b)

-- Forward takes the match in, ForwardBefore goes up to it; Backward begins with it, BackwardAfter behind it
abbrev pub search_range : Repertoire → List ℕ → ℕ → ℕ → CharSearch → Option Span
search_range R s pos n (Forward c) = up_to pos (size c) (match_forward R s pos c n)
search_range R s pos n (ForwardBefore c) = up_to pos 0 (match_forward R s pos c n)
search_range R s pos n (Backward c) = back_to pos 0 (match_backward s pos c n)
search_range R s pos n (BackwardAfter c) = back_to pos (size c) (match_backward s pos c n)

-- where ViFirstPrint starts
abbrev pub first_print : Repertoire → List ℕ → Option ℕ
first_print R s = next_word_pos R s 0 Start Big 1

abbrev pub range_of : Repertoire → List ℕ → ℕ → Movement → Option Span
range_of R s pos m.WholeLine = cond (eqb (start_of_line s pos) (end_of_line s pos)) None (places (start_of_line s pos) pos)
range_of R s pos m.BeginningOfLine = between (start_of_line s pos) pos
range_of R s pos m.EndOfLine = between pos (end_of_line s pos)
range_of R s pos (m.BackwardWord n w) = back_to pos 0 (prev_word_pos R s pos w n)
range_of R s pos (m.ForwardWord n at w) = up_to pos 0 (next_word_pos R s pos at w n)
range_of R s pos (m.ViCharSearch n cs) = search_range R s pos n cs
range_of R s pos m.ViFirstPrint = cond (eqb pos 0) None (back_to pos 0 (first_print R s))
range_of R s pos (m.BackwardChar n) = back_to pos 0 (prev_pos R s pos n)
range_of R s pos (m.ForwardChar n) = up_to pos 0 (next_pos R s pos n)
range_of R s pos (m.LineUp n) = n_lines_up s pos n
range_of R s pos (m.LineDown n) = n_lines_down s pos n
range_of R s pos m.WholeBuffer = places 0 (length s)
range_of R s pos m.BeginningOfBuffer = between 0 pos
range_of R s pos m.EndOfBuffer = between pos (length s)

-- nothing of an empty text
unfoldable pub copied : Repertoire → List ℕ → ℕ → Movement → Option Span
copied R s pos mvt = cond (eqb (length s) 0) None (range_of R s pos mvt)

-- check 5: ViFirstPrint's start lies after the cursor
abbrev pub is_after : ℕ → Option Span → Bool
is_after pos (Some x) = ltb pos x.start
is_after pos None = false

abbrev pub is_first_print : Movement → Bool
is_first_print m.ViFirstPrint = true
is_first_print m.WholeLine = false
is_first_print m.BeginningOfLine = false
is_first_print m.EndOfLine = false
is_first_print (m.BackwardWord n w) = false
is_first_print (m.ForwardWord n at w) = false
is_first_print (m.ViCharSearch n cs) = false
is_first_print (m.BackwardChar n) = false
is_first_print (m.ForwardChar n) = false
is_first_print (m.LineUp n) = false
is_first_print (m.LineDown n) = false
is_first_print m.WholeBuffer = false
is_first_print m.BeginningOfBuffer = false
is_first_print m.EndOfBuffer = false

unfoldable pub starts_after : Repertoire → List ℕ → ℕ → Movement → Bool
starts_after R s pos mvt = is_first_print mvt && is_after pos (copied R s pos mvt)

-- check 4: the character of a search
abbrev pub char_of : CharSearch → ℕ
char_of (Forward c) = c
char_of (ForwardBefore c) = c
char_of (Backward c) = c
char_of (BackwardAfter c) = c

abbrev pub is_foreign : Repertoire → Movement → Bool
is_foreign R (m.ViCharSearch n cs) = not (is_char R (char_of cs))
is_foreign R m.WholeLine = false
is_foreign R m.BeginningOfLine = false
is_foreign R m.EndOfLine = false
is_foreign R (m.BackwardWord n w) = false
is_foreign R (m.ForwardWord n at w) = false
is_foreign R m.ViFirstPrint = false
is_foreign R (m.BackwardChar n) = false
is_foreign R (m.ForwardChar n) = false
is_foreign R (m.LineUp n) = false
is_foreign R (m.LineDown n) = false
is_foreign R m.WholeBuffer = false
is_foreign R m.BeginningOfBuffer = false
is_foreign R m.EndOfBuffer = false
