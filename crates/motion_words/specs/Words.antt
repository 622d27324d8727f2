-- Word motions: line_buffer.rs, prev_word_pos and next_word_pos.
use Rattle.std.specs.Prelude.{ℕ, ◌+◌, Bool, true, false, cond, List, reverse, eqb, length, take, drop, Option, None, Some}
use Rattle.repertoire.specs.Repertoire.{Repertoire}
use Rattle.keymap.specs.declared.Word.{Word}
use Rattle.keymap.specs.declared.At.{At}
use Rattle.keymap.specs.declared.At.TheVariants.{Start, BeforeEnd, AfterEnd}
use Rattle.motion_words.specs.declared.Landing.{Landing}
use Rattle.motion_words.specs.Rules.{is_start_of_word, stops_at, lands_behind}
use Rattle.motion_words.specs.Walk.{GraphemeIndex, grapheme_indices, walk}

-- ---- forward, over the part from the place on
abbrev pub stops : At → Word → GraphemeIndex → GraphemeIndex → Bool
stops at w x y = stops_at at w x.is y.is

-- at the start of the word, behind its end, or (BeforeEnd of Big and Vi words) at its last cluster
abbrev pub is_start : At → Bool
is_start Start = true
is_start BeforeEnd = false
is_start AfterEnd = false

abbrev pub is_before_end : At → Bool
is_before_end Start = false
is_before_end BeforeEnd = true
is_before_end AfterEnd = false

unfoldable pub lands_on : At → Word → ℕ → ℕ → ℕ
lands_on at w i j = cond (is_start at) j (cond (lands_behind at w) j i)

abbrev pub lands : At → Word → GraphemeIndex → GraphemeIndex → ℕ
lands at w x y = lands_on at w x.start y.start

-- BeforeEnd passes the first cluster
abbrev pub passed : At → ℕ
passed at = cond (is_before_end at) 1 0

unfoldable pub next_word : Repertoire → List ℕ → At → Word → ℕ → Landing
next_word R t at w n = walk (stops at w) (lands at w) n (drop (passed at) (grapheme_indices R t)) 0

-- no word found: the text's end, or the start of the last cluster read, if that is not the first one
unfoldable pub no_word : List ℕ → ℕ → Bool → ℕ → Option ℕ
no_word s pos behind last = cond behind (Some (length s)) (cond (eqb last 0) None (Some (last + pos)))

unfoldable pub landed : List ℕ → ℕ → Bool → Landing → Option ℕ
landed s pos behind l = cond (eqb l.found 0) (no_word s pos behind l.last) (Some (l.found + pos))

unfoldable pub next_word_pos : Repertoire → List ℕ → ℕ → At → Word → ℕ → Option ℕ
next_word_pos R s pos at w n =
    cond (eqb pos (length s)) None (landed s pos (lands_behind at w) (next_word R (drop pos s) at w n))

-- ---- backward, over the part before the place: y is read, x stands before it
abbrev pub starts_back : Word → GraphemeIndex → GraphemeIndex → Bool
starts_back w y x = is_start_of_word w x.is y.is

abbrev pub lands_back : GraphemeIndex → GraphemeIndex → ℕ
lands_back y x = y.start

unfoldable pub prev_word : Repertoire → List ℕ → Word → ℕ → ℕ
prev_word R t w n = (walk (starts_back w) lands_back n (reverse (grapheme_indices R t)) 0).found

unfoldable pub prev_word_pos : Repertoire → List ℕ → ℕ → Word → ℕ → Option ℕ
prev_word_pos R s pos w n = cond (eqb pos 0) None (Some (prev_word R (take pos s) w n))
