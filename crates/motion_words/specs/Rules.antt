-- The word rules on clusters: line_buffer.rs, is_start_of_word, is_end_of_word, is_word_char, is_vi_word_char and is_other_char.
use Rattle.std.specs.Prelude.{Bool, true, false, ◌&&◌, ◌||◌, not}
use Rattle.cluster.specs.declared.Cluster.{Cluster}
use Rattle.keymap.specs.declared.Word.{Word}
use Rattle.keymap.specs.declared.Word.TheVariants.{Big, Emacs, Vi}
use Rattle.keymap.specs.declared.At.{At}
use Rattle.keymap.specs.declared.At.TheVariants.{Start, BeforeEnd, AfterEnd}

abbrev pub is_vi_word_char : Cluster → Bool
is_vi_word_char k = k.alnum || k.underscore

abbrev pub is_word_char : Word → Cluster → Bool
is_word_char Big k = not k.white
is_word_char Emacs k = k.alnum
is_word_char Vi k = is_vi_word_char k

abbrev pub is_other_char : Cluster → Bool
is_other_char k = not (k.white || is_vi_word_char k)

abbrev pub is_vi : Word → Bool
is_vi Big = false
is_vi Emacs = false
is_vi Vi = true

abbrev pub is_emacs : Word → Bool
is_emacs Big = false
is_emacs Emacs = true
is_emacs Vi = false

unfoldable pub is_start_of_word : Word → Cluster → Cluster → Bool
is_start_of_word w previous k =
    (not (is_word_char w previous) && is_word_char w k) || (is_vi w && (not (is_other_char previous) && is_other_char k))

-- a word ends where one would start in the other direction
abbrev pub is_end_of_word : Word → Cluster → Cluster → Bool
is_end_of_word w k next = is_start_of_word w next k

-- does a forward motion stop between x and the y that follows it?
abbrev pub stops_at : At → Word → Cluster → Cluster → Bool
stops_at Start w x y = is_start_of_word w x y
stops_at BeforeEnd w x y = is_end_of_word w x y
stops_at AfterEnd w x y = is_end_of_word w x y

abbrev pub is_after_end : At → Bool
is_after_end Start = false
is_after_end BeforeEnd = false
is_after_end AfterEnd = true

-- Emacs words and the stop AfterEnd land behind a word, and at the text's end where there is none
unfoldable pub lands_behind : At → Word → Bool
lands_behind at w = is_emacs w || is_after_end at
