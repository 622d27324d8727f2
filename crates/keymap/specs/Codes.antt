-- What a code names. Document 01: codes count from 0 in the order in which the Rust declares them.
use Rattle.std.specs.Prelude.{ℕ, Option, Some, None, List, [], ◌∷◌, get_or}
use Rattle.keymap.specs.declared.Word.{Word}
use Rattle.keymap.specs.declared.Word.TheVariants.{Big, Emacs, Vi}
use Rattle.keymap.specs.declared.At.{At}
use Rattle.keymap.specs.declared.At.TheVariants.{Start, BeforeEnd, AfterEnd}
use Rattle.keymap.specs.declared.CharSearch.{CharSearch}
use Rattle.keymap.specs.declared.CharSearch.TheVariants.{Forward, ForwardBefore, Backward, BackwardAfter}
use Rattle.keymap.specs.declared.Movement.{Movement}
use Rattle.keymap.specs.declared.Movement.TheVariants as m
use Rattle.keymap.specs.declared.MovementCodes.{MovementCodes}

-- a code past the end of the list names nothing
unfoldable pub word_list : List (Option Word)
word_list = Some Big ∷ Some Emacs ∷ Some Vi ∷ []

abbrev pub word_of : ℕ → Option Word
word_of k = get_or word_list k None

unfoldable pub at_list : List (Option At)
at_list = Some Start ∷ Some BeforeEnd ∷ Some AfterEnd ∷ []

abbrev pub at_of : ℕ → Option At
at_of k = get_or at_list k None

unfoldable pub search_list : ℕ → List (Option CharSearch)
search_list c = Some (Forward c) ∷ Some (ForwardBefore c) ∷ Some (Backward c) ∷ Some (BackwardAfter c) ∷ []

abbrev pub search_of : ℕ → ℕ → Option CharSearch
search_of k c = get_or (search_list c) k None

abbrev pub backward_word : ℕ → Option Word → Option Movement
backward_word n (Some w) = Some (m.BackwardWord n w)
backward_word n None = None

abbrev pub forward_word : ℕ → Option At → Option Word → Option Movement
forward_word n (Some a) (Some w) = Some (m.ForwardWord n a w)
forward_word n (Some a) None = None
forward_word n None w = None

abbrev pub char_search : ℕ → Option CharSearch → Option Movement
char_search n (Some c) = Some (m.ViCharSearch n c)
char_search n None = None

-- a movement's numbers, of which it reads those that it needs
abbrev pub codes : ℕ → ℕ → ℕ → ℕ → ℕ → ℕ → MovementCodes
codes mvt n at word search ch = record { mvt = mvt; n = n; at = at; word = word; search = search; ch = ch }

unfoldable pub movements : MovementCodes → List (Option Movement)
movements c =
    Some m.WholeLine
    ∷ Some m.BeginningOfLine
    ∷ Some m.EndOfLine
    ∷ backward_word c.n (word_of c.word)
    ∷ forward_word c.n (at_of c.at) (word_of c.word)
    ∷ char_search c.n (search_of c.search c.ch)
    ∷ Some m.ViFirstPrint
    ∷ Some (m.BackwardChar c.n)
    ∷ Some (m.ForwardChar c.n)
    ∷ Some (m.LineUp c.n)
    ∷ Some (m.LineDown c.n)
    ∷ Some m.WholeBuffer
    ∷ Some m.BeginningOfBuffer
    ∷ Some m.EndOfBuffer
    ∷ []

abbrev pub movement_of : MovementCodes → Option Movement
movement_of c = get_or (movements c) c.mvt None
