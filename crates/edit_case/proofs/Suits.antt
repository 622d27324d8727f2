-- A word put in another case suits the text, and leaves the cursor between characters: over any repertoire. Assumes nothing.
use Prim.Native.Nat.{ℕ}
use mathlib.Core.Path.{◌≡◌}
use mathlib.Core.Bool.{true}
use mathlib.Core.List.{List, []}
use Rattle.lists.specs.Lists.{part}
use Rattle.utf8.specs.Chars.{In}
use Rattle.repertoire.specs.Repertoire.{Repertoire, Lawful}
use Rattle.repertoire.specs.Text.{is_text}
use Rattle.repertoire.proofs.Text.{text-valid}
use Rattle.edit.specs.Plan.{splice, text_after, AllSuit}
use Rattle.edit.proofs.Parts.{part-text}
use Rattle.edit.proofs.Splice.{splice-start, splice-end}
use Rattle.edit_case.specs.declared.WordAction.{WordAction}
use Rattle.edit_case.specs.EditWord.{in_case, case_plan}
use Rattle.edit_case.proofs.Cased.{case_text}

module _ (R : Repertoire) (t : List ℕ) (is : is_text R t ≡ true) where
  -- the bytes from a up to b
  module _ (law : Lawful R) (w : WordAction) (a b : ℕ) (i : In t a b) where
    abbrev word : List ℕ
    word = in_case R w (part t a b)

    word-text : is_text R word ≡ true
    word-text = case_text R (part t a b) (part-text R t a b i is) law w

    pub case_suits : AllSuit R (case_plan R t w a b).changes t
    unfolding AllSuit
    case_suits = (i, ((splice-start t a b [] i, word-text), tt))

    pub case_cursor : In (text_after (case_plan R t w a b).changes t) (case_plan R t w a b).cursor (case_plan R t w a b).cursor
    unfolding text_after
    case_cursor = splice-end (splice t a b []) a a word (splice-start t a b [] i) (text-valid R word word-text)
