-- Worked examples of order 2 with short words, computed from the definition of a slip over the project's repertoire. Assumes nothing.
use Prim.Native.Nat.{ℕ}
use mathlib.Core.Path.{◌≡◌, refl}
use mathlib.Core.List.{List, [], ◌∷◌, ◌++◌, map}
use Rattle.utf8.specs.Utf8.{within, one, two, lead3, three, lead4, four, first_of, first}
use Rattle.utf8.specs.Chars.{chars_from}
use Rattle.utf8.specs.Encode.{size, encode, encode_all}
use Rattle.repertoire.specs.Repertoire.{catalogue, is_control, is_mark, is_white, width_of}
use Rattle.cluster.specs.Clusters.{joined, clusters}
use Rattle.layout.specs.Width.{advance, column_after, columns_after}
use Rattle.slip_model.specs.Slip.{Word, Row, items_of, pieces, Ends, at_newline, at_text_end, Line, laid, lines_from, lines_of, spaces}
use Rattle.slip_model.specs.Slip.{padded, slip}

abbrev pub lines : List ℕ → List Line
lines s = lines_of catalogue s

abbrev pub line : Row → Ends → Line
line r e = record { row = r; ends = e }

-- a word of characters that are clusters
abbrev pub each : List ℕ → Word
each cs = map (λ (c : ℕ). c ∷ []) cs

abbrev pub a : Word
a = each (0x61 ∷ [])

abbrev pub b : Word
b = each (0x62 ∷ [])

abbrev deeds : List ℕ
deeds = 0x64 ∷ 0x65 ∷ 0x65 ∷ 0x64 ∷ 0x73 ∷ []

pub record Computed : Type 0 where
  -- an empty text has no line
  pub nothing : slip catalogue [] ≡ []
  -- "deeds": one word, padded, also where a \n or \r\n ends the text
  pub word1 : slip catalogue deeds ≡ deeds ++ (spaces 55 ++ (0x0A ∷ []))
  pub word2 : slip catalogue (deeds ++ (0x0A ∷ [])) ≡ deeds ++ (spaces 55 ++ (0x0A ∷ []))
  pub word3 : slip catalogue (deeds ++ (0x0D ∷ 0x0A ∷ [])) ≡ deeds ++ (spaces 55 ++ (0x0A ∷ []))
  -- "\n\n": two lines of 60 spaces
  pub newlines : slip catalogue (0x0A ∷ 0x0A ∷ []) ≡ spaces 60 ++ (0x0A ∷ (spaces 60 ++ (0x0A ∷ [])))
  -- "a\n\nb": a blank line between
  pub between : lines (0x61 ∷ 0x0A ∷ 0x0A ∷ 0x62 ∷ []) ≡ line (a ∷ []) at_newline ∷ line [] at_newline ∷ line (b ∷ []) at_text_end ∷ []
  -- "   ": white space alone is a line without words
  pub white : lines (0x20 ∷ 0x20 ∷ 0x20 ∷ []) ≡ line [] at_text_end ∷ []
  -- "a\n ": white space behind the last \n
  pub behind : lines (0x61 ∷ 0x0A ∷ 0x20 ∷ []) ≡ line (a ∷ []) at_newline ∷ line [] at_text_end ∷ []
  -- "\n\r": so is \r
  pub return1 : lines (0x0A ∷ 0x0D ∷ []) ≡ line [] at_newline ∷ line [] at_text_end ∷ []
  -- "a\rb": \r alone is white space and ends no line
  pub return2 : lines (0x61 ∷ 0x0D ∷ 0x62 ∷ []) ≡ line (a ∷ b ∷ []) at_text_end ∷ []
  -- "a\t b\u{A0}c": tabs, spaces and U+00A0 part words
  pub parted : lines (0x61 ∷ 0x09 ∷ 0x20 ∷ 0x62 ∷ 0xC2 ∷ 0xA0 ∷ 0x63 ∷ []) ≡ line (a ∷ b ∷ each (0x63 ∷ []) ∷ []) at_text_end ∷ []
  -- "  a": white space in front is not printed
  pub leading : lines (0x20 ∷ 0x20 ∷ 0x61 ∷ []) ≡ line (a ∷ []) at_text_end ∷ []
  -- "e\u{301} \u{301}f": a space with a mark is white space; the mark is not printed
  pub mark1 :
      slip catalogue (0x65 ∷ 0xCC ∷ 0x81 ∷ 0x20 ∷ 0xCC ∷ 0x81 ∷ 0x66 ∷ []) ≡ 0x65 ∷ 0xCC ∷ 0x81 ∷ 0x20 ∷ 0x66 ∷ (spaces 57 ++ (0x0A ∷ []))
  -- "\u{301}a": a mark at the text's start is a cluster of width 0, part of the word
  pub mark2 : slip catalogue (0xCC ∷ 0x81 ∷ 0x61 ∷ []) ≡ 0xCC ∷ 0x81 ∷ 0x61 ∷ (spaces 59 ++ (0x0A ∷ []))
  -- "a\t\u{301}b": a mark behind a tab is a cluster of its own
  pub mark3 :
      lines (0x61 ∷ 0x09 ∷ 0xCC ∷ 0x81 ∷ 0x62 ∷ []) ≡ line (a ∷ each (0x301 ∷ 0x62 ∷ []) ∷ []) at_text_end ∷ []
  -- "a\n\u{301}": a word of width 0 and 60 spaces
  pub mark4 :
      slip catalogue (0x61 ∷ 0x0A ∷ 0xCC ∷ 0x81 ∷ []) ≡ 0x61 ∷ (spaces 59 ++ (0x0A ∷ 0xCC ∷ 0x81 ∷ (spaces 60 ++ (0x0A ∷ []))))
  -- "éé Ÿ": columns are not bytes
  pub bytes :
      slip catalogue (0xC3 ∷ 0xA9 ∷ 0xC3 ∷ 0xA9 ∷ 0x20 ∷ 0xC5 ∷ 0xB8 ∷ [])
      ≡ 0xC3 ∷ 0xA9 ∷ 0xC3 ∷ 0xA9 ∷ 0x20 ∷ 0xC5 ∷ 0xB8 ∷ (spaces 56 ++ (0x0A ∷ []))

pub computed : Computed
unfolding within one two lead3 three lead4 four first_of first chars_from size encode encode_all is_control is_mark is_white width_of joined clusters advance
    column_after columns_after items_of pieces laid lines_from lines_of padded slip
computed =
    record {
      nothing = refl;
      word1 = refl;
      word2 = refl;
      word3 = refl;
      newlines = refl;
      between = refl;
      white = refl;
      behind = refl;
      return1 = refl;
      return2 = refl;
      parted = refl;
      leading = refl;
      mark1 = refl;
      mark2 = refl;
      mark3 = refl;
      mark4 = refl;
      bytes = refl;
    }
