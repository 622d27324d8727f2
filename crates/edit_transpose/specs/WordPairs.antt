-- Two words of a text put in for each other: line_buffer.rs, transpose_words.
use Rattle.std.specs.Prelude.{ℕ, ◌≤◌, List, [], ◌∷◌}
use Rattle.lists.specs.Lists.{part}
use Rattle.utf8.specs.Chars.{In}
use Rattle.repertoire.specs.Repertoire.{Repertoire}
use Rattle.edit.specs.Plan.{pasted, cutting, Plan}
use Rattle.motion_words.specs.Places.{words_on, words_back}
use Rattle.edit_transpose.specs.declared.Words.{Words}

-- w2 is the n-th word from the cursor on, and w1 the n-th word before w2; with fewer words each movement goes as far as it
-- can, and at the text's end w2 reaches from the start of the last word up to there
abbrev pub words_around : Repertoire → List ℕ → ℕ → ℕ → Words
words_around R t n pos =
    let end2 = words_on R t n pos in
    let beg2 = words_back R t 1 end2 in
    let beg1 = words_back R t n beg2 in
    record { beg1 = beg1; end1 = words_on R t 1 beg1; beg2 = beg2; end2 = end2 }

-- each is put in for the other; w2 is cut first
abbrev pub words_plan : List ℕ → Words → Plan
words_plan t w =
    record {
      changes =
          cutting w.beg2 w.end2
          ∷ pasted w.beg2 (part t w.beg1 w.end1)
          ∷ cutting w.beg1 w.end1
          ∷ pasted w.beg1 (part t w.beg2 w.end2)
          ∷ [];
      cursor = w.end2;
      number = 0;
      from = 0;
      to = 0;
    }

-- two words of a text, the first before the second
pub record Apart (t : List ℕ) (w : Words) : Type 0 where
  pub first : In t w.beg1 w.end1
  pub second : In t w.beg2 w.end2
  pub before : w.end1 ≤ w.beg2
