-- Two clusters exchanged suit the text, and leave the cursor between characters: over any repertoire. Assumes nothing.
use Prim.Native.Nat.{ℕ, ◌+◌}
use native.Mathlib.Omega.{arith}
use mathlib.Core.Path.{◌≡◌}
use mathlib.Core.Bool.{true}
use mathlib.Core.List.{List, []}
use lib.ListN.{length}
use Rattle.lists.specs.Lists.{part}
use Rattle.utf8.specs.Chars.{valid, In}
use Rattle.repertoire.specs.Repertoire.{Repertoire}
use Rattle.repertoire.specs.Text.{is_text}
use Rattle.repertoire.proofs.Text.{text-valid, text_nil}
use Rattle.edit.specs.Plan.{splice, text_after, AllSuit}
use Rattle.edit.proofs.Parts.{part-text}
use Rattle.edit.proofs.Splice.{splice-text, splice_stays, splice-end}
use Rattle.motion_words.specs.Places.{on_from, back_from}
use Rattle.edit_transpose.specs.TransposeChars.{transposed, exchange}
use Rattle.motion_words.proofs.Stays.{on_place, back_place}

module _ (R : Repertoire) (t : List ℕ) (is : is_text R t ≡ true) where
  v : valid t ≡ true
  v = text-valid R t is

  module _ (p : ℕ) (i : In t p p) where
    abbrev q : ℕ
    q = on_from R t p

    abbrev o : ℕ
    o = back_from R t p

    abbrev mid : List ℕ
    mid = splice t p q []

    pub cut_in : In t p q
    cut_in = let a = on_place R t v p i.2 i.1 in (a.0, a.1, i.2, a.2)

    put-at : In mid o o
    put-at = let b = back_place R t v p i.2 i.1 in splice_stays t p q [] cut_in o b.0 b.1

    pub exchange_suits : AllSuit R (exchange R t p).changes t
    unfolding AllSuit
    exchange_suits = (cut_in, ((put-at, part-text R t p q cut_in is), tt))

    mid_text : is_text R mid ≡ true
    mid_text = splice-text t p q [] cut_in R is (text_nil R)

    made-text : is_text R (transposed R t p) ≡ true
    made-text = splice-text mid o o (part t p q) put-at R mid_text (part-text R t p q cut_in is)

    -- behind the cluster that was put in
    behind : In (transposed R t p) (o + length (part t p q)) (o + length (part t p q))
    behind = splice-end mid o o (part t p q) put-at (text-valid R (part t p q) (part-text R t p q cut_in is))

    pub exchange-cursor : In (text_after (exchange R t p).changes t) (exchange R t p).cursor (exchange R t p).cursor
    unfolding text_after
    exchange-cursor = let a = on_place R (transposed R t p) (text-valid R (transposed R t p) made-text) (o + length (part t p q)) behind.2
        behind.1 in (omega arith, a.1, a.2, a.2)
