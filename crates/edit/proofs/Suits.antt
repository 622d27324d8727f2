-- Plans of one change suit the text, and leave the cursor between characters: over any repertoire. Assumes nothing.
use Prim.Native.Nat.{ℕ, ◌+◌}
use mathlib.Core.Path.{◌≡◌}
use mathlib.Core.Bool.{true}
use mathlib.Core.List.{List, [], ◌∷◌}
use lib.ListN.{length}
use Rattle.utf8.specs.Chars.{In}
use Rattle.repertoire.specs.Repertoire.{Repertoire}
use Rattle.repertoire.specs.Text.{is_text}
use Rattle.repertoire.proofs.Text.{text-valid}
use Rattle.edit.specs.Plan.{cutting, swapping, Plan, nothing, text_after, AllSuit}
use Rattle.edit.proofs.Splice.{splice-start, splice-end}

-- a plan suits the text, and leaves the cursor between its characters
abbrev pub PlanSuits : Repertoire → List ℕ → Plan → Type 0
PlanSuits R t p = AllSuit R p.changes t × In (text_after p.changes t) p.cursor p.cursor

module _ (R : Repertoire) (t : List ℕ) where
  -- nothing
  pub nothing_suits : (pos : ℕ) → AllSuit R (nothing pos).changes t
  unfolding AllSuit
  nothing_suits pos = tt

  pub nothing-cursor : (pos : ℕ) → In t pos pos → In (text_after (nothing pos).changes t) pos pos
  unfolding text_after
  nothing-cursor pos i = i

  pub nothing_plan : (pos : ℕ) → In t pos pos → PlanSuits R t (nothing pos)
  nothing_plan pos i = (nothing_suits pos, nothing-cursor pos i)

  module _ (a b : ℕ) (i : In t a b) where
    -- a cut
    pub cutting_suits : AllSuit R (cutting a b ∷ []) t
    unfolding AllSuit
    cutting_suits = (i, tt)

    pub cutting-cursor : In (text_after (cutting a b ∷ []) t) a a
    unfolding text_after
    cutting-cursor = splice-start t a b [] i

    -- a replacement
    pub swapping_suits : (s : List ℕ) → is_text R s ≡ true → AllSuit R (swapping a b s ∷ []) t
    unfolding AllSuit
    swapping_suits s e = ((i, e), tt)

    pub swapping-cursor : (s : List ℕ) → is_text R s ≡ true → In (text_after (swapping a b s ∷ []) t) (a + length s) (a + length s)
    unfolding text_after
    swapping-cursor s e = splice-end t a b s i (text-valid R s e)
