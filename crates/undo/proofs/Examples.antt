-- What the definitions give: document 01's P11 and P12, the counter below 0, the stops, and a small state for each wrong answer that the calls' comments name.
-- Assumes nothing.
use Prim.Native.Nat.{ℕ}
use mathlib.Core.Path.{◌≡◌, refl}
use mathlib.Core.List.{List, [], ◌∷◌}
use Rattle.utf8.specs.Utf8.{within, one, two, lead3, three, lead4, four, first_of, first}
use Rattle.utf8.specs.Chars.{valid_from}
use Rattle.checks.specs.Outcome.{answered}
use Rattle.log_model.specs.Change.{Change, begin, end, edit, insert, delete}
use Rattle.edit.specs.Plan.{State, splice}
use Rattle.undo_step.specs.UndoStep.{misfit, exchanging, undoing}
use Rattle.undo.specs.Undo.{walk, undo_out}

-- a text with the cursor at its end, its undo and redo lists, and a level
abbrev pub state : List ℕ → ℕ → List Change → List Change → ℕ → State
state t c u r v = record { text = t; cursor = c; log = record { undo = u; redo = r; level = v } }

-- "ab" and " c" as they were typed
abbrev ab : Change
ab = edit (insert 0 (0x61 ∷ 0x62 ∷ []))

abbrev space_c : Change
space_c = edit (insert 2 (0x20 ∷ 0x63 ∷ []))

-- "q", and "r" behind it
abbrev pub q : Change
q = edit (insert 0 (0x71 ∷ []))

abbrev pub r : Change
r = edit (insert 1 (0x72 ∷ []))

pub record Examples : Type 0 where
  -- P11: undo 1 leaves "ab"
  pub p11 :
      undo_out 16 1 (state (0x61 ∷ 0x62 ∷ 0x20 ∷ 0x63 ∷ []) 4 (space_c ∷ ab ∷ []) [] 0)
      ≡ answered 0 0 0 (state (0x61 ∷ 0x62 ∷ []) 2 (ab ∷ []) (edit (delete 2 (0x20 ∷ 0x63 ∷ [])) ∷ []) 0)
  -- undo 0 is undo 1
  pub zero :
      undo_out 16 0 (state (0x61 ∷ 0x62 ∷ []) 2 (ab ∷ []) [] 0) ≡ answered 0 0 0 (state [] 0 [] (edit (delete 0 (0x61 ∷ 0x62 ∷ [])) ∷ []) 0)
  -- P12: the group that truncate left open takes the text of before with it
  pub p12_truncate :
      undo_out 16 1 (state (0x71 ∷ 0x72 ∷ []) 2 (end ∷ end ∷ r ∷ begin ∷ q ∷ []) [] 0)
      ≡ answered 0 0 0 (state [] 0 [] (edit (delete 0 (0x71 ∷ [])) ∷ end ∷ edit (delete 1 (0x72 ∷ [])) ∷ begin ∷ begin ∷ []) 0)
  -- P12 with cancel: the group after the one cancelled is undone by itself
  pub p12_cancelled :
      undo_out 16 1 (state (0x71 ∷ 0x72 ∷ []) 2 (end ∷ r ∷ begin ∷ q ∷ []) [] 0)
      ≡ answered 0 0 0 (state (0x71 ∷ []) 1 (q ∷ []) (end ∷ edit (delete 1 (0x72 ∷ [])) ∷ begin ∷ []) 0)
  -- a Begin passed before its End brings the counter below 0, where it stays: undo 2 stops behind that End
  pub below :
      undo_out 16 2 (state (0x71 ∷ []) 1 (begin ∷ end ∷ q ∷ begin ∷ []) [] 0) ≡ answered 1 0 0 (state (0x71 ∷ []) 1 (q ∷ begin ∷ []) (begin ∷ end ∷ []) 0)
  -- 12: a record whose range leaves the text; 9: a text that would be longer than C
  pub misfits : undo_out 16 1 (state [] 0 (q ∷ []) [] 0) ≡ answered 12 0 0 (state [] 0 (q ∷ []) [] 0)
  pub full : undo_out 0 1 (state [] 0 (edit (delete 0 (0x71 ∷ [])) ∷ []) [] 0) ≡ answered 9 0 0 (state [] 0 (edit (delete 0 (0x71 ∷ [])) ∷ []) [] 0)

pub examples : Examples
unfolding within one two lead3 three lead4 four first_of first valid_from splice misfit exchanging undoing walk undo_out
examples = record { p11 = refl; zero = refl; p12_truncate = refl; p12_cancelled = refl; below = refl; misfits = refl; full = refl }
