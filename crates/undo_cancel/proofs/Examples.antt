-- What the definition gives: document 01's P12, a group that is not open, a stop, and a small state for each wrong answer that the call's comment names.
-- Assumes nothing.
use mathlib.Core.Path.{◌≡◌, refl}
use mathlib.Core.List.{[], ◌∷◌}
use Rattle.utf8.specs.Utf8.{within, one, two, lead3, three, lead4, four, first_of, first}
use Rattle.utf8.specs.Chars.{valid_from}
use Rattle.checks.specs.Outcome.{answered}
use Rattle.log_model.specs.Change.{begin, end, edit, insert, delete}
use Rattle.edit.specs.Plan.{splice}
use Rattle.undo_step.specs.UndoStep.{misfit, exchanging, undoing}
use Rattle.undo.proofs.Examples.{state, q, r}
use Rattle.undo_cancel.specs.Cancel.{opens, walk_to, begins_down, cancel_out}

pub record Examples : Type 0 where
  -- P12: the level is lowered
  pub p12_cancel : cancel_out 16 1 (state (0x71 ∷ []) 1 (begin ∷ q ∷ []) [] 1) ≡ answered 0 0 0 (state (0x71 ∷ []) 1 (q ∷ []) [] 0)
  -- cancel empties the redo list
  pub cancel-redo : cancel_out 16 0 (state [] 0 (begin ∷ []) (edit (delete 0 (0x71 ∷ [])) ∷ []) 1) ≡ answered 0 0 0 (state [] 0 [] [] 0)
  -- a mark whose record is no Begin, a Begin with an End after it, a mark beyond the list
  pub cancel_none :
      (cancel_out 16 0 (state (0x71 ∷ []) 1 (q ∷ []) [] 1) ≡ answered 1 0 0 (state (0x71 ∷ []) 1 (q ∷ []) [] 1))
      × (cancel_out 16 0 (state (0x71 ∷ []) 1 (end ∷ q ∷ begin ∷ []) [] 1) ≡ answered 1 0 0 (state (0x71 ∷ []) 1 (end ∷ q ∷ begin ∷ []) [] 1))
      × (cancel_out 16 9 (state (0x71 ∷ []) 1 (q ∷ begin ∷ []) [] 1) ≡ answered 1 0 0 (state (0x71 ∷ []) 1 (q ∷ begin ∷ []) [] 1))
  -- a cancel that is stopped: the record handled is in front of the redo list, which is kept, and so is the level
  pub cancel-stopped :
      cancel_out 16 0 (state (0x72 ∷ []) 1 (edit (insert 0 (0x72 ∷ [])) ∷ r ∷ begin ∷ []) (q ∷ []) 1)
      ≡ answered 12 0 0 (state [] 0 (r ∷ begin ∷ []) (edit (delete 0 (0x72 ∷ [])) ∷ q ∷ []) 1)

pub examples : Examples
unfolding within one two lead3 three lead4 four first_of first valid_from splice misfit exchanging undoing opens walk_to begins_down cancel_out
examples = record { p12_cancel = refl; cancel-redo = refl; cancel_none = (refl, refl, refl); cancel-stopped = refl }
