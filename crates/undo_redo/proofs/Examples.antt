-- What the definitions give: a small state for each wrong answer that the call's comment names. Assumes nothing.
use mathlib.Core.Path.{◌≡◌, refl}
use mathlib.Core.List.{[], ◌∷◌}
use Rattle.utf8.specs.Utf8.{within, one, two, lead3, three, lead4, four, first_of, first}
use Rattle.utf8.specs.Chars.{valid_from}
use Rattle.checks.specs.Outcome.{answered}
use Rattle.log_model.specs.Change.{begin, end, edit, insert, delete}
use Rattle.edit.specs.Plan.{splice}
use Rattle.undo_step.specs.UndoStep.{misfit, exchanging, undoing}
use Rattle.undo.specs.Undo.{walk}
use Rattle.undo.proofs.Examples.{state, q, r}
use Rattle.undo_redo.specs.Redo.{redo_out}

pub record Examples : Type 0 where
  -- redo gives back what undo took
  pub again :
      redo_out 16 1 (state [] 0 [] (edit (delete 0 (0x61 ∷ 0x62 ∷ [])) ∷ []) 0) ≡ answered 0 0 0 (state (0x61 ∷ 0x62 ∷ []) 2 (edit (insert 0 (0x61 ∷ 0x62 ∷ [])) ∷ []) [] 0)
  -- redo 0 does nothing and answers 1
  pub none :
      redo_out 16 0 (state [] 0 [] (edit (delete 0 (0x61 ∷ 0x62 ∷ [])) ∷ []) 0) ≡ answered 1 0 0 (state [] 0 [] (edit (delete 0 (0x61 ∷ 0x62 ∷ [])) ∷ []) 0)
  -- redo 1 of a group goes on to the End that closes it
  pub group :
      redo_out 16 1 (state (0x71 ∷ []) 1 (q ∷ []) (end ∷ edit (delete 1 (0x72 ∷ [])) ∷ begin ∷ []) 0) ≡ answered 0 0 0 (state (0x71 ∷ 0x72 ∷ []) 2 (end ∷ r ∷ begin ∷ q ∷ []) [] 0)

pub examples : Examples
unfolding within one two lead3 three lead4 four first_of first valid_from splice misfit exchanging undoing walk redo_out
examples = record { again = refl; none = refl; group = refl }
