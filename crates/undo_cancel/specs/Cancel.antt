-- Cancel on values: document 01.
use Rattle.std.specs.Prelude.{ℕ, suc, ◌-◌, Bool, true, false, cond, List, [], ◌∷◌, eqb, length}
use Rattle.repertoire.specs.Repertoire.{Repertoire}
use Rattle.checks.specs.Checks.{own_tests}
use Rattle.checks.specs.Outcome.{Outcome, answered, called}
use Rattle.log_model.specs.Change.{Change, begin, end, edit, turn}
use Rattle.formats.specs.declared.Format.{Format}
use Rattle.edit.specs.Plan.{State}
use Rattle.edit.specs.Calls.{Lent, checked, state_of}
use Rattle.undo_step.specs.UndoStep.{StepState, undoing}
use Rattle.undo.specs.Undo.{Walked, on_outcome, step_state_of, undo_of}

-- record number m, from 0, is a Begin with no End after it
unfoldable pub opens : ℕ → List Change → Bool
opens m [] = false
opens m (begin ∷ u) = cond (eqb (length u) m) true (opens m u)
opens m (end ∷ u) = false
opens m (edit x ∷ u) = opens m u

-- every record down to the mark undone; one that is stopped leaves what a stopped undo leaves
unfoldable pub walk_to : ℕ → ℕ → List Change → List Change → StepState → Walked
walk_to C m [] r s = record { from = []; to = r; reached = s; stopped = 0 }
walk_to C m (x ∷ u) r s =
    on_outcome (undoing C x s) (λ k. record { from = x ∷ u; to = r; reached = s; stopped = k })
    (λ s'. cond (eqb (length u) m) (record { from = u; to = turn x ∷ r; reached = s'; stopped = 0 }) (walk_to C m u (turn x ∷ r) s'))

-- the Begins among the newest records down to the mark
unfoldable pub begins_down : ℕ → List Change → ℕ
begins_down m [] = 0
begins_down m (begin ∷ u) = cond (eqb (length u) m) 1 (suc (begins_down m u))
begins_down m (end ∷ u) = begins_down m u
begins_down m (edit x ∷ u) = begins_down m u

-- the records undone are dropped, with the redo list; the level is lowered by the Begins dropped, never below 0
abbrev pub cancelled_state : Walked → ℕ → State
cancelled_state w level = record { text = w.reached.text; cursor = w.reached.cursor; log = record { undo = w.from; redo = []; level = level } }

-- a stopped cancel drops nothing
abbrev pub cancelled : Walked → ℕ → State → Outcome State
cancelled w m s = cond (eqb w.stopped 0) (answered 0 0 0 (cancelled_state w (s.log.level - begins_down m s.log.undo))) (undo_of w s.log.level)

unfoldable pub cancel_out : ℕ → ℕ → State → Outcome State
cancel_out C m s = cond (opens m s.log.undo) (cancelled (walk_to C m s.log.undo s.log.redo (step_state_of s)) m s) (answered 1 0 0 s)

-- the call: checks 2 to 8, then what it does
module _ (R : Repertoire) (F : Format) (l : Lent) where
  abbrev pub cancel_call : ℕ → Outcome State
  cancel_call mark = called (checked R F l (own_tests false false false)) (cancel_out (length l.text) mark (state_of R F l))
