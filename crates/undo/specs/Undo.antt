-- Undo on values: undo.rs, undo of Changeset, and document 01 for the stops 12 and 9.
use Rattle.std.specs.Prelude.{ℕ, zero, suc, ◌-◌, Bool, true, false, List, [], ◌∷◌, length}
use Rattle.repertoire.specs.Repertoire.{Repertoire}
use Rattle.checks.specs.Checks.{own_tests}
use Rattle.checks.specs.Outcome.{Outcome, answered, called}
use Rattle.log_model.specs.Change.{Change, begin, end, edit, turn}
use Rattle.formats.specs.declared.Format.{Format}
use Rattle.edit.specs.Plan.{State}
use Rattle.edit.specs.Calls.{Lent, checked, state_of}
use Rattle.undo_step.specs.UndoStep.{StepState, StepOutcome, done, stops, undoing}

-- ---- undo: records until n units are done
-- waiting_for_begin, the Ends seen less the Begins seen, which may go below 0: `owed n` is n, `below n` is n + 1 below 0
pub data Waiting : Type 0 where
  owed below : ℕ → Waiting

abbrev pub passing : Change → Waiting → Waiting
passing begin (owed zero) = below zero
passing begin (owed (suc n)) = owed n
passing begin (below n) = below (suc n)
passing end (owed n) = owed (suc n)
passing end (below zero) = owed zero
passing end (below (suc n)) = below n
passing (edit x) w = w

-- 0 or less: a unit is done
abbrev pub settled : Waiting → Bool
settled (owed zero) = true
settled (owed (suc n)) = false
settled (below n) = true

-- the list that is undone and the one that its records go to, the state reached, and the number that stopped it, 0 where nothing did
pub record Walked : Type 0 where
  pub from : List Change
  pub to : List Change
  pub reached : StepState
  pub stopped : ℕ

-- at a record: stopped before it, or on behind it
abbrev pub on_outcome : StepOutcome → (ℕ → Walked) → (StepState → Walked) → Walked
on_outcome (done s) f g = g s
on_outcome (stops k) f g = f k

-- behind a record, with l units more to do after this one: this one goes on, was the last, or another begins
abbrev pub on_settled : Bool → ℕ → Walked → (ℕ → Walked) → Walked
on_settled false l last go = go l
on_settled true zero last go = last
on_settled true (suc l) last go = go l

-- records undone until l units more are done after this one
unfoldable pub walk : ℕ → ℕ → Waiting → List Change → List Change → StepState → Walked
walk C l w [] r s = record { from = []; to = r; reached = s; stopped = 0 }
walk C l w (x ∷ u) r s =
    on_outcome (undoing C x s) (λ k. record { from = x ∷ u; to = r; reached = s; stopped = k })
    (λ s'. on_settled (settled (passing x w)) l (record { from = u; to = turn x ∷ r; reached = s'; stopped = 0 }) (λ l'. walk C l' (passing x w) u (turn x ∷ r) s'))

-- the number: a stop's, else 0 exactly where a record of a text was undone
abbrev pub number_of : ℕ → Bool → ℕ
number_of zero true = 0
number_of zero false = 1
number_of (suc k) b = suc k

abbrev pub step_state_of : State → StepState
step_state_of s = record { text = s.text; cursor = s.cursor; undone = false }

-- the level stays as it is
abbrev pub undone_state : Walked → ℕ → State
undone_state w level = record { text = w.reached.text; cursor = w.reached.cursor; log = record { undo = w.from; redo = w.to; level = level } }

abbrev pub undo_of : Walked → ℕ → Outcome State
undo_of w level = answered (number_of w.stopped w.reached.undone) 0 0 (undone_state w level)

-- n = 0 acts as 1
abbrev pub undo_walk : ℕ → ℕ → State → Walked
undo_walk C n s = walk C (n - 1) (owed 0) s.log.undo s.log.redo (step_state_of s)

unfoldable pub undo_out : ℕ → ℕ → State → Outcome State
undo_out C n s = undo_of (undo_walk C n s) s.log.level

-- ---- the call: checks 2 to 8, then what it does
module _ (R : Repertoire) (F : Format) (l : Lent) where
  abbrev pub undo_call : ℕ → Outcome State
  undo_call n = called (checked R F l (own_tests false false false)) (undo_out (length l.text) n (state_of R F l))
