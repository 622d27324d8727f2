-- Redo on values: undo.rs, redo of Changeset, and document 01 for the stops 12 and 9. The redo list has every record turned round, so
-- one unit redone is one undone with the two lists exchanged.
use Rattle.std.specs.Prelude.{ℕ, zero, suc, ◌≡◌, false, cond, ◌&&◌, List, eqb, length}
use Rattle.repertoire.specs.Repertoire.{Repertoire, catalogue}
use Rattle.checks.specs.Checks.{own_tests}
use Rattle.checks.specs.Outcome.{Outcome, refused, answered, called}
use Rattle.formats.specs.declared.Format.{Format}
use Rattle.edit.specs.Plan.{State}
use Rattle.edit.specs.declared.EditAnswer.{EditAnswer}
use Rattle.edit.specs.Calls.{Lent, lent, checked, state_of, Ready}
use Rattle.undo.specs.Undo.{owed, Walked, walk, number_of, step_state_of}
use Rattle.undo.specs.Steps.{Unmoved}

-- ---- n times one unit; 0 where any of them gives 0, else 1; a stop ends them
abbrev pub redo_walk : ℕ → State → Walked
redo_walk C s = walk C 0 (owed 0) s.log.redo s.log.undo (step_state_of s)

abbrev pub redone_state : Walked → ℕ → State
redone_state w level = record { text = w.reached.text; cursor = w.reached.cursor; log = record { undo = w.to; redo = w.from; level = level } }

-- a 1 behind a 0 is a 0
abbrev pub behind_number : ℕ → Outcome State → Outcome State
behind_number n (refused k) = refused k
behind_number n (answered k a b s) = answered (cond (eqb n 0 && eqb k 1) 0 k) a b s

abbrev pub or_stopped : Walked → ℕ → (State → Outcome State) → Outcome State
or_stopped w level go = cond (eqb w.stopped 0) (behind_number (number_of 0 w.reached.undone) (go (redone_state w level))) (answered w.stopped 0 0 (redone_state w level))

unfoldable pub redo_out : ℕ → ℕ → State → Outcome State
redo_out C zero s = answered 1 0 0 s
redo_out C (suc n) s = or_stopped (redo_walk C s) s.log.level (redo_out C n)

-- ---- the call: checks 2 to 8, then what it does
module _ (R : Repertoire) (F : Format) (l : Lent) where
  abbrev pub redo_call : ℕ → Outcome State
  redo_call n = called (checked R F l (own_tests false false false)) (redo_out (length l.text) n (state_of R F l))

-- one unit redone: its outcome is the answer r, with what is lent to the next unit, which the checks pass
pub record Redone (F : Format) (l : Lent) (r : EditAnswer) (t : List ℕ) : Type 0 where
  pub ready : Ready F (lent t l.records l.texts r.line r.log)
  pub out : redo_out (length l.text) 1 (state_of catalogue F l) ≡ answered r.number 0 0 (state_of catalogue F (lent t l.records l.texts r.line r.log))
  pub unmoved : Unmoved l.log.redo.records r.log.redo.records l.text t
