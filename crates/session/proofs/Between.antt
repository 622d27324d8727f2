-- The texts that undo, redo and cancel pass through, one after each single record, inside a group too: all of them are of Q. Assumes nothing.
use Prim.Native.Nat.{ℕ, zero, suc, ◌+◌, ◌-◌}
use mathlib.Core.Bool.{Bool, true, false, cond}
use mathlib.Core.List.{List, [], ◌∷◌, ◌++◌}
use lib.Dec.{eqb}
use lib.ListN.{length}
use Rattle.lists.proofs.Every.{Every, every_append}
use Rattle.repertoire.specs.Repertoire.{Repertoire}
use Rattle.log_model.specs.Change.{Change, begin, end, edit, place, old, turn}
use Rattle.formats.specs.declared.Format.{Format}
use Rattle.edit.specs.Plan.{State}
use Rattle.undo_step.specs.UndoStep.{StepState, StepOutcome, done, stops, undoing}
use Rattle.undo.specs.Undo.{Waiting, owed, passing, settled, step_state_of}
use Rattle.undo_redo.specs.Redo.{redo_walk, redone_state}
use Rattle.session.proofs.Invariant.{Bound, Chain, Inv}
use Rattle.session.proofs.Links.{undo_link}
use Rattle.session.proofs.Walks.{At, at_turned, move}
use Rattle.session.proofs.Units.{at, one_keeps}

-- at a record: none where it is stopped
abbrev pub texts_tried : StepOutcome → (StepState → List (List ℕ)) → List (List ℕ)
texts_tried (done s) go = go s
texts_tried (stops k) go = []

-- behind a record: none where the last unit is done
abbrev pub texts_settled : Bool → ℕ → (ℕ → List (List ℕ)) → List (List ℕ)
texts_settled false l go = go l
texts_settled true zero go = []
texts_settled true (suc l) go = go l

-- after each record that `walk` undoes, the text
unfoldable pub texts_passed : ℕ → ℕ → Waiting → List Change → StepState → List (List ℕ)
texts_passed C l w [] s = []
texts_passed C l w (x ∷ u) s = texts_tried (undoing C x s) (λ s'. s'.text ∷ texts_settled (settled (passing x w)) l (λ l'. texts_passed C l' (passing x w) u s'))

-- after each record that `redo_out` redoes: unit after unit, up to a stop
unfoldable pub texts_redone : ℕ → ℕ → State → List (List ℕ)
texts_redone C zero s = []
texts_redone C (suc n) s =
    texts_passed C 0 (owed 0) s.log.redo (step_state_of s) ++ cond (eqb (redo_walk C s).stopped 0) (texts_redone C n (redone_state (redo_walk C s) s.log.level)) []

-- after each record that `walk_to` undoes, down to the mark m
unfoldable pub texts_down : ℕ → ℕ → List Change → StepState → List (List ℕ)
texts_down C m [] s = []
texts_down C m (x ∷ u) s = texts_tried (undoing C x s) (λ s'. s'.text ∷ cond (eqb (length u) m) [] (texts_down C m u s'))

-- of both lists, whichever it is
every_cond : (Q : List ℕ → Type 0) (b : Bool) (xs ys : List (List ℕ)) → Every Q xs → Every Q ys → Every Q (cond b xs ys)
every_cond Q true xs ys h k = h
every_cond Q false xs ys h k = k

-- what holds of every way on holds of the texts behind a record
every_settled : (Q : List ℕ → Type 0) (b : Bool) (l : ℕ) (go : ℕ → List (List ℕ)) → ((i : ℕ) → Every Q (go i)) → Every Q (texts_settled b l go)
every_settled Q false l go h = h l
every_settled Q true zero go h = tt
every_settled Q true (suc l) go h = h l

module _ (R : Repertoire) (F : Format) (Q : List ℕ → Type 0) where
  -- of a whole walk
  pub passing-all : (C : ℕ) (e e' : List ℕ) → Bound Q C → (u r : List Change) (l d : ℕ) (s : StepState) → At R F Q e e' d u r s.text → Every Q (texts_passed C l (owed d) u s)
  unfolding texts_passed
  passing-all C e e' h [] r l d s z = tt
  passing-all C e e' h (x ∷ u) r l d s z =
      let m = move R F Q C e e' d x u r s h z in
      rw (m.tried, m.passed)
      (m.at.allowed, every_settled Q (settled (owed m.depth)) l _ (λ i. passing-all C e e' h u (turn x ∷ r) i m.depth m.next m.at))

  module _ (t₀ : List ℕ) (C : ℕ) (s : State) (h : Bound Q C) (v : Inv R F Q t₀ s []) where
    -- of undo n
    pub undo-passing : (n : ℕ) → Every Q (texts_passed C (n - 1) (owed 0) s.log.undo (step_state_of s))
    undo-passing n = passing-all C t₀ v.goal h s.log.undo s.log.redo (n - 1) 0 (step_state_of s) (at R F Q t₀ s v)

    -- of one unit redone
    pub one-passing : Every Q (texts_passed C 0 (owed 0) s.log.redo (step_state_of s))
    one-passing = passing-all C v.goal t₀ h s.log.redo s.log.undo 0 0 (step_state_of s) (at_turned R F Q (at R F Q t₀ s v))

  -- of redo n
  pub redo-passing : (t₀ : List ℕ) (C n : ℕ) (s : State) → Bound Q C → Inv R F Q t₀ s [] → Every Q (texts_redone C n s)
  unfolding texts_redone
  redo-passing t₀ C zero s h v = tt
  redo-passing t₀ C (suc n) s h v =
      every_append Q (texts_passed C 0 (owed 0) s.log.redo (step_state_of s)) _ (one-passing t₀ C s h v)
      (every_cond Q (eqb (redo_walk C s).stopped 0) _ [] (redo-passing t₀ C n (redone_state (redo_walk C s) s.log.level) h (one_keeps R F Q t₀ C s h v)) tt)

  -- of cancel, down an undo list that leads through texts of Q
  down_passing : (C m : ℕ) (e : List ℕ) → Bound Q C → (u : List Change) (s : StepState) → Chain R Q e u s.text → Q s.text → Every Q (texts_down C m u s)
  unfolding texts_down undoing
  down_passing C m e h [] s c q = tt
  down_passing C m e h (begin ∷ u) s c q = (q, every_cond Q (eqb (length u) m) [] _ tt (down_passing C m e h u s c q))
  down_passing C m e h (end ∷ u) s c q = (q, every_cond Q (eqb (length u) m) [] _ tt (down_passing C m e h u s c q))
  down_passing C m e h (edit x ∷ u) s c q =
      let l = c.1 in
      rw (undo_link R C x c.0 s h l)
      (l.first, every_cond Q (eqb (length u) m) [] _ tt (down_passing C m e h u (record { text = c.0; cursor = place x + length (old x); undone = true }) c.2 l.first))

  pub cancel-passing : (t₀ : List ℕ) (C m : ℕ) (s : State) (g : List ℕ) → Bound Q C → Inv R F Q t₀ s g → Every Q (texts_down C m s.log.undo (step_state_of s))
  cancel-passing t₀ C m s g h v = down_passing C m t₀ h s.log.undo (step_state_of s) v.here.chain v.here.allowed
