-- Units redone one after the other. Assumes nothing.
use Prim.Native.Nat.{ℕ, zero, suc, ◌-◌, ◌≤◌, ◌<◌}
use native.Mathlib.Omega.{arith}
use mathlib.Core.Path.{◌≡◌, refl, sym, ap, ap₂, subst, ◌∙◌}
use mathlib.Core.Bool.{Bool, true, false, cond, ◌&&◌}
use mathlib.Core.List.{List, [], ◌∷◌}
use lib.Dec.{eqb}
use lib.ListN.{length}
use borrow.Author.Tests.{eqb-true, eq-eqb, ne_eqb}
use Rattle.lists.proofs.Bools.{by_test, and_both}
use Rattle.repertoire.specs.Repertoire.{catalogue}
use Rattle.checks.specs.declared.Line.{Line}
use Rattle.checks.specs.Outcome.{Outcome, refused, answered}
use Rattle.log_model.specs.Change.{Change, turn}
use Rattle.formats.specs.declared.Format.{Format}
use Rattle.log_state.specs.declared.Log.{Log}
use Rattle.edit.specs.declared.EditAnswer.{EditAnswer}
use Rattle.edit.specs.Plan.{State}
use Rattle.edit.specs.Calls.{Lent, lent, state_of, says, Edited, Ready}
use Rattle.undo_step.specs.UndoStep.{StepState, StepOutcome, done, stops, undoing}
use Rattle.undo.specs.Undo.{Waiting, owed, passing, settled, Walked, on_outcome, on_settled, walk, number_of, step_state_of}
use Rattle.undo_redo.specs.Redo.{redone_state, redo_walk, behind_number, redo_out, Redone}
use Rattle.undo.specs.Steps.{state_at, Unmoved}
use Rattle.undo.proofs.Seams.{none_next}
use Rattle.undo.proofs.Passes.{Numbered, numbered}
use Rattle.undo.proofs.Walks.{out_of, answers_as, unmoved-first, unmoved-both, Ends}

-- ---- the number that stops a walk is over 1
abbrev Over : ℕ → Type 0
Over zero = Unit {0}
Over (suc k) = 1 < suc k

over_one : (k : ℕ) → 1 < k → Over k
over_one zero h = tt
over_one (suc k) h = h

tried_over : (v : StepOutcome) (f : ℕ → Walked) (g : StepState → Walked) → Numbered v → ((k : ℕ) → (f k).stopped ≡ k) → ((p : StepState) → Over (g p).stopped)
    → Over (on_outcome v f g).stopped
tried_over (done p) f g n a b = b p
tried_over (stops k) f g n a b = subst Over (sym (a k)) (over_one k n)

settled_over : (b : Bool) (l : ℕ) (last : Walked) (go : ℕ → Walked) → last.stopped ≡ 0 → ((i : ℕ) → Over (go i).stopped) → Over (on_settled b l last go).stopped
settled_over false l last go a b = b l
settled_over true zero last go a b = subst Over (sym a) tt
settled_over true (suc l) last go a b = b l

walk_over : (C : ℕ) (u r : List Change) (l : ℕ) (w : Waiting) (s : StepState) → Over (walk C l w u r s).stopped
unfolding walk
walk_over C [] r l w s = tt
walk_over C (x ∷ u) r l w s =
    tried_over (undoing C x s) _ _ (numbered C x s) (λ k. refl)
    (λ p. settled_over (settled (passing x w)) l _ _ refl (λ i. walk_over C u (turn x ∷ r) i (passing x w) p))

-- ---- one unit
one_out : (k : ℕ) (b : Bool) (s : State) → cond (eqb k 0) (behind_number (number_of 0 b) (answered 1 0 0 s)) (answered k 0 0 s) ≡ answered (number_of k b) 0 0 s
one_out zero true s = refl
one_out zero false s = refl
one_out (suc k) b s = rw (ne_eqb (suc k) 0 (λ e. omega arith))

-- its outcome is that of its walk
pub redo-one : (C : ℕ) (s : State) → redo_out C 1 s ≡ out_of false (redo_walk C s) s.log.level
unfolding redo_out
redo-one C s = one_out (redo_walk C s).stopped (redo_walk C s).reached.undone (redone_state (redo_walk C s) s.log.level)

-- where its walk ends
pub redone : {F : Format} {l₀ : Lent} {r : EditAnswer} {t : List ℕ} → Ends F l₀ false (redo_walk (length l₀.text) (state_of catalogue F l₀)) r t → Redone F l₀ r t
redone {F} {l₀} e = record { ready = e.ready; out = redo-one (length l₀.text) (state_of catalogue F l₀) ∙ e.out; unmoved = e.unmoved }

-- ---- a unit and those after it
-- a 1 before them changes nothing
behind-one : (o : Outcome State) → behind_number 1 o ≡ o
behind-one (refused k) = refl
behind-one (answered k i j s) = refl

-- the numbers of two before them, as one
behind-behind : (a b : ℕ) (o : Outcome State) → b ≤ 1 → behind_number a (behind_number b o) ≡ behind_number (cond (eqb a 0 && eqb b 1) 0 b) o
behind-behind a b (refused k) h = refl
behind-behind a zero (answered k i j s) h =
    by_test _ (eqb k 1) (λ e. by_test _ (eqb a 0) (λ f. rw (e, f)) (λ f. rw (e, f))) (λ e. by_test _ (eqb a 0) (λ f. rw (e, f) (rw e)) (λ f. rw (e, f)))
behind-behind a (suc zero) (answered k i j s) h = by_test _ (eqb a 0) (λ f. rw f) (λ f. rw f)
behind-behind a (suc (suc b)) (answered k i j s) h = absurd (omega arith)

-- the last answers 1
behind_last : (n : ℕ) (s : State) → n ≤ 1 → behind_number n (answered 1 0 0 s) ≡ answered n 0 0 s
behind_last zero s h = refl
behind_last (suc zero) s h = refl
behind_last (suc (suc n)) s h = absurd (omega arith)

-- the number of a unit that no stop ended is at most 1
number_on : (k : ℕ) (b : Bool) → Over k → number_of k b ≤ 1 → k ≡ 0
number_on zero b o h = refl
number_on (suc k) b o h = absurd (omega arith)

-- over 1 it is a stop's
number_stop : (k : ℕ) (b : Bool) → 1 < number_of k b → (k ≡ 0 → ⊥) × (number_of k b ≡ k)
number_stop zero true h = absurd (omega arith)
number_stop zero false h = absurd (omega arith)
number_stop (suc k) b h = ((λ e. omega arith), refl)

module _ (C : ℕ) (s : State) (j : ℕ) (s' : State) (e : redo_out C 1 s ≡ answered j 0 0 s') where
  abbrev w : Walked
  w = redo_walk C s

  -- the unit's number, and the state behind it
  parts : out_of false w s.log.level ≡ answered j 0 0 s'
  parts = sym (redo-one C s) ∙ e

  number : number_of w.stopped w.reached.undone ≡ j
  number = let f = parts in cc

  there : redone_state w s.log.level ≡ s'
  there = let f = parts in cc

  -- no stop: the others go on from there
  step_on : j ≤ 1 → (n : ℕ) → redo_out C (suc n) s ≡ behind_number j (redo_out C n s')
  unfolding redo_out
  step_on h n =
      let z = number_on w.stopped w.reached.undone (walk_over C s.log.redo s.log.undo 0 (owed 0) (step_state_of s)) (omega (arith, number)) in
      let k : number_of 0 w.reached.undone ≡ j = ap (λ (a : ℕ). number_of a w.reached.undone) (sym z) ∙ number in
      ap (λ (b : Bool). cond b (behind_number (number_of 0 w.reached.undone) (redo_out C n (redone_state w s.log.level)))
      (answered w.stopped 0 0 (redone_state w s.log.level))) (eq-eqb w.stopped 0 z)
      ∙ ap₂ (λ (a : ℕ) (b : State). behind_number a (redo_out C n b)) k there

  -- a stop ends them all
  step_stop : 1 < j → (n : ℕ) → redo_out C (suc n) s ≡ answered j 0 0 s'
  unfolding redo_out
  step_stop h n =
      let z = number_stop w.stopped w.reached.undone (omega (arith, number)) in
      ap (λ (b : Bool). cond b (behind_number (number_of 0 w.reached.undone) (redo_out C n (redone_state w s.log.level)))
      (answered w.stopped 0 0 (redone_state w s.log.level))) (ne_eqb w.stopped 0 z.0)
      ∙ ap₂ (λ (a : ℕ) (b : State). answered a 0 0 b) (sym z.1 ∙ number) there

-- no record is left to redo
none_left : (C n : ℕ) (t : List ℕ) (c : ℕ) (u : List Change) (v : ℕ)
    → redo_out C n (record { text = t; cursor = c; log = record { undo = u; redo = []; level = v } }) ≡ answered 1 0 0
    (record { text = t; cursor = c; log = record { undo = u; redo = []; level = v } })
unfolding redo_out walk
none_left C zero t c u v = refl
none_left C (suc n) t c u v = ap (behind_number 1) (none_left C n t c u v)

redo_none : (C n : ℕ) (s : State) → s.log.redo ≡ [] → redo_out C n s ≡ answered 1 0 0 s
redo_none C n s e =
    let f : s ≡ emptied = ap (λ (r : List Change). state_at (step_state_of s) (record { undo = s.log.undo; redo = r; level = s.log.level })) e in
    ap (redo_out C n) f ∙ none_left C n s.text s.cursor s.log.undo s.log.level ∙ ap (answered 1 0 0) (sym f)
  where
    emptied : State
    emptied = state_at (step_state_of s) (record { undo = s.log.undo; redo = []; level = s.log.level })

-- no unit is left
redo-zero : (C : ℕ) (s : State) → redo_out C 0 s ≡ answered 1 0 0 s
unfolding redo_out
redo-zero C s = refl

-- ---- n units that are to be redone, left of them still to do
pub record Redoing (F : Format) (l₀ : Lent) (n : ℕ) (t : List ℕ) (a : Line) (g : Log) (number left : ℕ) : Type 0 where
  pub ready : Ready F (lent t l₀.records l₀.texts a g)
  pub text : length t ≡ length l₀.text
  pub low : number ≤ 1
  pub same : redo_out (length l₀.text) n (state_of catalogue F l₀) ≡ behind_number number
      (redo_out (length l₀.text) left (state_of catalogue F (lent t l₀.records l₀.texts a g)))
  pub unmoved : Unmoved l₀.log.redo.records g.redo.records l₀.text t

-- at their beginning
pub redoing_first : {F : Format} {l₀ : Lent} → Ready F l₀ → (n : ℕ) → Redoing F l₀ n l₀.text l₀.line l₀.log 1 n
redoing_first h n = record { ready = h; text = refl; low = omega arith; same = sym (behind-one _); unmoved = unmoved-first }

module _ {F : Format} {l₀ : Lent} {n : ℕ} {t : List ℕ} {a : Line} {g : Log} {number left : ℕ} (k : Redoing F l₀ n t a g number left) where
  abbrev l : Lent
  l = lent t l₀.records l₀.texts a g

  abbrev now : State
  now = state_of catalogue F l

  -- no unit is left; no record is left to redo
  pub units_done : left ≡ 0 → redo_out (length l₀.text) left now ≡ answered 1 0 0 now
  units_done e = ap (λ (i : ℕ). redo_out (length l₀.text) i now) e ∙ redo-zero (length l₀.text) now

  pub records_done : g.redo.records ≡ 0 → redo_out (length l₀.text) left now ≡ answered 1 0 0 now
  records_done e = redo_none (length l₀.text) left now (none_next k.ready e)

  pub redo-ended : redo_out (length l₀.text) left now ≡ answered 1 0 0 now → {r : EditAnswer} → r ≡ says number a g
      → Edited F l₀ (redo_out (length l₀.text) n (state_of catalogue F l₀)) r t l₀.records l₀.texts
  redo-ended last {r} q =
      subst (λ (o : Outcome State). Edited F l₀ o r t l₀.records l₀.texts)
      (sym (k.same ∙ ap (behind_number number) last ∙ behind_last number now k.low))
      (subst (λ (b : EditAnswer). Edited F l₀ (answered number 0 0 now) b t l₀.records l₀.texts) (sym q)
      (answers_as F l₀ t (says number a g) refl k.ready))

  -- a unit is redone: j is the number of both together
  module _ (h : 0 < left) {b : EditAnswer} {t' : List ℕ} (d : Redone F l b t') {j : ℕ} (e : j ≡ cond (eqb number 0 && eqb b.number 1) 0 b.number) where
    abbrev l' : Lent
    l' = lent t' l₀.records l₀.texts b.line b.log

    one : redo_out (length l₀.text) 1 (state_of catalogue F l) ≡ answered b.number 0 0 (state_of catalogue F l')
    one = ap (λ (i : ℕ). redo_out i 1 (state_of catalogue F l)) (sym k.text) ∙ d.out

    taken : left ≡ suc (left - 1)
    taken = omega arith

    low_number : j ≤ 1 → b.number ≤ 1
    low_number i =
        by_test _ (eqb number 0 && eqb b.number 1)
        (λ f. omega (arith, eqb-true b.number 1 (and_both (eqb number 0) (eqb b.number 1) f).1))
        (λ f. omega (arith, rw f at e))

    -- the others are left
    pub redoing_next : length t' ≡ length t → j ≤ 1 → Redoing F l₀ n t' b.line b.log j (left - 1)
    redoing_next i y =
        record {
          ready = d.ready;
          text = i ∙ k.text;
          low = y;
          same =
              k.same
              ∙ ap (behind_number number)
              (ap (λ (m : ℕ). redo_out (length l₀.text) m (state_of catalogue F l)) taken
              ∙ step_on (length l₀.text) (state_of catalogue F l) b.number (state_of catalogue F l') one (low_number y) (left - 1))
              ∙ behind-behind number b.number (redo_out (length l₀.text) (left - 1) (state_of catalogue F l')) (low_number y)
              ∙ ap (λ (m : ℕ). behind_number m (redo_out (length l₀.text) (left - 1) (state_of catalogue F l'))) (sym e);
          unmoved = unmoved-both k.unmoved d.unmoved;
        }

    -- a stop ends them
    pub redo-stopped : 1 < j → {r : EditAnswer} → r ≡ says j b.line b.log
        → Edited F l₀ (redo_out (length l₀.text) n (state_of catalogue F l₀)) r t' l₀.records l₀.texts
    redo-stopped y {r} q =
        subst (λ (o : Outcome State). Edited F l₀ o r t' l₀.records l₀.texts)
        (sym
        (k.same
        ∙ ap (behind_number number)
        (ap (λ (m : ℕ). redo_out (length l₀.text) m (state_of catalogue F l)) taken
        ∙ step_stop (length l₀.text) (state_of catalogue F l) b.number (state_of catalogue F l') one high (left - 1))
        ∙ ap (λ (m : ℕ). answered m 0 0 (state_of catalogue F l')) (sym e)))
        (subst (λ (c : EditAnswer). Edited F l₀ (answered j 0 0 (state_of catalogue F l')) c t' l₀.records l₀.texts) (sym q)
        (answers_as F l₀ t' (says j b.line b.log) refl d.ready))
      where
        high : 1 < b.number
        high = by_test _ (eqb number 0 && eqb b.number 1) (λ f. absurd (omega (arith, rw f at e))) (λ f. omega (arith, rw f at e))
