-- A walk over the records of a list, undone or redone one after the other: what is left of it, and what it has come to. Assumes nothing.
use Prim.Native.Nat.{ℕ, zero, suc, ◌<◌}
use native.Mathlib.Omega.{arith}
use mathlib.Core.Path.{◌≡◌, refl, sym, ap, ap₂, subst, ◌∙◌}
use mathlib.Core.Bool.{Bool, true, false, cond, not}
use mathlib.Core.List.{List, [], ◌∷◌}
use lib.Dec.{eqb}
use lib.ListN.{length}
use borrow.Author.Tests.{eqb-true}
use Rattle.lists.proofs.Bools.{never, and_both}
use Rattle.repertoire.specs.Repertoire.{catalogue}
use Rattle.std.specs.Prelude.{Option, None, Some}
use Rattle.checks.specs.declared.Refused.{Refused}
use Rattle.checks.specs.Refused.{number_of as number_of_refused}
use Rattle.checks.proofs.Refusals.{never-passes}
use Rattle.checks.specs.Outcome.{Outcome, answered}
use Rattle.log_model.specs.Change.{Change, turn}
use Rattle.formats.specs.declared.Format.{Format}
use Rattle.log_model.specs.Groups as groups
use Rattle.log_state.specs.declared.Log.{Log}
use Rattle.log_state.specs.Calls as log
use Rattle.edit.specs.Plan.{State}
use Rattle.edit.specs.Calls.{Lent, lent, state_of, says, Edited, Ready}
use Rattle.edit.specs.declared.EditAnswer.{EditAnswer}
use Rattle.edit.proofs.Answers.{log-kept, length-kept, state-kept}
use Rattle.undo_step.specs.declared.Step.{Step}
use Rattle.undo_step.specs.UndoStep.{StepState, done, stops, undoing, stop_number}
use Rattle.log_records.specs.Walks.{SizesOf}
use Rattle.undo.specs.declared.Taken.{Taken}
use Rattle.undo.specs.Undo.{Waiting, passing, settled, Walked, walk, number_of}
use Rattle.undo.specs.Steps.{step_state_by, line_of, state_at, from_of, to_of, log_by, pass_log, PassesOne, Unmoved}
use Rattle.undo.proofs.Seams.{sizes-left, used_of, used_falls}
use Rattle.undo.proofs.Passes.{Went, Stopped, fine, went, stopped}

-- ---- a walk at a record
abbrev pub walked : List Change → List Change → StepState → ℕ → Walked
walked f g s k = record { from = f; to = g; reached = s; stopped = k }

module _ (C l : ℕ) (w : Waiting) (r : List Change) (s : StepState) where
  -- no record is left
  pub walk_end : walk C l w [] r s ≡ walked [] r s 0
  unfolding walk
  walk_end = refl

  module _ (x : Change) (u : List Change) where
    -- a record stops it
    pub walk_stop : (k : ℕ) → undoing C x s ≡ stops k → walk C l w (x ∷ u) r s ≡ walked (x ∷ u) r s k
    unfolding walk
    walk_stop k e = rw e

    module _ (p : StepState) (e : undoing C x s ≡ done p) where
      -- this unit goes on
      pub walk_on : settled (passing x w) ≡ false → walk C l w (x ∷ u) r s ≡ walk C l (passing x w) u (turn x ∷ r) p
      unfolding walk
      walk_on f = rw (e, f)

module _ (C : ℕ) (w : Waiting) (r : List Change) (s : StepState) (x : Change) (u : List Change) (p : StepState)
    (e : undoing C x s ≡ done p) (f : settled (passing x w) ≡ true) where
  -- it was the last
  pub walk_last : walk C 0 w (x ∷ u) r s ≡ walked u (turn x ∷ r) p 0
  unfolding walk
  walk_last = rw (e, f)

  -- another begins
  pub walk-next : (l : ℕ) → walk C (suc l) w (x ∷ u) r s ≡ walk C l (passing x w) u (turn x ∷ r) p
  unfolding walk
  walk-next l = rw (e, f)

-- the number of a walk that a record stopped
stopped_number : (o : Option Refused) (a b : Bool) → (o ≡ None → ⊥) → number_of (stop_number o) a ≡ number_of (stop_number o) b
stopped_number None a b z = absurd (z refl)
stopped_number (Some why) a b z = over (number_of_refused why) (never-passes why)
  where
    over : (k : ℕ) → (k ≡ 0 → ⊥) → number_of k a ≡ number_of k b
    over zero y = absurd (y refl)
    over (suc k) y = refl

-- ---- the two lists of a log, and its level, by the direction of a walk
from_by : (back : Bool) (f g : List Change) (n : ℕ) → from_of back (log_by back f g n) ≡ f
from_by true f g n = refl
from_by false f g n = refl

to_by : (back : Bool) (f g : List Change) (n : ℕ) → to_of back (log_by back f g n) ≡ g
to_by true f g n = refl
to_by false f g n = refl

level_by : (back : Bool) (f g : List Change) (n : ℕ) → (log_by back f g n).level ≡ n
level_by true f g n = refl
level_by false f g n = refl

lists_of : (back : Bool) (v : groups.Log) → log_by back (from_of back v) (to_of back v) v.level ≡ v
lists_of true v = refl
lists_of false v = refl

-- ---- where a walk that was lent l₀ has come to
pub record Come (F : Format) (l₀ : Lent) (back : Bool) (t : List ℕ) (s : Step) (g : Log) : Type 0 where
  pub ready : Ready F (lent t l₀.records l₀.texts (line_of s) g)
  pub on : s.stop ≡ None
  pub text : length t ≡ length l₀.text
  pub level : g.level ≡ l₀.log.level
  pub unmoved : Unmoved (used_of back l₀.log) (used_of back g) l₀.text t

-- at its beginning
pub unmoved-first : {u : ℕ} {t : List ℕ} → Unmoved u u t t
unmoved-first = record { fewer = omega arith; same = λ e. refl }

-- a walk, and one that goes on from there
pub unmoved-both : {u₀ u u' : ℕ} {t₀ t t' : List ℕ} → Unmoved u₀ u t₀ t → Unmoved u u' t t' → Unmoved u₀ u' t₀ t'
unmoved-both k i =
    record {
      fewer = omega (arith, k.fewer, i.fewer);
      same = λ e. i.same (omega (arith, k.fewer, i.fewer)) ∙ k.same (omega (arith, k.fewer, i.fewer));
    }

pub come_first : {F : Format} {l₀ : Lent} {back : Bool} → Ready F l₀
    → Come F l₀ back l₀.text (record { stop = None; len = l₀.line.len; cursor = l₀.line.cursor; undone = false }) l₀.log
come_first h = record { ready = h; on = refl; text = refl; level = refl; unmoved = unmoved-first }

-- what a walk has come to is its outcome
abbrev pub out_of : Bool → Walked → ℕ → Outcome State
out_of back w level = answered (number_of w.stopped w.reached.undone) 0 0 (state_at w.reached (log_by back w.from w.to level))

-- a walk that was to come to W is at its end: its answer is r, and the text's buffer t
pub record Ends (F : Format) (l₀ : Lent) (back : Bool) (W : Walked) (r : EditAnswer) (t : List ℕ) : Type 0 where
  pub plain : r ≡ says r.number r.line r.log
  pub ready : Ready F (lent t l₀.records l₀.texts r.line r.log)
  pub out : out_of back W l₀.log.level ≡ answered r.number 0 0 (state_of catalogue F (lent t l₀.records l₀.texts r.line r.log))
  pub unmoved : Unmoved (used_of back l₀.log) (used_of back r.log) l₀.text t

-- the answer and the bytes of a text and a log that the checks pass
pub answers_as : (F : Format) (l₀ : Lent) (t : List ℕ) (r : EditAnswer) → r ≡ says r.number r.line r.log → Ready F (lent t l₀.records l₀.texts r.line r.log)
    → Edited F l₀ (answered r.number 0 0 (state_of catalogue F (lent t l₀.records l₀.texts r.line r.log))) r t l₀.records l₀.texts
answers_as F l₀ t r q h =
    record {
      answer =
          q
          ∙ ap₂ (λ (n : ℕ) (x : Log). says r.number (record { len = n; cursor = r.line.cursor }) x)
          (sym (length-kept F (lent t l₀.records l₀.texts r.line r.log) h))
          (log-kept F (lent t l₀.records l₀.texts r.line r.log) h);
      bytes = state-kept F (lent t l₀.records l₀.texts r.line r.log) h r.line.cursor;
    }

-- so an end is an answer of the contract
pub edited : {F : Format} {l₀ : Lent} {back : Bool} {W : Walked} {r : EditAnswer} {t : List ℕ} → Ends F l₀ back W r t
    → Edited F l₀ (out_of back W l₀.log.level) r t l₀.records l₀.texts
edited {F} {l₀} {back} {W} {r} {t} e = subst (λ (o : Outcome State). Edited F l₀ o r t l₀.records l₀.texts) (sym e.out) (answers_as F l₀ t r e.plain e.ready)

-- where the log is as it was, not a byte of the text's buffer is changed
pub still : {F : Format} {l₀ : Lent} {back : Bool} {W : Walked} {r : EditAnswer} {t : List ℕ} → Ends F l₀ back W r t → r.log ≡ l₀.log → t ≡ l₀.text
still {back = back} e i = e.unmoved.same (ap (used_of back) i)

module _ (back : Bool) {F : Format} {l₀ : Lent} {t : List ℕ} {s : Step} {g : Log} (c : Come F l₀ back t s g) where
  abbrev l : Lent
  l = lent t l₀.records l₀.texts (line_of s) g

  abbrev st : State
  st = state_of catalogue F l

  -- the walk is at its end: k is the number that stopped it, and b says whether a record of a text was undone
  pub ended : (b : Bool) (k : ℕ) {W : Walked} {r : EditAnswer} → W ≡ walked (from_of back st.log) (to_of back st.log) (step_state_by st b) k
      → r ≡ says (number_of k b) (line_of s) g → Ends F l₀ back W r t
  ended b k e q =
      record {
        plain = q ∙ ap (λ (a : EditAnswer). says a.number a.line a.log) (sym q);
        ready = subst (λ (a : EditAnswer). Ready F (lent t l₀.records l₀.texts a.line a.log)) (sym q) c.ready;
        out =
            ap (λ (w : Walked). out_of back w l₀.log.level) e
            ∙ ap (λ (v : groups.Log). answered (number_of k b) 0 0 (state_at (step_state_by st b) v))
            (ap (log_by back (from_of back st.log) (to_of back st.log)) (sym c.level) ∙ lists_of back st.log)
            ∙ ap (λ (a : EditAnswer). answered a.number 0 0 (state_of catalogue F (lent t l₀.records l₀.texts a.line a.log))) (sym q);
        unmoved = subst (λ (a : EditAnswer). Unmoved (used_of back l₀.log) (used_of back a.log) l₀.text t) (sym q) c.unmoved;
      }

  -- ---- a record passed
  module _ {x : Change} {f : List Change} (e : from_of back st.log ≡ x ∷ f) (q : Taken) (t' : List ℕ) (p : PassesOne F l back s.undone q t') where
    abbrev w : groups.Log
    w = pass_log back x f st.log

    -- it was stopped, or it was undone
    is-stopped : (q.step.stop ≡ None → ⊥) → Stopped F l s.undone x q.step q.log t'
    is-stopped z = stopped F l s.undone x w q.step q.log t' (p x f e).1 z

    module _ (z : q.step.stop ≡ None → ⊥) where
      pub stopped_there : undoing (length l₀.text) x (step_state_by st s.undone) ≡ stops (stop_number q.step.stop)
      stopped_there = ap (λ (n : ℕ). undoing n x (step_state_by st s.undone)) (sym c.text) ∙ (is-stopped z).tried

      -- the walk ends before it
      pub stop_ended : {W : Walked} {r : EditAnswer} → W ≡ walked (x ∷ f) (to_of back st.log) (step_state_by st s.undone) (stop_number q.step.stop)
          → r ≡ says (number_of (stop_number q.step.stop) q.step.undone) (line_of q.step) q.log
          → Ends F l₀ back W r t'
      stop_ended {W} {r} y k =
          let i = is-stopped z in
          subst (Ends F l₀ back W r) (sym i.text)
          (ended s.undone (stop_number q.step.stop) (y ∙ ap (λ (a : List Change). walked a (to_of back st.log) (step_state_by st s.undone) (stop_number q.step.stop)) (sym e))
          (k ∙ ap (λ (a : ℕ). says a (line_of q.step) q.log) (stopped_number q.step.stop q.step.undone s.undone z)
          ∙ ap₂ (says (number_of (stop_number q.step.stop) s.undone)) i.line i.log))

    module _ (i : length t' ≡ length t) (z : q.step.stop ≡ None) where
      pub goes : Went F l s.undone x w q.step q.log t'
      goes = went F l s.undone x w q.step q.log t' c.ready (fine c.ready back e) (level_by back f (turn x ∷ to_of back st.log) g.level) i (p x f e).1 z

      -- its log
      pub goes_log : q.log ≡ log.log_of F w
      goes_log = log-kept F (lent t' l₀.records l₀.texts (line_of q.step) q.log) goes.ready ∙ ap (λ (a : State). log.log_of F a.log) goes.state

      -- its list has fewer bytes
      pub falls : used_of back q.log < used_of back g
      falls = used_falls back c.ready e goes_log

      -- the walk has come behind it
      pub come_next : Come F l₀ back t' q.step q.log
      come_next =
          record {
            ready = goes.ready;
            on = z;
            text = i ∙ c.text;
            level = ap (λ (a : Log). a.level) goes_log ∙ level_by back f (turn x ∷ to_of back st.log) g.level ∙ c.level;
            unmoved = record { fewer = omega (arith, falls, c.unmoved.fewer); same = λ j. absurd (omega (arith, falls, c.unmoved.fewer)) };
          }

      -- the lists and the state reached there
      abbrev there : State
      there = state_of catalogue F (lent t' l₀.records l₀.texts (line_of q.step) q.log)

      pub from_there : from_of back there.log ≡ f
      from_there = ap (λ (a : State). from_of back a.log) goes.state ∙ from_by back f (turn x ∷ to_of back st.log) g.level

      pub to_there : to_of back there.log ≡ turn x ∷ to_of back st.log
      to_there = ap (λ (a : State). to_of back a.log) goes.state ∙ to_by back f (turn x ∷ to_of back st.log) g.level

      pub reached_there : step_state_by there q.step.undone ≡ goes.reached
      reached_there = ap₂ (λ (a : State) (b : Bool). step_state_by a b) goes.state (ap (λ (a : Step). a.undone) goes.step)

      -- it was tried in a buffer of the same length
      pub tried_there : undoing (length l₀.text) x (step_state_by st s.undone) ≡ done goes.reached
      tried_there = ap (λ (n : ℕ). undoing n x (step_state_by st s.undone)) (sym c.text) ∙ goes.tried

-- the sizes that are written of the undo list are those of what is left of it
pub sizes-next : {F : Format} {l₀ : Lent} {t : List ℕ} {s : Step} {g : Log} (c : Come F l₀ true t s g) {x : Change} {f : List Change}
    (e : (state_of catalogue F (lent t l₀.records l₀.texts (line_of s) g)).log.undo ≡ x ∷ f) (q : Taken) (t' : List ℕ)
    (p : PassesOne F (lent t l₀.records l₀.texts (line_of s) g) true s.undone q t') (i : length t' ≡ length t) (z : q.step.stop ≡ None) (sizes : List ℕ)
    → SizesOf F sizes (state_of catalogue F (lent t l₀.records l₀.texts (line_of s) g)).log.undo
    → SizesOf F sizes (state_of catalogue F (lent t' l₀.records l₀.texts (line_of q.step) q.log)).log.undo
sizes-next {F} c e q t' p i z sizes y =
    subst (SizesOf F sizes) (sym (from_there true c e q t' p i z)) (sizes-left c.ready e sizes y)
