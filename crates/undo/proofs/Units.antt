-- Units undone or redone: a walk that counts the Ends and the Begins that it passes. Assumes nothing.
use Prim.Native.Nat.{ℕ, suc, ◌+◌, ◌-◌, ◌≤◌, ◌<◌}
use native.Mathlib.Omega.{arith}
use mathlib.Core.Path.{◌≡◌, refl, sym, ap, ap₂, ◌∙◌}
use mathlib.Core.Bool.{Bool, true, false}
use mathlib.Core.List.{List, [], ◌∷◌}
use lib.Dec.{eqb}
use lib.ListN.{length}
use borrow.Author.Tests.{eqb-true, eq-eqb}
use Rattle.lists.proofs.Bools.{by_test, never}
use Rattle.std.specs.Prelude.{Option, None, Some}
use Rattle.std.proofs.lemmas.Option.{none-some}
use Rattle.checks.specs.declared.Refused.{Refused}
use Rattle.repertoire.specs.Repertoire.{catalogue}
use Rattle.log_model.specs.Change.{Change, turn}
use Rattle.formats.specs.declared.Format.{Format}
use Rattle.formats.specs.Formats.{records_max}
use Rattle.log_state.specs.declared.Log.{Log}
use Rattle.edit.specs.Plan.{State}
use Rattle.edit.specs.Calls.{Lent, lent, state_of, says, Ready}
use Rattle.edit.specs.declared.EditAnswer.{EditAnswer}
use Rattle.undo_step.specs.declared.Step.{Step}
use Rattle.undo_step.specs.UndoStep.{StepState, done, stop_number, undoing}
use Rattle.undo.specs.declared.Taken.{Taken}
use Rattle.undo.specs.Undo.{Waiting, owed, passing, Walked, walk, number_of, undo_walk}
use Rattle.undo.specs.Steps.{begins_in, ends_in, step_state_by, line_of, from_of, to_of, PassesOne}
use Rattle.undo.proofs.Seams.{used_of}
use Rattle.undo.proofs.Counts.{Waits, settles, unsettled, one_of, counts_back}
use Rattle.undo.proofs.Walks.{walked, walk_end, walk_stop, walk_on, walk_last, walk-next, Come, come_first, Ends, ended}
use Rattle.undo.proofs.Walks.{stopped_there, stop_ended, goes, come_next, falls, from_there, to_there, reached_there, tried_there}

-- ---- a walk that is to come to W: n units more are to be done after this one
pub record Walking (F : Format) (l₀ : Lent) (back : Bool) (W : Walked) (t : List ℕ) (s : Step) (g : Log) (n ends begins : ℕ) : Type 0 where
  pub waiting : Waiting
  pub come : Come F l₀ back t s g
  pub waits : Waits waiting ends begins
  pub few : ends + begins + used_of back g ≤ records_max
  pub same :
      walk (length l₀.text) n waiting (from_of back (state_of catalogue F (lent t l₀.records l₀.texts (line_of s) g)).log)
      (to_of back (state_of catalogue F (lent t l₀.records l₀.texts (line_of s) g)).log)
      (step_state_by (state_of catalogue F (lent t l₀.records l₀.texts (line_of s) g)) s.undone)
      ≡ W

-- the list that is walked over is no longer than its buffer
used-few : (back : Bool) {F : Format} {l : Lent} → Ready F l → used_of back l.log ≤ records_max
used-few true h = omega (arith, h.log.hold.room, h.log.records, h.log.fit.records)
used-few false h = omega (arith, h.log.hold.room, h.log.records, h.log.fit.records)

-- at its beginning nothing was passed
pub walking_first : (back : Bool) (n : ℕ) {F : Format} {l₀ : Lent} → Ready F l₀
    → Walking F l₀ back (walk (length l₀.text) n (owed 0) (from_of back (state_of catalogue F l₀).log) (to_of back (state_of catalogue F l₀).log)
    (step_state_by (state_of catalogue F l₀) false))
    l₀.text (record { stop = None; len = l₀.line.len; cursor = l₀.line.cursor; undone = false }) l₀.log n 0 0
walking_first back n h = record { waiting = owed 0; come = come_first h; waits = refl; few = omega (arith, used-few back h); same = refl }

module _ {F : Format} {l₀ : Lent} {back : Bool} {W : Walked} {t : List ℕ} {s : Step} {g : Log} {n ends begins : ℕ} (k : Walking F l₀ back W t s g n ends begins) where
  abbrev now : State
  now = state_of catalogue F (lent t l₀.records l₀.texts (line_of s) g)

  -- no record is left
  pub walked_all : from_of back now.log ≡ [] → {r : EditAnswer} → r ≡ says (number_of (stop_number s.stop) s.undone) (line_of s) g → Ends F l₀ back W r t
  walked_all e q =
      ended back k.come s.undone 0
      (sym k.same ∙ ap (λ (f : List Change). walk (length l₀.text) n k.waiting f (to_of back now.log) (step_state_by now s.undone)) e
      ∙ walk_end (length l₀.text) n k.waiting (to_of back now.log) (step_state_by now s.undone)
      ∙ ap (λ (f : List Change). walked f (to_of back now.log) (step_state_by now s.undone) 0) (sym e))
      (q ∙ ap (λ (i : ℕ). says (number_of i s.undone) (line_of s) g) (ap stop_number k.come.on))

  module _ {x : Change} {f : List Change} (e : from_of back now.log ≡ x ∷ f) (p : Taken) (t' : List ℕ)
      (o : PassesOne F (lent t l₀.records l₀.texts (line_of s) g) back s.undone p t') where
    -- the walk is at that record
    at_record : W ≡ walk (length l₀.text) n k.waiting (x ∷ f) (to_of back now.log) (step_state_by now s.undone)
    at_record = sym k.same ∙ ap (λ (a : List Change). walk (length l₀.text) n k.waiting a (to_of back now.log) (step_state_by now s.undone)) e

    -- a record stops it
    pub walked_stop : (p.step.stop ≡ None → ⊥) → {r : EditAnswer} → r ≡ says (number_of (stop_number p.step.stop) p.step.undone) (line_of p.step) p.log → Ends F l₀ back W r t'
    walked_stop z q =
        stop_ended back k.come e p t' o z
        (at_record
        ∙ walk_stop (length l₀.text) n k.waiting (to_of back now.log) (step_state_by now s.undone) x f (stop_number p.step.stop) (stopped_there back k.come e p t' o z))
        q

    module _ (i : length t' ≡ length t) (z : p.step.stop ≡ None) where
      abbrev next : State
      next = state_of catalogue F (lent t' l₀.records l₀.texts (line_of p.step) p.log)

      abbrev passed : Waiting
      passed = passing x k.waiting

      -- it was passed
      come : Come F l₀ back t' p.step p.log
      come = come_next back k.come e p t' o i z

      tried : undoing (length l₀.text) x (step_state_by now s.undone) ≡ done (goes back k.come e p t' o i z).reached
      tried = tried_there back k.come e p t' o i z

      -- what is left of the walk from there
      rest : (m : ℕ)
          → walk (length l₀.text) m passed f (turn x ∷ to_of back now.log) (goes back k.come e p t' o i z).reached
          ≡ walk (length l₀.text) m passed (from_of back next.log) (to_of back next.log) (step_state_by next p.step.undone)
      rest m =
          sym
          (ap₂ (λ (a b : List Change). walk (length l₀.text) m passed a b (step_state_by next p.step.undone))
          (from_there back k.come e p t' o i z) (to_there back k.come e p t' o i z)
          ∙ ap (walk (length l₀.text) m passed f (turn x ∷ to_of back now.log)) (reached_there back k.come e p t' o i z))

      module _ (ends' begins' : ℕ) (c : Waits passed ends' begins') (m : ends' + begins' ≤ ends + begins + 1) where
        -- at most one End or Begin more, and a byte less
        fewer : ends' + begins' + used_of back p.log ≤ records_max
        fewer = omega (arith, k.few, falls back k.come e p t' o i z)

        -- the unit goes on
        pub walking_on : begins' < ends' → Walking F l₀ back W t' p.step p.log n ends' begins'
        walking_on u =
            record {
              waiting = passed;
              come = come;
              waits = c;
              few = fewer;
              same = sym (at_record ∙ walk_on (length l₀.text) n k.waiting (to_of back now.log) (step_state_by now s.undone) x f _ tried
                  (unsettled passed ends' begins' c u) ∙ rest n);
            }

        -- it is done, and another begins
        pub walking_next : ends' ≤ begins' → {m : ℕ} → n ≡ suc m → Walking F l₀ back W t' p.step p.log m ends' begins'
        walking_next u {m} v =
            record {
              waiting = passed;
              come = come;
              waits = c;
              few = fewer;
              same =
                  sym
                  (at_record ∙ ap (λ (a : ℕ). walk (length l₀.text) a k.waiting (x ∷ f) (to_of back now.log) (step_state_by now s.undone)) v
                  ∙ walk-next (length l₀.text) k.waiting (to_of back now.log) (step_state_by now s.undone) x f _ tried (settles passed ends' begins' c u) m ∙ rest m);
            }

        -- it is done, and was the last
        pub walked_last : ends' ≤ begins' → n ≡ 0 → {r : EditAnswer} → r ≡ says (number_of (stop_number p.step.stop) p.step.undone) (line_of p.step) p.log → Ends F l₀ back W r t'
        walked_last u v q =
            ended back come p.step.undone 0
            (at_record ∙ ap (λ (a : ℕ). walk (length l₀.text) a k.waiting (x ∷ f) (to_of back now.log) (step_state_by now s.undone)) v
            ∙ walk_last (length l₀.text) k.waiting (to_of back now.log) (step_state_by now s.undone) x f _ tried (settles passed ends' begins' c u)
            ∙ sym
            (ap₂ (λ (a b : List Change). walked a b (step_state_by next p.step.undone) 0) (from_there back k.come e p t' o i z) (to_there back k.come e p t' o i z)
            ∙ ap (λ (a : StepState). walked f (turn x ∷ to_of back now.log) a 0) (reached_there back k.come e p t' o i z)))
            (q ∙ ap (λ (a : ℕ). says (number_of a p.step.undone) (line_of p.step) p.log) (ap stop_number z))

-- ---- one unit that is the newest record alone: it is no End
module _ {F : Format} {l : Lent} (h : Ready F l) {x : Change} {u : List Change} (e : (state_of catalogue F l).log.undo ≡ x ∷ u) (p : Taken) (t' : List ℕ)
    (o : PassesOne F l true false p t') (i : length t' ≡ length l.text) where
  pub newest-ended : {n : ℕ} → n ≤ 1 → ends_in p.kind ≡ 0 → {r : EditAnswer}
      → r ≡ says (number_of (stop_number p.step.stop) p.step.undone) (line_of p.step) p.log
      → Ends F l true (undo_walk (length l.text) n (state_of catalogue F l)) r t'
  newest-ended {n} m d q =
      let k = walking_first true (n - 1) h in
      none_or_some p.step.stop
      (λ z.
      walked_last k e p t' o i z (0 + ends_in p.kind) (0 + begins_in p.kind)
      (counts_back p.kind refl refl F x k.waiting 0 0 k.waits (o x u e).0)
      (omega (arith, one_of p.kind {i = begins_in p.kind} {j = ends_in p.kind} refl refl))
      (omega (arith, d)) (omega arith) q)
      (λ z. walked_stop k e p t' o z q)
    where
      none_or_some : {T : Type 0} (a : Option Refused) → (a ≡ None → T) → ((a ≡ None → ⊥) → T) → T
      none_or_some None f g = f refl
      none_or_some (Some why) f g = g (λ z. none-some why (sym z))
