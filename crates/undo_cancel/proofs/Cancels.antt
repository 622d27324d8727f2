-- A group cancelled: its records undone down to the mark, then dropped. Assumes nothing.
use Prim.Native.Nat.{ℕ, zero, suc, ◌+◌, ◌-◌, ◌≤◌, ◌<◌}
use native.Mathlib.Omega.{arith}
use mathlib.Core.Path.{◌≡◌, refl, sym, ap, ap₂, subst, ◌∙◌}
use mathlib.Core.Bool.{Bool, true, false, cond}
use mathlib.Core.List.{List, [], ◌∷◌, map, reverse}
use lib.Dec.{eqb}
use lib.ListN.{length}
use borrow.Author.Tests.{eqb-true, eq-eqb, ne_eqb}
use Rattle.std.specs.Prelude.{Some, None}
use Rattle.std.proofs.lemmas.Option.{none-some, same_Some}
use Rattle.lists.proofs.Bools.{by_test, never}
use Rattle.repertoire.specs.Repertoire.{catalogue}
use Rattle.checks.specs.Outcome.{Outcome, answered}
use Rattle.log_model.specs.Change.{Change, begin, end, edit, turn}
use Rattle.formats.specs.declared.Format.{Format}
use Rattle.log_model.specs.Holds.{Holds}
use Rattle.log_model.proofs.Holds.{cleared}
use Rattle.log_state.specs.declared.Log.{Log}
use Rattle.log_state.proofs.Answers.{state, holds_state, holds_bytes}
use Rattle.edit.specs.Plan.{State}
use Rattle.edit.specs.Calls.{Lent, lent, state_of, says, Edited, Ready}
use Rattle.edit.specs.declared.EditAnswer.{EditAnswer}
use Rattle.edit.proofs.Answers.{length-kept, state-kept}
use Rattle.undo_step.specs.declared.Step.{Step}
use Rattle.undo_step.specs.UndoStep.{StepState, done, stops, stop_number, undoing}
use Rattle.undo.specs.declared.Taken.{Taken}
use Rattle.undo.specs.Undo.{Walked, number_of, step_state_of}
use Rattle.undo.specs.Steps.{step_state_by, line_of, PassesOne}
use Rattle.undo.proofs.Passes.{unnumbered}
use Rattle.undo.proofs.Seams.{holds}
use Rattle.undo.proofs.Walks.{walked, Come, come_first, out_of, edited, still, ended, stopped_there, stop_ended, goes, come_next}
use Rattle.undo.proofs.Walks.{from_there, to_there, reached_there, tried_there}
use Rattle.undo_cancel.specs.Cancel.{opens, walk_to, begins_down, cancel_out}
use Rattle.undo_cancel.specs.Open.{open_begins}

-- ---- a group that is open
-- its Begin is counted
begins_some : (m : ℕ) (u : List Change) → opens m u ≡ true → 0 < begins_down m u
unfolding opens begins_down
begins_some m [] e = never _ false e refl
begins_some m (begin ∷ u) e = go (eqb (length u) m)
  where
    go : (b : Bool) → 0 < cond b 1 (suc (begins_down m u))
    go true = omega arith
    go false = omega arith
begins_some m (end ∷ u) e = never _ false e refl
begins_some m (edit x ∷ u) e = begins_some m u e

-- it is one of the list's
pub opens-within : (m : ℕ) (u : List Change) → opens m u ≡ true → m < length u
unfolding opens
opens-within m [] e = never _ false e refl
opens-within m (begin ∷ u) e = go (opens-within m u) (eqb (length u) m) refl e
  where
    go : (opens m u ≡ true → m < length u) → (b : Bool) → eqb (length u) m ≡ b → cond b true (opens m u) ≡ true → m < suc (length u)
    go f true i j = omega (arith, eqb-true (length u) m i)
    go f false i j = omega (arith, f j)
opens-within m (end ∷ u) e = never _ false e refl
opens-within m (edit x ∷ u) e = omega (arith, opens-within m u e)

module _ (m : ℕ) (u : List Change) where
  -- found with the number of its Begins
  pub not_open : None ≡ open_begins m u → opens m u ≡ false
  unfolding open_begins
  not_open e = by_test (opens m u ≡ false) (opens m u) (λ f. absurd (none-some (begins_down m u) (rw f at e))) (λ f. f)

  module _ {n : ℕ} (e : Some n ≡ open_begins m u) where
    pub is_open : opens m u ≡ true
    unfolding open_begins
    is_open = by_test (opens m u ≡ true) (opens m u) (λ f. f) (λ f. absurd (none-some n (sym (rw f at e))))

    pub its_begins : n ≡ begins_down m u
    unfolding open_begins
    its_begins = same_Some n (begins_down m u) (e ∙ rw is_open)

-- ---- the outcome of a cancel
module _ (C m : ℕ) (s : State) where
  abbrev W : Walked
  W = walk_to C m s.log.undo s.log.redo (step_state_of s)

  -- it is not open; a stop; all are undone
  cancel-nothing : opens m s.log.undo ≡ false → cancel_out C m s ≡ answered 1 0 0 s
  unfolding cancel_out
  cancel-nothing e = rw e

  cancel-stopped : opens m s.log.undo ≡ true → (W.stopped ≡ 0 → ⊥) → cancel_out C m s ≡ out_of true W s.log.level
  unfolding cancel_out
  cancel-stopped e z = rw (e, ne_eqb W.stopped 0 z)

  cancel-done : opens m s.log.undo ≡ true → (u r : List Change) (p : StepState) → W ≡ walked u r p 0
      → cancel_out C m s ≡ answered 0 0 0 (record { text = p.text; cursor = p.cursor; log = record { undo = u; redo = []; level = s.log.level - begins_down m s.log.undo } })
  unfolding cancel_out
  cancel-done e u r p f = rw (e, f)

-- nothing is done where the group is not open
pub cancels_nothing : {F : Format} {l : Lent} (h : Ready F l) (m : ℕ) → opens m (state_of catalogue F l).log.undo ≡ false → {r : EditAnswer} → r ≡ says 1 l.line l.log
    → Edited F l (cancel_out (length l.text) m (state_of catalogue F l)) r l.text l.records l.texts
cancels_nothing {F} {l} h m e {r} q =
    subst (λ (o : Outcome State). Edited F l o r l.text l.records l.texts) (sym (cancel-nothing (length l.text) m (state_of catalogue F l) e))
    (edited (ended true (come_first h) false 0
    {W = walked (state_of catalogue F l).log.undo (state_of catalogue F l).log.redo (step_state_by (state_of catalogue F l) false) 0} refl q))

-- ---- records undone down to the mark m, n of them still to do
abbrev down_to : ℕ → ℕ → ℕ → List Change → List Change → StepState → Walked
down_to C m zero u r s = walked u r s 0
down_to C m (suc n) u r s = walk_to C m u r s

-- a record stops them
to_stop : (C m n : ℕ) (x : Change) (u r : List Change) (s : StepState) (k : ℕ) → 0 < n → undoing C x s ≡ stops k → down_to C m n (x ∷ u) r s ≡ walked (x ∷ u) r s k
unfolding walk_to
to_stop C m zero x u r s k h e = absurd (omega arith)
to_stop C m (suc n) x u r s k h e = rw e

-- a record is undone
to-next : (C m n : ℕ) (x : Change) (u r : List Change) (s p : StepState) → undoing C x s ≡ done p → length u ≡ m + n
    → down_to C m (suc n) (x ∷ u) r s ≡ down_to C m n u (turn x ∷ r) p
unfolding walk_to
to-next C m zero x u r s p e f = rw (e, eq-eqb (length u) m (omega arith))
to-next C m (suc n) x u r s p e f = rw (e, ne_eqb (length u) m (λ z. omega arith))

-- what is left of the walk is what the whole comes to
pub record Cancelling (F : Format) (l₀ : Lent) (m : ℕ) (t : List ℕ) (s : Step) (g : Log) (n : ℕ) : Type 0 where
  pub come : Come F l₀ true t s g
  pub count : length (state_of catalogue F (lent t l₀.records l₀.texts (line_of s) g)).log.undo ≡ m + n
  pub same :
      down_to (length l₀.text) m n (state_of catalogue F (lent t l₀.records l₀.texts (line_of s) g)).log.undo
      (state_of catalogue F (lent t l₀.records l₀.texts (line_of s) g)).log.redo
      (step_state_by (state_of catalogue F (lent t l₀.records l₀.texts (line_of s) g)) s.undone)
      ≡ walk_to (length l₀.text) m (state_of catalogue F l₀).log.undo (state_of catalogue F l₀).log.redo (step_state_of (state_of catalogue F l₀))

module _ {F : Format} {l₀ : Lent} (h : Ready F l₀) (m : ℕ) (o : opens m (state_of catalogue F l₀).log.undo ≡ true) where
  abbrev st : State
  st = state_of catalogue F l₀

  -- at its beginning
  pub cancelling_first : {n : ℕ} → n ≡ length st.log.undo → Cancelling F l₀ m l₀.text
      (record { stop = None; len = l₀.line.len; cursor = l₀.line.cursor; undone = false }) l₀.log (n - m)
  cancelling_first {n} e =
      record { come = come_first h; count = omega (arith, opens-within m st.log.undo o); same = go (n - m) (omega (arith, opens-within m st.log.undo o)) }
    where
      go : (k : ℕ) → 0 < k → down_to (length l₀.text) m k st.log.undo st.log.redo (step_state_of st)
          ≡ walk_to (length l₀.text) m st.log.undo st.log.redo (step_state_of st)
      go zero z = absurd (omega arith)
      go (suc k) z = refl

module _ {F : Format} {l₀ : Lent} {m : ℕ} {t : List ℕ} {s : Step} {g : Log} {n : ℕ} (k : Cancelling F l₀ m t s g n) where
  abbrev start : State
  start = state_of catalogue F l₀

  abbrev now : State
  now = state_of catalogue F (lent t l₀.records l₀.texts (line_of s) g)

  -- a record is left to undo
  pub cancel_more : 0 < n → (x : Change) × (f : List Change) × (now.log.undo ≡ x ∷ f)
  cancel_more h = go now.log.undo refl
    where
      go : (u : List Change) → now.log.undo ≡ u → (x : Change) × (f : List Change) × (now.log.undo ≡ x ∷ f)
      go [] e = absurd (omega (arith, k.count, ap length e))
      go (x ∷ f) e = (x, f, e)

  module _ (o : opens m start.log.undo ≡ true) (h : 0 < n) {x : Change} {f : List Change} (e : now.log.undo ≡ x ∷ f) (p : Taken) (t' : List ℕ)
      (q : PassesOne F (lent t l₀.records l₀.texts (line_of s) g) true s.undone p t') where
    at_record : walk_to (length l₀.text) m start.log.undo start.log.redo (step_state_of start) ≡ down_to (length l₀.text) m n (x ∷ f)
        now.log.redo (step_state_by now s.undone)
    at_record = sym k.same ∙ ap (λ (a : List Change). down_to (length l₀.text) m n a now.log.redo (step_state_by now s.undone)) e

    -- a record stops it
    pub cancel_stop : (p.step.stop ≡ None → ⊥) → {r : EditAnswer} → r ≡ says (number_of (stop_number p.step.stop) p.step.undone) (line_of p.step) p.log
        → Edited F l₀ (cancel_out (length l₀.text) m start) r t' l₀.records l₀.texts × (r.log ≡ l₀.log → t' ≡ l₀.text)
    cancel_stop z {r} y =
        let a = at_record ∙ to_stop (length l₀.text) m n x f now.log.redo (step_state_by now s.undone) (stop_number p.step.stop) h (stopped_there true k.come e p t' q z) in
        let w = stop_ended true k.come e p t' q z a y in (
          subst (λ (c : Outcome State). Edited F l₀ c r t' l₀.records l₀.texts)
              (sym (cancel-stopped (length l₀.text) m start o (λ b. z (unnumbered p.step.stop (sym (ap (λ (w : Walked). w.stopped) a) ∙ b)))))
              (edited w),
          still w,
        )

    -- one less is left
    pub cancelling_next : (i : length t' ≡ length t) (z : p.step.stop ≡ None) → Cancelling F l₀ m t' p.step p.log (n - 1)
    cancelling_next i z =
        let j : n ≡ suc (n - 1) = omega arith in
        let b : length f ≡ m + (n - 1) = omega (arith, k.count, ap length e) in
        record {
          come = come_next true k.come e p t' q i z;
          count = ap length (from_there true k.come e p t' q i z) ∙ b;
          same =
              ap₂ (λ (a c : List Change). down_to (length l₀.text) m (n - 1) a c
              (step_state_by (state_of catalogue F (lent t' l₀.records l₀.texts (line_of p.step) p.log)) p.step.undone))
              (from_there true k.come e p t' q i z) (to_there true k.come e p t' q i z)
              ∙ ap (down_to (length l₀.text) m (n - 1) f (turn x ∷ now.log.redo)) (reached_there true k.come e p t' q i z)
              ∙ sym
              (at_record ∙ ap (λ (a : ℕ). down_to (length l₀.text) m a (x ∷ f) now.log.redo (step_state_by now s.undone)) j
              ∙ to-next (length l₀.text) m (n - 1) x f now.log.redo (step_state_by now s.undone) (goes true k.come e p t' q i z).reached
              (tried_there true k.come e p t' q i z) b);
        }

  -- all are undone: they are dropped, and the redo list with them
  pub cancel-ended : opens m start.log.undo ≡ true → n ≤ 0 → {b : ℕ} → b ≡ begins_down m start.log.undo → {r : EditAnswer}
      → r ≡ says 0 (line_of s) (state g.undo.records g.undo.texts 0 0 (g.level - b))
      → Edited F l₀ (cancel_out (length l₀.text) m start) r t l₀.records l₀.texts × (r.log ≡ l₀.log → t ≡ l₀.text)
  cancel-ended o h {b} e {r} q = (
    subst (λ (c : Outcome State). Edited F l₀ c r t l₀.records l₀.texts)
        (sym
        (cancel-done (length l₀.text) m start o now.log.undo now.log.redo (step_state_by now s.undone)
        (sym k.same ∙ ap (λ (a : ℕ). down_to (length l₀.text) m a now.log.undo now.log.redo (step_state_by now s.undone)) none)))
        (record {
          answer =
              q ∙ ap (λ (a : ℕ). says 0 (line_of s) (state g.undo.records g.undo.texts 0 0 a)) (ap₂ ◌-◌ k.come.level e)
              ∙ ap₂ (λ (a : ℕ) (c : Log). says 0 (record { len = a; cursor = s.cursor }) c) (sym (length-kept F l k.come.ready))
              (holds_state catalogue F l₀.records l₀.texts g.undo.records g.undo.texts 0 0 level now.log.undo [] alone);
          bytes =
              record {
                text = (state-kept F l k.come.ready s.cursor).text;
                log = holds_bytes catalogue F l₀.records l₀.texts g.undo.records g.undo.texts 0 0 level now.log.undo [] alone;
              };
        }),
    (λ i. k.come.unmoved.same (ap (λ (a : Log). a.undo.records) (ap (λ (a : EditAnswer). a.log) (sym q) ∙ i))),
  )
    where
      none : n ≡ 0
      none = omega arith

      l : Lent
      l = lent t l₀.records l₀.texts (line_of s) g

      level : ℕ
      level = l₀.log.level - begins_down m start.log.undo

      alone : Holds catalogue F l₀.records l₀.texts g.undo.records g.undo.texts 0 0 (reverse now.log.undo) []
      alone =
          cleared catalogue F l₀.records l₀.texts g.undo.records g.undo.texts g.redo.records g.redo.texts
          (reverse now.log.undo) (map turn now.log.redo)
          (holds k.come.ready)
