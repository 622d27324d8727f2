-- A record that was tried: what it leaves, and that the next one is lent a text and a log that the checks pass. Assumes nothing.
use Prim.Native.Nat.{ℕ, ◌+◌, ◌<◌}
use native.Mathlib.Omega.{arith}
use mathlib.Core.Path.{◌≡◌, refl, sym, ap, ap₂, subst, ◌∙◌}
use mathlib.Core.Bool.{Bool, true, false, cond}
use mathlib.Core.List.{List, ◌∷◌, map, reverse}
use lib.Dec.{leb, ltb}
use lib.ListN.{length}
use borrow.Author.Tests.{leb-true, not-false}
use Rattle.lists.proofs.Bools.{and_both, by_test}
use Rattle.std.specs.Prelude.{Option, None, Some, is_some}
use Rattle.checks.specs.declared.Refused.{Refused}
use Rattle.checks.proofs.Refusals.{never-passes}
use Rattle.repertoire.specs.Repertoire.{Repertoire, catalogue}
use Rattle.repertoire.specs.Text.{is_text}
use Rattle.repertoire.proofs.Text.{text-valid}
use Rattle.utf8.specs.Chars.{boundary, In}
use Rattle.log_model.proofs.Newest.{turn-turn}
use Rattle.log_model.specs.Change.{insert, delete, replace, Change, begin, end, edit, place, old, new, turn}
use Rattle.formats.specs.declared.Format.{Format}
use Rattle.log_model.specs.Layout.{ok_change, Good, AllGood}
use Rattle.log_model.specs.Groups as groups
use Rattle.log_model.proofs.Holds.{good_right}
use Rattle.log_recording.proofs.Numbers.{ok_texts}
use Rattle.log_state.specs.declared.Log.{Log}
use Rattle.log_state.specs.Calls as log
use Rattle.log_state.proofs.Recorded.{good}
use Rattle.edit.specs.Plan.{splice}
use Rattle.edit.specs.Calls.{Lent, lent, log_lent, state_of, Ready}
use Rattle.edit.proofs.Answers.{cursor_in}
use Rattle.edit.proofs.Stored.{state-stored, state-ready}
use Rattle.edit.proofs.Splice.{splice-text, splice-end}
use Rattle.undo_step.specs.declared.Step.{Step}
use Rattle.undo_step.specs.UndoStep.{StepState, StepOutcome, done, stops, misfit, exchanging, undoing, stop_number, step_to, UndoneOrRedone}
use Rattle.undo.specs.Steps.{step_state_by, line_of, state_at, from_of, pass_log, Leaves}
use Rattle.undo.proofs.Seams.{holds}

-- ---- whether a step was stopped, by the test that the code makes
pub is-stop : {b : Bool} {o : Option Refused} → b ≡ is_some o → b ≡ true → o ≡ None → ⊥
is-stop e f g = cc

pub no-stop : {b : Bool} {o : Option Refused} → b ≡ is_some o → b ≡ false → o ≡ None
no-stop {o = None} e f = refl
no-stop {o = Some why} e f = cc

-- no stop has the number 0
pub unnumbered : (o : Option Refused) → stop_number o ≡ 0 → o ≡ None
unnumbered None e = refl
unnumbered (Some why) e = absurd (never-passes why e)

-- ---- a stop has a number over 1
abbrev pub Numbered : StepOutcome → Type 0
Numbered (done p) = Unit {0}
Numbered (stops k) = 1 < k

tried_numbered : (a b : Bool) (p : StepState) → Numbered (cond a (stops 12) (cond b (stops 9) (done p)))
tried_numbered true b p = omega arith
tried_numbered false true p = omega arith
tried_numbered false false p = tt

pub numbered : (C : ℕ) (x : Change) (s : StepState) → Numbered (undoing C x s)
unfolding undoing exchanging
numbered C begin s = tt
numbered C end s = tt
numbered C (edit x) s =
    let t = splice s.text (place x) (place x + length (new x)) (old x) in
    tried_numbered (misfit s.text (place x) (length (new x))) (ltb C (length t)) (record { text = t; cursor = place x + length (old x); undone = true })

-- ---- what it leaves in the bytes
module _ (F : Format) (l : Lent) (w : groups.Log) where
  pub stop_leaves : (v : StepOutcome) (s q : Step) (t : List ℕ) → line_of s ≡ l.line → UndoneOrRedone v s q l.text t → (q.stop ≡ None → ⊥) → Leaves F l v w q l.log t
  stop_leaves (done p) s q t e r n = absurd (n (ap (λ (z : Step). z.stop) r.0))
  stop_leaves (stops k) s q t e r n = (r.0, ap line_of r.1 ∙ e, refl, r.2)

  pub done-leaves : (v : StepOutcome) (s q : Step) (g : Log) (t : List ℕ) → Numbered v → UndoneOrRedone v s q l.text t → q.stop ≡ None → g ≡ log.log_of F w
      → log.Stored F w l.records l.texts → Leaves F l v w q g t
  done-leaves (done p) s q g t m r z e b = (r.0, e, record { text = r.1; log = b })
  done-leaves (stops k) s q g t m r z e b = absurd (omega (arith, m, r.0, ap stop_number z))

-- ---- a text stays a text, and its cursor a place between characters
abbrev Fits : Repertoire → StepOutcome → Type 0
Fits R (done p) = (is_text R p.text ≡ true) × In p.text p.cursor p.cursor
Fits R (stops k) = Unit {0}

module _ (R : Repertoire) where
  -- where 12 does not stop it
  not-misfit : (t : List ℕ) (p n : ℕ) → misfit t p n ≡ false → In t p (p + n)
  unfolding misfit
  not-misfit t p n e =
      let a = and_both (leb (p + n) (length t)) _ (not-false _ e) in
      let b = and_both (boundary t p) (boundary t (p + n)) a.1 in
      (omega arith, leb-true _ _ a.0, b.0, b.1)

  -- a text exchanged for another
  exchange-fits : (C p n : ℕ) (s t : List ℕ) → is_text R t ≡ true → is_text R s ≡ true → Fits R (exchanging C p n s t)
  unfolding exchanging
  exchange-fits C p n s t v e =
      by_test (Fits R (exchanging C p n s t)) (misfit t p n)
      (λ a. rw a tt)
      (λ a. by_test (Fits R (exchanging C p n s t)) (ltb C (length (splice t p (p + n) s)))
      (λ b. rw (a, b) tt)
      (λ b. rw (a, b) (fit (not-misfit t p n a))))
    where
      fit : In t p (p + n) → (is_text R (splice t p (p + n) s) ≡ true) × In (splice t p (p + n) s) (p + length s) (p + length s)
      fit i = (splice-text t p (p + n) s i R v e, splice-end t p (p + n) s i (text-valid R s e))

  -- a record undone
  undone-fits : (C : ℕ) (x : Change) (s : StepState) → ok_change R x ≡ true → is_text R s.text ≡ true → In s.text s.cursor s.cursor → Fits R (undoing C x s)
  unfolding undoing
  undone-fits C begin s k v i = (v, i)
  undone-fits C end s k v i = (v, i)
  undone-fits C (edit x) s k v i = exchange-fits C (place x) (length (new x)) (old x) s.text v (ok_texts R x k).0

-- ---- the record x, which leads to the log w
pub record Fine (F : Format) (x : Change) (w : groups.Log) : Type 0 where
  pub ok : ok_change catalogue x ≡ true
  pub undo : AllGood catalogue F.width w.undo
  pub redo : AllGood catalogue F.width (map turn w.redo)

-- a record turned round has the same texts
ok_turn : (R : Repertoire) (c : Change) → ok_change R (turn c) ≡ true → ok_change R c ≡ true
ok_turn R begin e = refl
ok_turn R end e = refl
ok_turn R (edit (insert p s)) e = e
ok_turn R (edit (delete p s)) e = e
ok_turn R (edit (replace p o n)) e = let b = and_both (is_text R n) (is_text R o) e in rw (b.0, b.1)

module _ {F : Format} {l : Lent} (h : Ready F l) where
  -- the redo list as it is written
  good-redo : AllGood catalogue F.width (map turn (state_of catalogue F l).log.redo)
  good-redo = good_right catalogue F.width (reverse (state_of catalogue F l).log.undo) (map turn (state_of catalogue F l).log.redo) (holds h).both.good

  -- in either direction
  pub fine : (back : Bool) {x : Change} {f : List Change} → from_of back (state_of catalogue F l).log ≡ x ∷ f → Fine F x (pass_log back x f (state_of catalogue F l).log)
  fine true {x} e =
      let g = subst (AllGood catalogue F.width) e (good F (log_lent l) h.log) in
      record { ok = g.0.1; undo = g.1; redo = (subst (Good catalogue F.width) (sym (turn-turn x)) g.0, good-redo) }
  fine false {x} e =
      let g = subst (λ (r : List Change). AllGood catalogue F.width (map turn r)) e good-redo in
      record { ok = ok_turn catalogue x g.0.1; undo = (g.0, good F (log_lent l) h.log); redo = g.1 }

-- it was undone: what is lent to the next record passes the checks, and holds the state behind it
pub record Went (F : Format) (l : Lent) (b : Bool) (x : Change) (w : groups.Log) (q : Step) (g : Log) (t : List ℕ) : Type 0 where
  pub reached : StepState
  pub tried : undoing (length l.text) x (step_state_by (state_of catalogue F l) b) ≡ done reached
  pub step : q ≡ step_to reached
  pub ready : Ready F (lent t l.records l.texts (line_of q) g)
  pub state : state_of catalogue F (lent t l.records l.texts (line_of q) g) ≡ state_at reached w

-- it was stopped: all is as it was
pub record Stopped (F : Format) (l : Lent) (b : Bool) (x : Change) (q : Step) (g : Log) (t : List ℕ) : Type 0 where
  pub tried : undoing (length l.text) x (step_state_by (state_of catalogue F l) b) ≡ stops (stop_number q.stop)
  pub line : line_of q ≡ l.line
  pub log : g ≡ l.log
  pub text : t ≡ l.text

module _ (F : Format) (l : Lent) (b : Bool) (x : Change) (w : groups.Log) (q : Step) (g : Log) (t : List ℕ) where
  abbrev tried : StepOutcome
  tried = undoing (length l.text) x (step_state_by (state_of catalogue F l) b)

  pub went : Ready F l → Fine F x w → w.level ≡ l.log.level → length t ≡ length l.text → Leaves F l tried w q g t → q.stop ≡ None → Went F l b x w q g t
  went h n v e r z = go tried refl (numbered (length l.text) x (step_state_by (state_of catalogue F l) b))
      (undone-fits catalogue (length l.text) x (step_state_by (state_of catalogue F l) b) n.ok h.text (cursor_in F l h)) r
    where
      go : (a : StepOutcome) → tried ≡ a → Numbered a → Fits catalogue a → Leaves F l a w q g t → Went F l b x w q g t
      go (done p) i m f r =
          let s = r.2 in
          let c = state-ready F (state_at p w) t l.records l.texts s n.undo n.redo (omega (arith, h.limit)) h.log.records
          h.log.texts h.log.fit (omega (arith, v, h.log.level)) f.0 f.1 in
          let d = state-stored catalogue F (state_at p w) t l.records l.texts s n.undo n.redo in
          record {
            reached = p;
            tried = i;
            step = r.0;
            ready = subst (λ (a : Step). Ready F (lent t l.records l.texts (line_of a) g)) (sym r.0)
                (subst (λ (a : Log). Ready F (lent t l.records l.texts (line_of (step_to p)) a)) (sym r.1) c);
            state = ap₂ (λ (i : Step) (j : Log). state_of catalogue F (lent t l.records l.texts (line_of i) j)) r.0 r.1 ∙ d;
          }
      go (stops k) i m f r = absurd (omega (arith, m, r.0, ap stop_number z))

  pub stopped : Leaves F l tried w q g t → (q.stop ≡ None → ⊥) → Stopped F l b x q g t
  stopped r z = go tried refl r
    where
      go : (a : StepOutcome) → tried ≡ a → Leaves F l a w q g t → Stopped F l b x q g t
      go (done p) i r = absurd (z (ap (λ (s : Step). s.stop) r.0))
      go (stops k) i r = record { tried = i ∙ ap stops (sym r.0); line = r.1; log = r.2; text = r.3 }
