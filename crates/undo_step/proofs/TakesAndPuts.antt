-- What a record undone (back) or redone takes out of the text and puts in, and what it leaves. Assumes nothing.
use Prim.Native.Nat.{ℕ, ◌+◌, ◌-◌, ◌≤◌}
use native.Mathlib.Omega.{arith}
use mathlib.Core.Path.{◌≡◌, refl, sym, ap, ap₂, subst, ◌∙◌}
use mathlib.Core.Bool.{Bool, true, false}
use mathlib.Core.List.{List, ◌++◌}
use lib.ListN.{length, take, drop, length-append, length-drop}
use lib.Seq.{length-take-le, take-take, drop-drop, take-append_seam, drop-append_seam}
use Rattle.lists.proofs.Parts.{drop-take}
use Rattle.log_model.specs.Change.{Edit, insert, delete, replace, Change, begin, end, edit, place, old, new, flipped}
use Rattle.log_recording.proofs.Numbers.{texts_are}
use Rattle.edit.specs.Plan.{splice}
use Rattle.std.specs.Prelude.{Option, None, Some, Result, Ok, Err}
use Rattle.checks.specs.declared.Refused.{Refused}
use Rattle.checks.specs.Refused.{number_of, refused_by}
use Rattle.checks.proofs.Refusals.{never-passes}
use Rattle.formats.specs.declared.Format.{Format}
use Rattle.log_records.specs.declared.EditKind.{EditKind}
use Rattle.log_records.specs.declared.Kind.TheVariants.{Begin, End}
use Rattle.log_records.specs.declared.Kind.TheVariants.{Edit as Kind·Edit}
use Rattle.log_records.specs.declared.Record.{Record}
use Rattle.log_records.specs.Records.{Carries}
use Rattle.undo_step.specs.declared.Step.{Step}
use Rattle.undo_step.specs.UndoStep.{StepState, StepOutcome, done, stops, exchanging, undoing, to_undo, Exchanged, UndoneOrRedone}
use Rattle.undo_step.proofs.Exchanges.{Fits, swapped_length, swaps, fits_by}

-- a Begin and an End are no edit
begin_no_edit : (e : EditKind) → Begin ≡ Kind·Edit e → ⊥
begin_no_edit e h = cc

end_no_edit : (e : EditKind) → End ≡ Kind·Edit e → ⊥
end_no_edit e h = cc

-- so many bytes are taken out, and the bytes of the texts from one place up to another are put in
abbrev pub TakesAndPuts : Bool → Record → ℕ → ℕ → ℕ → ℕ → Type 0
TakesAndPuts true r t out from to = (out ≡ r.new) × (from ≡ t) × (to ≡ t + r.old)
TakesAndPuts false r t out from to = (out ≡ r.old) × (from ≡ t + r.old) × (to ≡ t + r.old + r.new)

-- within texts of m bytes
pub record Within (out from to m : ℕ) : Type 0 where
  pub order : from ≤ to
  pub last : to ≤ m
  pub taken : out ≤ m

pub within : (back : Bool) (r : Record) (t out from to m : ℕ) → TakesAndPuts back r t out from to → t + (r.old + r.new) ≤ m → Within out from to m
within true r t out from to m f h = record { order = omega (arith, f.1, f.2); last = omega (arith, f.2); taken = omega (arith, f.0) }
within false r t out from to m f h = record { order = omega (arith, f.1, f.2); last = omega (arith, f.2); taken = omega (arith, f.0) }

-- ---- the texts of an edit
-- two lists that stand at the front of a list, one behind the other
front-first : (a b l : List ℕ) → take (length (a ++ b)) l ≡ a ++ b → take (length a) l ≡ a
front-first a b l e =
    sym (take-take (length a) (length (a ++ b)) l (omega (arith, length-append a b))) ∙ ap (take (length a)) e ∙ take-append_seam a b

front-second : (a b l : List ℕ) → take (length (a ++ b)) l ≡ a ++ b → take (length b) (drop (length a) l) ≡ b
front-second a b l e =
    let n : length (a ++ b) - length a ≡ length b = omega (arith, length-append a b) in
    ap (λ (k : ℕ). take k (drop (length a) l)) (sym n) ∙ sym (drop-take (length a) (length (a ++ b)) l) ∙ ap (drop (length a)) e ∙ drop-append_seam a b

-- an edit redone
turned : (C : ℕ) (x : Edit) (s : StepState) → undoing C (edit (flipped x)) s ≡ exchanging C (place x) (length (old x)) (new x) s.text
unfolding undoing
turned C (insert p w) s = refl
turned C (delete p w) s = refl
turned C (replace p o n) s = refl

module _ (C : ℕ) (r : Record) (ts : List ℕ) (t : ℕ) (s : StepState) where
  -- a record of no text
  pub bare : (back : Bool) (F : Format) (c : Change) → Carries F c r ts t → ((e : EditKind) → r.kind ≡ Kind·Edit e → ⊥) → undoing C (to_undo back c) s ≡ done s
  unfolding undoing
  bare true F begin h k = refl
  bare false F begin h k = refl
  bare true F end h k = refl
  bare false F end h k = refl
  bare back F (edit (insert p w)) h k = absurd (k _ (ap (λ (x : Record). x.kind) h.numbers))
  bare back F (edit (delete p w)) h k = absurd (k _ (ap (λ (x : Record). x.kind) h.numbers))
  bare back F (edit (replace p o n)) h k = absurd (k _ (ap (λ (x : Record). x.kind) h.numbers))

  -- its old and its new text, in the texts
  module _ (F : Format) (x : Edit) (h : Carries F (edit x) r ts t) where
    both : take (length (old x ++ new x)) (drop t ts) ≡ old x ++ new x
    both = subst (λ (l : List ℕ). take (length l) (drop t ts) ≡ l) (texts_are x) h.texts

    old-part : (a b : ℕ) → a ≡ t → b ≡ t + r.old → take (b - a) (drop a ts) ≡ old x
    old-part a b e f =
        let k : b - a ≡ length (old x) = omega (arith, ap (λ (y : Record). y.old) h.numbers) in
        ap₂ (λ (i j : ℕ). take i (drop j ts)) k e ∙ front-first (old x) (new x) (drop t ts) both

    new-part : (a b : ℕ) → a ≡ t + r.old → b ≡ t + r.old + r.new → take (b - a) (drop a ts) ≡ new x
    new-part a b e f =
        let k : b - a ≡ length (new x) = omega (arith, ap (λ (y : Record). y.new) h.numbers) in
        let i : a ≡ t + length (old x) = e ∙ ap (λ (y : Record). t + y.old) h.numbers in
        ap₂ (λ (i j : ℕ). take i (drop j ts)) k i ∙ ap (take (length (new x))) (sym (drop-drop (length (old x)) t ts)) ∙ front-second (old x) (new x) (drop t ts) both

  -- a record of a text
  pub exchanges : (back : Bool) (F : Format) (c : Change) (out from to : ℕ) → Carries F c r ts t → (e : EditKind) → r.kind ≡ Kind·Edit e → TakesAndPuts back r t out from to
      → undoing C (to_undo back c) s ≡ exchanging C r.place out (take (to - from) (drop from ts)) s.text
  unfolding undoing
  exchanges back F begin out from to h e k f = absurd (begin_no_edit e (sym (ap (λ (x : Record). x.kind) h.numbers) ∙ k))
  exchanges back F end out from to h e k f = absurd (end_no_edit e (sym (ap (λ (x : Record). x.kind) h.numbers) ∙ k))
  exchanges true F (edit x) out from to h e k f =
      rw (old-part F x h from to f.1 f.2, f.0, h.numbers)
  exchanges false F (edit x) out from to h e k f =
      turned C x s ∙ rw (new-part F x h from to f.1 f.2, f.0, h.numbers)

-- ---- what is left
-- a step that was stopped: nothing is changed
abbrev pub stopped_by : Refused → Step → Step
stopped_by why q = record { stop = Some why; len = q.len; cursor = q.cursor; undone = q.undone }

pub stopped_step : (x : StepOutcome) (q : Step) (why : Refused) (b b' : List ℕ) → Exchanged x (number_of why) b b' → UndoneOrRedone x q (stopped_by why q) b b'
stopped_step (done s) q why b b' e = absurd (never-passes why e.0)
stopped_step (stops n) q why b b' e = (e.0, refl, e.1)

-- the text, the cursor and whether a record was undone, as a step has them with the text's buffer
abbrev pub step_state_of : Step → List ℕ → StepState
step_state_of q b = record { text = take q.len b; cursor = q.cursor; undone = q.undone }

module _ (r : Record) (ts : List ℕ) (t : ℕ) (q : Step) (b : List ℕ) (m : q.len ≤ length b) where
  -- a record of no text leaves everything
  pub unmoved : q.stop ≡ None → (back : Bool) (F : Format) (c : Change) → Carries F c r ts t → ((e : EditKind) → r.kind ≡ Kind·Edit e → ⊥)
      → UndoneOrRedone (undoing (length b) (to_undo back c) (step_state_of q b)) q q b b
  unmoved z back F c h k =
      let e = length-take-le q.len b m in
      subst (λ (x : StepOutcome). UndoneOrRedone x q q b b) (sym (bare (length b) r ts t (step_state_of q b) back F c h k))
      (ap₂ (λ (n : Option Refused) (l : ℕ). record { stop = n; len = l; cursor = q.cursor; undone = q.undone }) z (sym e), ap (λ (x : ℕ). take x b) e)

  module _ (out from to : ℕ) (a : Result Unit Refused) (b' : List ℕ) (w : Within out from to (length ts))
      (x : Exchanged (exchanging (length b) r.place out (take (to - from) (drop from ts)) (take q.len b)) (refused_by a) b b') where
    abbrev part : List ℕ
    part = take (to - from) (drop from ts)

    part_length : length part ≡ to - from
    part_length = length-take-le (to - from) (drop from ts) (omega (arith, length-drop from ts, w.order, w.last))

    -- a stop leaves everything
    pub stops_at : (back : Bool) (F : Format) (c : Change) → Carries F c r ts t → (e : EditKind) → r.kind ≡ Kind·Edit e
        → TakesAndPuts back r t out from to → (why : Refused) → a ≡ Err why
        → UndoneOrRedone (undoing (length b) (to_undo back c) (step_state_of q b)) q (stopped_by why q) b b'
    stops_at back F c h y i f why j =
        rw (exchanges (length b) r ts t (step_state_of q b) back F c out from to h y i f)
        (stopped_step (exchanging (length b) r.place out part (take q.len b)) q why b b'
        (subst (λ (y : Result Unit Refused). Exchanged (exchanging (length b) r.place out part (take q.len b)) (refused_by y) b b') j x))

    module _ (u : Unit) (j : a ≡ Ok u) where
      done_x : Exchanged (exchanging (length b) r.place out part (take q.len b)) 0 b b'
      done_x = subst (λ (y : Result Unit Refused). Exchanged (exchanging (length b) r.place out part (take q.len b)) (refused_by y) b b') j x

      fit : Fits (length b) r.place out part (take q.len b)
      fit = fits_by (length b) r.place out part (take q.len b) b b' done_x

      -- what is taken out lies in the text
      pub out_within : out ≤ q.len
      out_within = omega (arith, fit.ends, length-take-le q.len b m)

      -- what is left is a text in the buffer
      pub left-within : q.len - out + (to - from) ≤ length b
      left-within = omega (arith, fit.room, length-take-le q.len b m, part_length)

      -- and it is what the record, undone or redone, leaves
      pub moves : (back : Bool) (F : Format) (c : Change) → Carries F c r ts t → (e : EditKind) → r.kind ≡ Kind·Edit e
          → TakesAndPuts back r t out from to
          → UndoneOrRedone (undoing (length b) (to_undo back c) (step_state_of q b)) q
          (record { stop = None; len = q.len - out + (to - from); cursor = r.place + (to - from); undone = true }) b b'
      moves back F c h v i f =
          let e = length-take-le q.len b m in
          let y = swaps (length b) r.place out part (take q.len b) fit in
          let l : q.len - out + (to - from) ≡ length (splice (take q.len b) r.place (r.place + out) part) = omega
          (arith, swapped_length (length b) r.place out part (take q.len b) fit.ends, part_length, e) in
          subst
          (λ (o : StepOutcome). UndoneOrRedone o q
          (record { stop = None; len = q.len - out + (to - from); cursor = r.place + (to - from); undone = true }) b b')
          (sym (exchanges (length b) r ts t (step_state_of q b) back F c out from to h v i f ∙ y)) (
            ap₂ (λ (n p : ℕ). record { stop = None; len = n; cursor = r.place + p; undone = true }) l (sym part_length),
            (subst (λ (v : StepOutcome). Exchanged v 0 b b') y done_x).1,
          )
