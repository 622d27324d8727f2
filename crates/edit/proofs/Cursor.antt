-- The cursor of a plan matters to the answer's cursor alone. Assumes nothing.
use Prim.Native.Nat.{ℕ, ◌≤◌}
use native.Mathlib.Omega.{arith}
use mathlib.Core.Path.{◌≡◌, ap, ◌∙◌}
use mathlib.Core.Bool.{Bool, true, false, cond}
use mathlib.Core.Logic.{◌⊎◌, inl, inr, ⊎_elim}
use mathlib.Core.List.{List}
use lib.ListN.{length, take}
use Rattle.repertoire.specs.Repertoire.{Repertoire}
use Rattle.checks.specs.Outcome.{Outcome, refused, answered}
use Rattle.formats.specs.declared.Format.{Format}
use Rattle.log_model.specs.UndoBytes.{Sizes, fits}
use Rattle.edit.specs.declared.EditAnswer.{EditAnswer}
use Rattle.edit.specs.Plan.{PlannedChange, Plan, State, planned, text_after, list_after, too_long, edited}
use Rattle.edit.specs.Calls.{Lent, says, Edited}
use Rattle.edit.proofs.Stored.{take_within}

module _ (R : Repertoire) (F : Format) (l : Lent) (z : Sizes) (C : ℕ) (xs : List PlannedChange) (s : State) where
  -- the changes xs, answered by 0, with the cursor at a place
  abbrev pub ending : ℕ → Plan
  ending c = record { changes = xs; cursor = c; number = 0; from = 0; to = 0 }

  abbrev out : Bool → Bool → ℕ → Outcome State
  out a b c = cond a (refused 9) (cond b (answered 0 0 0 (planned R (ending c) s)) (refused 10))

  module _ (c c' : ℕ) (r : EditAnswer) (t rb tb : List ℕ) where
    abbrev Moved : Bool → Bool → Type 0
    Moved a b = (r.number ≡ 0) × (Edited F l (out a b c') (says 0 (record { len = r.line.len; cursor = c' }) r.log) t rb tb)
        × (take r.line.len t ≡ text_after xs s.text) × (r.line.len ≤ length t)

    abbrev Kept : Bool → Bool → Type 0
    Kept a b = (r.number ≡ 0 → ⊥) × (Edited F l (out a b c') r t rb tb)

    ways : (a b : Bool) → Edited F l (out a b c) r t rb tb → Moved a b ⊎ Kept a b
    ways true b q = inr (λ e. absurd (omega (arith, ap (λ (x : EditAnswer). x.number) q.answer)), record { answer = q.answer; bytes = q.bytes })
    ways false true q =
        inl (
          ap (λ (x : EditAnswer). x.number) q.answer,
          record {
            answer = ap (λ (x : EditAnswer). says 0 (record { len = x.line.len; cursor = c' }) x.log) q.answer;
            bytes = record { text = q.bytes.text; log = q.bytes.log };
          },
          ap (λ (x : EditAnswer). take x.line.len t) q.answer ∙ q.bytes.text,
          omega (arith, ap (λ (x : EditAnswer). x.line.len) q.answer, take_within (length (text_after xs s.text)) t (ap length q.bytes.text)),
        )
    ways false false q = inr (λ e. absurd (omega (arith, ap (λ (x : EditAnswer). x.number) q.answer)), record { answer = q.answer; bytes = q.bytes })

    module _ (q : Edited F l (edited R F z C (ending c) s) r t rb tb) where
      both : Moved (too_long C xs s.text) (fits F z (list_after R xs s.text s.log.undo)) ⊎ Kept (too_long C xs s.text)
          (fits F z (list_after R xs s.text s.log.undo))
      unfolding edited
      both = ways (too_long C xs s.text) (fits F z (list_after R xs s.text s.log.undo)) q

      -- refused, whatever the cursor
      pub cursor-kept : (r.number ≡ 0 → ⊥) → Edited F l (edited R F z C (ending c') s) r t rb tb
      unfolding edited
      cursor-kept h = ⊎_elim (λ w. absurd (h w.0)) (λ w. w.1) both

      -- answered: the text is there, and the cursor may be sent anywhere
      pub cursor-moved : r.number ≡ 0 → Edited F l (edited R F z C (ending c') s) (says 0 (record { len = r.line.len; cursor = c' }) r.log) t rb tb
      unfolding edited
      cursor-moved h = ⊎_elim (λ w. w.1) (λ w. absurd (w.0 h)) both

      pub used_there : r.number ≡ 0 → r.line.len ≤ length t
      used_there h = ⊎_elim (λ w. w.3) (λ w. absurd (w.0 h)) both

      pub text_there : r.number ≡ 0 → take r.line.len t ≡ text_after xs s.text
      text_there h = ⊎_elim (λ w. w.2) (λ w. absurd (w.0 h)) both
