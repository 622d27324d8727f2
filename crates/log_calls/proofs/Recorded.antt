-- An edit by its numbers, and what the calls record. Assumes nothing.
use mathlib.Core.Path.{◌≡◌, refl, sym, ap₂}
use mathlib.Core.Bool.{Bool, true, false, not, ◌&&◌, ◌||◌}
use mathlib.Core.List.{List, []}
use Prim.Native.Nat.{ℕ}
use Rattle.lists.proofs.Bools.{never}
use Rattle.utf8.specs.Encode.{encode}
use Rattle.repertoire.specs.Repertoire.{catalogue}
use Rattle.log_model.specs.Change.{insert, replace, Change}
use Rattle.log_model.specs.Recording.{note, record_insert, record_replace}
use Rattle.log_model.specs.Groups as groups
use Rattle.formats.specs.declared.Format.{Format}
use Rattle.formats.specs.Formats.{log_format}
use Rattle.checks.specs.Outcome.{Outcome, called}
use Rattle.checks.specs.Refused.{number_of}
use Rattle.checks.specs.declared.Refused.{Refused}
use Rattle.checks.proofs.Outcomes.{called-refused}
use Rattle.checks.proofs.Refusals.{never-passes}
use Rattle.log_records.specs.declared.EditKind.TheVariants.{Insert, Delete, Replace}
use Rattle.log_state.specs.declared.LogAnswer.{LogAnswer}
use Rattle.log_state.specs.Outcomes.{record_out}
use Rattle.log_state.specs.Calls.{edit_of, Numbered, Lent, sizes_of, value_of, checked, says, Logged, Ready}
use Rattle.log_state.proofs.Answers.{passed_by, answered_as, recorded_as}
use Rattle.log_state.proofs.Recorded.{only_dropped}
use Rattle.log_state.proofs.Formats.{in_format}

pub an_insert : (p : ℕ) (s : List ℕ) → Numbered (edit_of Insert p [] s) Insert p [] s
an_insert p s = record { kind = refl; place = refl; old = refl; new = refl }

pub a_delete : (p : ℕ) (s : List ℕ) → Numbered (edit_of Delete p s []) Delete p s []
a_delete p s = record { kind = refl; place = refl; old = refl; new = refl }

pub a_replace : (p : ℕ) (o n : List ℕ) → Numbered (edit_of Replace p o n) Replace p o n
a_replace p o n = record { kind = refl; place = refl; old = refl; new = refl }

-- neither text is foreign
pub neither : (a b : Bool) → not a || not b ≡ false → (a && b) ≡ true
neither true true e = refl
neither true false e = never _ true refl e
neither false b e = never _ true refl e

-- ---- what is recorded, as the calls say it
pub replace-is : (p : ℕ) (o n : List ℕ) (u : List Change) → note true (replace p o n) u ≡ record_replace p o n u
unfolding record_replace
replace-is p o n u = refl

pub insert-is : (p c : ℕ) (j : Bool) (s : List ℕ) (u : List Change) → j ≡ catalogue.alnum c → s ≡ encode c → note j (insert p s) u ≡ record_insert catalogue p c u
unfolding record_insert
insert-is p c j s u e f = ap₂ (λ (i : Bool) (t : List ℕ). note i (insert p t) u) e f

-- ---- a call that records: own is its own test of 4, and w what it makes of the undo list
module _ (l : Lent) (own : Bool) (w : List Change → List Change) where
  abbrev pub recording : Format → Outcome groups.Log
  recording F = called (checked catalogue F l own) (record_out F (sizes_of l) (w (value_of catalogue F l).undo) (value_of catalogue F l))

  -- in a format that was found
  module _ {F : Format} (f : F ≡ log_format) where
    -- refused with the number that the check gave
    pub call_refused : {k : ℕ} → checked catalogue F l own ≡ k → (k ≡ 0 → ⊥) → {r : LogAnswer} → r ≡ says k l.log
        → Logged log_format l (recording log_format) r l.records l.texts
    call_refused {k} n h {r} q =
        in_format l recording f
        (called-refused (λ (o : Outcome groups.Log). Logged F l o r l.records l.texts)
        (record_out F (sizes_of l) (w (value_of catalogue F l).undo) (value_of catalogue F l)) k (checked catalogue F l own) n h
        (record { answer = q; bytes = record { records = refl; texts = refl } }))

    -- with a refusal
    pub call_refused_by : (why : Refused) → number_of why ≡ checked catalogue F l own → {r : LogAnswer} → r ≡ says (number_of why) l.log
        → Logged log_format l (recording log_format) r l.records l.texts
    call_refused_by why n q = call_refused (sym n) (never-passes why) q

    module _ (n : 0 ≡ checked catalogue F l own) where
      pub call_passed : {r : LogAnswer} {rb tb : List ℕ} → Logged F l (record_out F (sizes_of l) (w (value_of catalogue F l).undo) (value_of catalogue F l)) r rb tb
          → Logged log_format l (recording log_format) r rb tb
      call_passed q =
          in_format l recording f
          (passed_by F l (checked catalogue F l own) (record_out F (sizes_of l) (w (value_of catalogue F l).undo) (value_of catalogue F l)) _ _ _ n q)

      -- nothing to record: the redo list is dropped
      pub call_dropped : Ready F l → (value_of catalogue F l).undo ≡ w (value_of catalogue F l).undo → {r : LogAnswer}
          → r ≡ says 0 (record { undo = l.log.undo; redo = record { records = 0; texts = 0 }; level = l.log.level })
          → Logged log_format l (recording log_format) r l.records l.texts
      call_dropped h e q = call_passed (answered_as F l _ _ _ _ _ q (only_dropped F l h _ e))

      -- the change v is what it makes of the list
      pub call_recorded : {v : List Change} → v ≡ w (value_of catalogue F l).undo → {r : LogAnswer} {rb tb : List ℕ}
          → Logged F l (record_out F (sizes_of l) v (value_of catalogue F l)) r rb tb → Logged log_format l (recording log_format) r rb tb
      call_recorded {v} e q = call_passed (recorded_as catalogue F l v (value_of catalogue F l) (w (value_of catalogue F l).undo) _ _ _ e q)
