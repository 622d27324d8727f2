-- The answer of an edit: refused by a check, passed by all, and a plan that changes nothing. Assumes nothing.
use Prim.Native.Nat.{ℕ}
use native.Mathlib.Omega.{arith}
use mathlib.Core.Bool.{true, false}
use mathlib.Core.Path.{◌≡◌, refl, sym, ap, ap₂, subst, ◌∙◌}
use mathlib.Core.List.{List, map, reverse}
use lib.ListN.{length, take}
use lib.Seq.{length-take-le}
use Rattle.utf8.specs.Chars.{In}
use Rattle.repertoire.specs.Repertoire.{catalogue}
use Rattle.checks.specs.Outcome.{Outcome, called}
use Rattle.checks.proofs.Outcomes.{called-refused, called-passed}
use Rattle.log_model.specs.Change.{Change, turn}
use Rattle.formats.specs.declared.Format.{Format}
use Rattle.log_model.specs.Holds.{Holds}
use Rattle.log_model.specs.Groups as groups
use Rattle.log_model.specs.UndoBytes.{fits}
use Rattle.log_model.proofs.Newest.{turned_back}
use Rattle.log_state.specs.declared.Log.{Log}
use Rattle.log_state.specs.Calls as log
use Rattle.log_state.proofs.Answers.{holds_state, holds_bytes}
use Rattle.log_state.proofs.Recorded.{holding, fits_now}
use Rattle.edit.specs.declared.EditAnswer.{EditAnswer}
use Rattle.edit.specs.Plan.{State, Plan, nothing, text_after, list_after, too_long, edited}
use Rattle.edit.specs.Calls.{Lent, log_lent, text_of, sizes_of, state_of, says, Stored, Edited, Ready}

module _ (F : Format) (l : Lent) where
  -- checks 2 to 8
  pub refused_by : (k n : ℕ) (o : Outcome State) (r : EditAnswer) → n ≡ k → (k ≡ 0 → ⊥) → r ≡ says k l.line l.log
      → Edited F l (called n o) r l.text l.records l.texts
  refused_by k n o r e h q =
      called-refused (λ (x : Outcome State). Edited F l x r l.text l.records l.texts) o k n e h
      (record { answer = q; bytes = record { text = refl; records = refl; texts = refl } })

  pub passed_by : (k n : ℕ) (o : Outcome State) (r : EditAnswer) (t rb tb : List ℕ) → n ≡ k → k ≡ 0 → Edited F l o r t rb tb → Edited F l (called n o) r t rb tb
  passed_by k n o r t rb tb e h q = called-passed (λ (x : Outcome State). Edited F l x r t rb tb) o k n e h q

  -- 9, and 10 where 9 passes
  pub nine : (p : Plan) (r : EditAnswer) → too_long (length l.text) p.changes (text_of l) ≡ true → r ≡ says 9 l.line l.log
      → Edited F l (edited catalogue F (sizes_of l) (length l.text) p (state_of catalogue F l)) r l.text l.records l.texts
  unfolding edited
  nine p r e q = rw e (record { answer = q; bytes = record { text = refl; records = refl; texts = refl } })

  pub ten : (p : Plan) (r : EditAnswer) → too_long (length l.text) p.changes (text_of l) ≡ false
      → fits F (sizes_of l) (list_after catalogue p.changes (text_of l) (state_of catalogue F l).log.undo) ≡ false → r ≡ says 10 l.line l.log
      → Edited F l (edited catalogue F (sizes_of l) (length l.text) p (state_of catalogue F l)) r l.text l.records l.texts
  unfolding edited
  ten p r e f q = rw (e, f) (record { answer = q; bytes = record { text = refl; records = refl; texts = refl } })

  -- what is lent is in the buffers, wherever the cursor goes
  module _ (h : Ready F l) where
    abbrev v : groups.Log
    v = log.value_of catalogue F (log_lent l)

    pub hold : Holds catalogue F l.records l.texts l.log.undo.records l.log.undo.texts l.log.redo.records l.log.redo.texts
        (reverse v.undo) (map turn v.redo)
    hold =
        subst
        (λ (rs : List Change). Holds catalogue F l.records l.texts l.log.undo.records l.log.undo.texts l.log.redo.records
        l.log.redo.texts (reverse v.undo) rs)
        (sym (turned_back (log.redos catalogue F (log_lent l)))) (holding F (log_lent l) h.log)

    pub log-kept : l.log ≡ log.log_of F v
    log-kept = holds_state catalogue F l.records l.texts l.log.undo.records l.log.undo.texts l.log.redo.records
        l.log.redo.texts l.log.level v.undo v.redo hold

    pub length-kept : length (text_of l) ≡ l.line.len
    length-kept = length-take-le l.line.len l.text h.used

    -- the lent cursor stands between characters
    pub cursor_in : In (text_of l) l.line.cursor l.line.cursor
    cursor_in = (omega arith, omega (arith, length-kept, h.within), h.at-boundary, h.at-boundary)

    pub state-kept : (p : ℕ) → Stored F (record { text = text_of l; cursor = p; log = v }) l.text l.records l.texts
    state-kept p =
        record {
          text = ap (λ (n : ℕ). take n l.text) length-kept;
          log = holds_bytes catalogue F l.records l.texts l.log.undo.records l.log.undo.texts l.log.redo.records
              l.log.redo.texts l.log.level v.undo v.redo hold;
        }

    -- the answer 1: nothing is changed, and the cursor is at a place
    pub stays_at : (p : ℕ) (r : EditAnswer) → r ≡ says 1 (record { len = l.line.len; cursor = p }) l.log
        → Edited F l (edited catalogue F (sizes_of l) (length l.text) (nothing p) (state_of catalogue F l)) r l.text l.records l.texts
    unfolding edited text_after list_after too_long
    stays_at p r q =
        rw (fits_now F (log_lent l) h.log)
        (record {
          answer = q ∙ ap₂ (λ (n : ℕ) (x : Log). says 1 (record { len = n; cursor = p }) x) (sym length-kept) log-kept;
          bytes = state-kept p;
        })

    -- with all as it was
    pub stays : (r : EditAnswer) → r ≡ says 1 l.line l.log → Edited F l
        (edited catalogue F (sizes_of l) (length l.text) (nothing l.line.cursor) (state_of catalogue F l)) r l.text l.records l.texts
    stays r q = stays_at l.line.cursor r q
