-- The start of a run: what 01 asks of it gives the first state and the invariant. Assumes nothing.
use Prim.Native.Nat.{ℕ}
use native.Mathlib.Omega.{arith}
use mathlib.Core.Path.{◌≡◌, refl, sym, ap, ap₂, subst, ◌∙◌}
use mathlib.Core.Bool.{false}
use mathlib.Core.List.{List, [], map, reverse}
use lib.ListN.{length, take}
use lib.Seq.{length-take-le}
use Rattle.lists.proofs.Bools.{or_none}
use Rattle.repertoire.specs.Repertoire.{Repertoire}
use Rattle.checks.specs.Checks.{both, own_tests}
use Rattle.checks.proofs.Fit.{Fit, Passed, fit}
use Rattle.log_model.specs.Change.{Change, turn}
use Rattle.log_model.specs.Groups as groups
use Rattle.formats.specs.declared.Format.{Format}
use Rattle.log_model.specs.UndoBytes.{all_numbers_fit}
use Rattle.log_model.proofs.Decode.{decode-encode}
use Rattle.log_state.specs.Logs.{over_sizes, log_tests}
use Rattle.log_state.specs.Calls as logs
use Rattle.log_state.specs.declared.Log.{Log}
use Rattle.log_state.proofs.Passed.{sized}
use Rattle.edit.specs.Calls.{Lent, text_of, log_lent, state_of, checked}
use Rattle.session.specs.Runs.{Sized, buffers_of}
use Rattle.session.specs.Demand3.{Starts}
use Rattle.session.proofs.Invariant.{Inv, no_redo}
use Rattle.session.proofs.Steps.{Short}
use Rattle.session.proofs.HandOver.{Stands}

module _ (R : Repertoire) (F : Format) where
  abbrev none : Log
  none = record { undo = record { records = 0; texts = 0 }; redo = record { records = 0; texts = 0 }; level = 0 }

  -- a log of no bytes holds no record
  undos_none : (rb tb : List ℕ) → logs.undos R F (logs.lent rb tb none) ≡ []
  unfolding logs.undos
  undos_none rb tb = ap logs.or_nil (decode-encode R F [] tt)

  redos_none : (rb tb : List ℕ) → logs.redos R F (logs.lent rb tb none) ≡ []
  unfolding logs.redos
  redos_none rb tb = ap logs.or_nil (decode-encode R F [] tt)

  pub log_none : (rb tb : List ℕ) → logs.value_of R F (logs.lent rb tb none) ≡ groups.empty
  log_none rb tb = ap₂ (λ (u r : List Change). record { undo = reverse u; redo = map turn r; level = 0 }) (undos_none rb tb) (redos_none rb tb)

  -- the first state
  pub start_keeps : (l : Lent) → Starts R l → checked R F l (own_tests false false false) ≡ 0 → Inv R F (Short (length l.text)) (text_of l) (state_of R F l) []
  unfolding all_numbers_fit
  start_keeps l z passes =
      let f = (fit R F l.text l.line (both (log_tests R F l.log l.records l.texts) (own_tests false false false)) passes).0 in
      let e : logs.value_of R F (log_lent l) ≡ groups.empty = ap (λ (g : Log). logs.value_of R F (logs.lent l.records l.texts g)) z.log ∙ log_none l.records l.texts in
      let n = length-take-le l.line.len l.text f.used in
      let h = f.within in
      subst (λ (g : groups.Log). Inv R F (Short (length l.text)) (text_of l) (record { text = text_of l; cursor = l.line.cursor; log = g }) []) (sym e)
      (no_redo R F (Short (length l.text)) (text_of l) (text_of l) l.line.cursor 0 [] []
      (record { chain = refl; text = f.text; allowed = omega (arith, n, f.used); groups = record { opened = refl; marks = refl } })
      (omega arith, omega arith, f.at-boundary, f.at-boundary) refl)

module _ (R : Repertoire) (F : Format) (l : Lent) (z : Starts R l) (passes : checked R F l (own_tests false false false) ≡ 0) where
  abbrev passed : Fit R F l.text l.line × Passed (both (log_tests R F l.log l.records l.texts) (own_tests false false false))
  passed = fit R F l.text l.line (both (log_tests R F l.log l.records l.texts) (own_tests false false false)) passes

  -- check 2 passes the first buffers
  pub start-sized : Sized F (buffers_of l)
  start-sized =
      let d = sized F (log_lent l) (or_none (over_sizes F l.log l.records l.texts) false passed.1.sizes).0 in
      record { text = passed.0.limit; records = d.records; texts = d.texts }

  -- the first state stands in what is lent first
  pub start-stands : Stands F (state_of R F l) l
  start-stands =
      let f = passed.0 in
      let e : logs.value_of R F (log_lent l) ≡ groups.empty = ap (λ (g : Log). logs.value_of R F (logs.lent l.records l.texts g)) z.log
      ∙ log_none R F l.records l.texts in
      let n = length-take-le l.line.len l.text f.used in
      record {
        stored =
            record {
              text = ap (λ (k : ℕ). take k l.text) n;
              log = subst (λ (g : groups.Log). logs.Stored F g l.records l.texts) (sym e) (record { records = refl; texts = refl });
            };
        line = ap (λ (k : ℕ). record { len = k; cursor = l.line.cursor }) (sym n);
        log = z.log ∙ ap (logs.log_of F) (sym e);
      }
