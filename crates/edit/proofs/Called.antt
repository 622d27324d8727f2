-- A call of an edit in the format that its text buffer brings: refused by a check, or its plan carried out. Assumes nothing.
use Prim.Native.Nat.{ℕ}
use mathlib.Core.Path.{◌≡◌}
use mathlib.Core.List.{List}
use lib.ListN.{length}
use Rattle.repertoire.specs.Repertoire.{catalogue}
use Rattle.formats.specs.declared.Format.{Format}
use Rattle.checks.specs.Checks.{Tests}
use Rattle.checks.specs.Outcome.{Outcome}
use Rattle.edit.specs.declared.EditAnswer.{EditAnswer}
use Rattle.edit.specs.Plan.{Plan, State, edited}
use Rattle.edit.specs.Calls.{Lent, format_of, sizes_of, state_of, checked, edit_call, says, Edited}
use Rattle.edit.proofs.Answers.{refused_by, passed_by}
use Rattle.edit.proofs.Made.{plan_made}
use Rattle.edit.proofs.Formats.{in_format}

-- own is the call's own tests, p its plan; the check gave the number k in the format F that was found
module _ (l : Lent) (own : Tests) (p : Plan) {F : Format} {k : ℕ} (f : F ≡ format_of l) (n : checked catalogue F l own ≡ k) where
  abbrev calls : Format → Outcome State
  calls G = edit_call catalogue G l own p

  abbrev done : Plan → Outcome State
  done q = edited catalogue F (sizes_of l) (length l.text) q (state_of catalogue F l)

  pub call_refused : (k ≡ 0 → ⊥) → {r : EditAnswer} → r ≡ says k l.line l.log
      → Edited (format_of l) l (calls (format_of l)) r l.text l.records l.texts
  call_refused h {r} q = in_format l calls f (refused_by F l k (checked catalogue F l own) (done p) r n h q)

  -- the plan that was carried out is p
  pub call_made : k ≡ 0 → {q : Plan} → q ≡ p → {r : EditAnswer} {t rb tb : List ℕ} → Edited F l (done q) r t rb tb
      → Edited (format_of l) l (calls (format_of l)) r t rb tb
  call_made z e {r} {t} {rb} {tb} x =
      in_format l calls f (passed_by F l k (checked catalogue F l own) (done p) r t rb tb n z (plan_made F l e x))
