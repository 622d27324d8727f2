-- What undo's key comes to where the checks pass: never a refusal, for a stop is answered. Assumes nothing.
use Prim.Native.Nat.{ℕ}
use mathlib.Core.Path.{◌≡◌, refl, sym, subst}
use mathlib.Core.List.{List}
use lib.ListN.{length}
use Rattle.repertoire.specs.Repertoire.{catalogue}
use Rattle.formats.specs.declared.Format.{Format}
use Rattle.checks.specs.Checks.{no_tests}
use Rattle.checks.specs.Outcome.{Outcome}
use Rattle.checks.proofs.Outcomes.{called-passed}
use Rattle.edit.specs.declared.EditAnswer.{EditAnswer}
use Rattle.edit.specs.Plan.{State}
use Rattle.edit.specs.Calls.{Lent, state_of, checked, Edited}
use Rattle.edit.proofs.Made.{outcome_as}
use Rattle.undo.specs.Undo.{undo_out, undo_call}
use Rattle.key_line.proofs.Answered.{Refuses}

module _ (F : Format) (l : Lent) (z : checked catalogue F l no_tests ≡ 0) (n : ℕ) where
  abbrev out : Outcome State
  out = undo_out (length l.text) n (state_of catalogue F l)

  undone : undo_call catalogue F l n ≡ out
  undone = called-passed (λ (o : Outcome State). o ≡ out) out 0 (checked catalogue F l no_tests) z refl refl

  out_refuses : Refuses out
  unfolding undo_out
  out_refuses = tt

  pub undo_refuses : Refuses (undo_call catalogue F l n)
  undo_refuses = subst Refuses (sym undone) out_refuses

  pub undo-made : {r : EditAnswer} {t rb tb : List ℕ} → Edited F l out r t rb tb → Edited F l (undo_call catalogue F l n) r t rb tb
  undo-made {r} {t} {rb} {tb} x = outcome_as F l out (undo_call catalogue F l n) r t rb tb (sym undone) x
