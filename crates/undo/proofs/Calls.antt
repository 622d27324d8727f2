-- A call without arguments to try: refused by a check, or passed by all. Assumes nothing.
use Prim.Native.Nat.{ℕ}
use mathlib.Core.Path.{◌≡◌, refl, sym}
use mathlib.Core.Bool.{false}
use mathlib.Core.List.{List}
use Rattle.repertoire.specs.Repertoire.{catalogue}
use Rattle.checks.specs.Checks.{own_tests}
use Rattle.checks.specs.Outcome.{Outcome, called}
use Rattle.checks.specs.Refused.{number_of}
use Rattle.checks.specs.declared.Refused.{Refused}
use Rattle.checks.proofs.Refusals.{never-passes}
use Rattle.formats.specs.declared.Format.{Format}
use Rattle.edit.specs.declared.EditAnswer.{EditAnswer}
use Rattle.edit.specs.Plan.{State}
use Rattle.edit.specs.Calls.{Lent, says, Edited, checked}
use Rattle.edit.proofs.Answers.{refused_by, passed_by}

module _ (F : Format) (l : Lent) (out : Outcome State) where
  pub call_refused : (why : Refused) → number_of why ≡ checked catalogue F l (own_tests false false false) → {r : EditAnswer} → r ≡ says (number_of why) l.line l.log
      → Edited F l (called (checked catalogue F l (own_tests false false false)) out) r l.text l.records l.texts
  call_refused why e {r} q = refused_by F l (number_of why) (checked catalogue F l (own_tests false false false)) out r (sym e) (never-passes why) q

  pub call_passed : 0 ≡ checked catalogue F l (own_tests false false false) → {r : EditAnswer} {t : List ℕ} → Edited F l out r t l.records l.texts
      → Edited F l (called (checked catalogue F l (own_tests false false false)) out) r t l.records l.texts
  call_passed e {r} {t} q = passed_by F l 0 (checked catalogue F l (own_tests false false false)) out r t l.records l.texts (sym e) refl q
