-- A call in the format that its text buffer brings. Assumes nothing.
use Prim.Native.Nat.{ℕ, ◌≤◌}
use native.Mathlib.Omega.{arith}
use mathlib.Core.Path.{◌≡◌, subst}
use mathlib.Core.List.{List}
use lib.ListN.{length}
use Rattle.formats.specs.declared.Format.{Format}
use Rattle.formats.specs.Formats.{text_max}
use Rattle.checks.specs.Outcome.{Outcome}
use Rattle.edit.specs.declared.EditAnswer.{EditAnswer}
use Rattle.edit.specs.Plan.{State}
use Rattle.edit.specs.Calls.{Lent, format_of, Edited, Ready}

-- F was found to be it: what is done in F is the call
pub in_format : {F : Format} (l : Lent) (call : Format → Outcome State) {r : EditAnswer} {t rb tb : List ℕ} → F ≡ format_of l
    → Edited F l (call F) r t rb tb → Edited (format_of l) l (call (format_of l)) r t rb tb
in_format l call {r} {t} {rb} {tb} e q = subst (λ (G : Format). Edited G l (call G) r t rb tb) e q

-- a text is no longer than an array of a call's own frame
pub text-most : (F : Format) (l : Lent) → Ready F l → length l.text ≤ text_max
text-most F l h = omega (arith, h.limit, h.log.fit.text)
