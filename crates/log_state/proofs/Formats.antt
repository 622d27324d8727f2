-- A call in the format of a log that is lent without its text. Assumes nothing.
use Prim.Native.Nat.{ℕ}
use mathlib.Core.Path.{◌≡◌, subst}
use mathlib.Core.List.{List}
use Rattle.formats.specs.declared.Format.{Format}
use Rattle.formats.specs.Formats.{log_format}
use Rattle.checks.specs.Outcome.{Outcome}
use Rattle.log_model.specs.Groups as groups
use Rattle.log_state.specs.declared.LogAnswer.{LogAnswer}
use Rattle.log_state.specs.Calls.{Lent, answer_of, Logged}

-- F was found to be it: what is done in F is the call
pub in_format : {F : Format} (l : Lent) (call : Format → Outcome groups.Log) {r : LogAnswer} {rb tb : List ℕ} → F ≡ log_format
    → Logged F l (call F) r rb tb → Logged log_format l (call log_format) r rb tb
in_format l call {r} {rb} {tb} e q = subst (λ (G : Format). Logged G l (call G) r rb tb) e q

-- the answer alone, of a call that writes nothing
pub says_in_format : {F : Format} (l : Lent) (call : Format → Outcome groups.Log) {r : LogAnswer} → F ≡ log_format → r ≡ answer_of F l (call F)
    → r ≡ answer_of log_format l (call log_format)
says_in_format l call {r} e q = subst (λ (G : Format). r ≡ answer_of G l (call G)) e q
