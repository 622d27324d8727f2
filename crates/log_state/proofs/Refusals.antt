-- A call by its checks: one refuses, by its name, or they pass. Assumes nothing.
use Prim.Native.Nat.{ℕ}
use mathlib.Core.Path.{◌≡◌, ap}
use Rattle.checks.specs.Outcome.{Outcome, refused, called}
use Rattle.checks.specs.Refused.{number_of}
use Rattle.checks.specs.declared.Refused.{Refused}
use Rattle.checks.specs.declared.Refused.TheVariants.{Sizes, Code, Foreign, Place, Split, Prompt, Damaged}
use Rattle.checks.specs.declared.Refused.TheVariants.{Full, LogFull, RingFull, Misfit, Unbound, PageFull}

module _ {S : Type 0} (o : Outcome S) (n : ℕ) where
  pub why_called : (why : Refused) → number_of why ≡ n → refused (number_of why) ≡ called n o
  why_called Sizes e = ap (λ m. called m o) e
  why_called Code e = ap (λ m. called m o) e
  why_called Foreign e = ap (λ m. called m o) e
  why_called Place e = ap (λ m. called m o) e
  why_called Split e = ap (λ m. called m o) e
  why_called Prompt e = ap (λ m. called m o) e
  why_called Damaged e = ap (λ m. called m o) e
  why_called Full e = ap (λ m. called m o) e
  why_called LogFull e = ap (λ m. called m o) e
  why_called RingFull e = ap (λ m. called m o) e
  why_called Misfit e = ap (λ m. called m o) e
  why_called Unbound e = ap (λ m. called m o) e
  why_called PageFull e = ap (λ m. called m o) e

  pub all_called : 0 ≡ n → o ≡ called n o
  all_called e = ap (λ m. called m o) e
