-- What is read off a result that may be a refusal. Assumes nothing.
use Prim.Native.Nat.{◌<◌}
use native.Mathlib.Omega.{arith}
use mathlib.Core.Path.{◌≡◌, refl, sym}
use mathlib.Core.Bool.{true, false}
use Rattle.std.proofs.Common.{Result, Ok, Err}
use Rattle.std.specs.Result.{is_err}
use Rattle.lists.proofs.Bools.{never}
use Rattle.checks.specs.declared.Refused.{Refused}
use Rattle.checks.specs.declared.Refused.TheVariants.{Sizes, Code, Foreign, Place, Split, Prompt, Damaged}
use Rattle.checks.specs.declared.Refused.TheVariants.{Full, LogFull, RingFull, Misfit, Unbound, PageFull}
use Rattle.checks.specs.Refused.{number_of, refused_by}

-- a refusal's number is none of 0 and 1
pub number-refuses : (r : Refused) → 1 < number_of r
number-refuses Sizes = omega arith
number-refuses Code = omega arith
number-refuses Foreign = omega arith
number-refuses Place = omega arith
number-refuses Split = omega arith
number-refuses Prompt = omega arith
number-refuses Damaged = omega arith
number-refuses Full = omega arith
number-refuses LogFull = omega arith
number-refuses RingFull = omega arith
number-refuses Misfit = omega arith
number-refuses Unbound = omega arith
number-refuses PageFull = omega arith

-- so it is not 0
pub never-passes : (r : Refused) → number_of r ≡ 0 → ⊥
never-passes r e = let h = number-refuses r in absurd (omega arith)

-- the result of some checks, by whether it is an error
pub passes : (r : Result (Unit {0}) Refused) → is_err r ≡ false → refused_by r ≡ 0
passes (Ok x) e = refl
passes (Err r) e = never _ true refl e

pub refuses : (r : Result (Unit {0}) Refused) → is_err r ≡ true → refused_by r ≡ 0 → ⊥
refuses (Ok x) e z = never _ true refl (sym e)
refuses (Err r) e z = never-passes r z

-- a number names one refusal
pub split-only : (r : Refused) → number_of r ≡ 6 → r ≡ Split
split-only Sizes e = absurd (omega arith)
split-only Code e = absurd (omega arith)
split-only Foreign e = absurd (omega arith)
split-only Place e = absurd (omega arith)
split-only Split e = refl
split-only Prompt e = absurd (omega arith)
split-only Damaged e = absurd (omega arith)
split-only Full e = absurd (omega arith)
split-only LogFull e = absurd (omega arith)
split-only RingFull e = absurd (omega arith)
split-only Misfit e = absurd (omega arith)
split-only Unbound e = absurd (omega arith)
split-only PageFull e = absurd (omega arith)
