-- The number of a refusal: document 01, "What a call says", and behind them those of the orders.
use Rattle.std.specs.Prelude.{ℕ, Result, Ok, Err}
use Rattle.checks.specs.declared.Refused.{Refused}
use Rattle.checks.specs.declared.Refused.TheVariants.{Sizes, Code, Foreign, Place, Split, Prompt, Damaged}
use Rattle.checks.specs.declared.Refused.TheVariants.{Full, LogFull, RingFull, Misfit, Unbound, PageFull}

abbrev pub number_of : Refused → ℕ
number_of Sizes = 2
number_of Code = 3
number_of Foreign = 4
number_of Place = 5
number_of Split = 6
number_of Prompt = 7
number_of Damaged = 8
number_of Full = 9
number_of LogFull = 10
number_of RingFull = 11
number_of Misfit = 12
number_of Unbound = 13
number_of PageFull = 14

-- the number with which a test of some checks refuses, 0 where they pass
abbrev pub refused_by : {T : Type 0} → Result T Refused → ℕ
refused_by (Ok x) = 0
refused_by (Err r) = number_of r
