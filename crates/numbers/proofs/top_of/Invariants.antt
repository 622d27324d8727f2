use mathlib.Core.Path.{◌≡◌}
use Rattle.numbers.specs.Numbers.{top}
use Rattle.numbers.proofs.top_of.Given as goal

abbrev pub invariant-loop : goal.invariant-loop
invariant-loop l = l.above ≡ top l.counter
