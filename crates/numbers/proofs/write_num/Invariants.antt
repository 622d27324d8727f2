use mathlib.Core.Path.{◌≡◌}
use Prim.Native.Nat.{◌-◌}
use lib.Seq.{sets}
use Rattle.numbers.specs.Numbers.{le}
use Rattle.numbers.proofs.write_num.Given as goal

abbrev pub invariant-loop-byte : goal.invariant-loop-byte
invariant-loop-byte l = sets l.byte-items l.byte-index (le (l.width - l.byte-index) l.rest) ≡ sets l.initial.byte-items 0 (le l.width l.v)
