-- The columns of a character, over any lawful repertoire. Assumes nothing.
use Prim.Native.Nat.{ℕ, ◌≤◌}
use mathlib.Core.Bool.{Bool, true, false, cond}
use native.Mathlib.Omega.{arith}
use Rattle.repertoire.specs.Repertoire.{Repertoire, Lawful}

one-most : (b : Bool) → cond b 0 1 ≤ 1
one-most true = omega arith
one-most false = omega arith

-- no character takes more than a column
pub width-most : (R : Repertoire) → Lawful R → (c : ℕ) → R.width c ≤ 1
width-most R law c = omega (arith, law.widths c, one-most (R.mark c))
