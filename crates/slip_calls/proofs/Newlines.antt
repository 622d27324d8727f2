-- Whether \n is among some bytes, as a slice's `contains` says it. Assumes nothing.
use Prim.Native.Nat.{ℕ}
use mathlib.Core.Path.{◌≡◌, refl, ap₂}
use mathlib.Core.Bool.{◌||◌}
use mathlib.Core.List.{List, [], ◌∷◌}
use native.Mathlib.Omega.{arith}
use lib.Dec.{eqb}
use Rattle.std.proofs.lemmas.Bool.Decides.{nat_tests}
use Rattle.std.specs.List.{list_any}
use Rattle.lists.specs.Lists.{any}

eqb-swap : (x y : ℕ) → eqb x y ≡ eqb y x
eqb-swap x y = grind (arith, nat_tests)

pub newline-among : (s : List ℕ) → list_any (λ y. eqb y 0x0A) s ≡ any (eqb 0x0A) s
newline-among [] = refl
newline-among (x ∷ s) = ap₂ ◌||◌ (eqb-swap x 0x0A) (newline-among s)
