-- Laws of tests, and case splits on them. Assumes nothing.
use mathlib.Core.Path.{◌≡◌, refl, sym, subst, ◌∙◌}
use mathlib.Core.Bool.{Bool, true, false, cond, ◌&&◌, ◌||◌}
use mathlib.Core.Logic.{◌⊎◌, inl, inr}
use Prim.Native.Nat.{ℕ, ◌<◌, ◌≤◌}
use native.Mathlib.Omega.{arith}
use native.Mathlib.Decide.{dec_lt}
use lib.Dec.{T}

pub and_both : (a b : Bool) → a && b ≡ true → (a ≡ true) × (b ≡ true)
and_both true b e = (refl, e)
and_both false b e = (e, absurd (subst T (sym e) tt))

pub and_swap : (a b c : Bool) → (a && (b && c)) ≡ (b && (a && c))
and_swap true b c = refl
and_swap false true c = refl
and_swap false false c = refl

-- no test is both
pub never : (P : Type 0) (b : Bool) → b ≡ true → b ≡ false → P
never P b t f = absurd (subst T (sym t ∙ f) tt)

-- neither of two tests is met
pub or_none : (a b : Bool) → a || b ≡ false → (a ≡ false) × (b ≡ false)
or_none true b e = never _ true refl e
or_none false b e = (refl, e)

pub cond_cases : (t : Bool) (a b : Bool) → cond t a b ≡ true → ((t ≡ true) × (a ≡ true)) ⊎ ((t ≡ false) × (b ≡ true))
cond_cases true a b e = inl (refl, e)
cond_cases false a b e = inr (refl, e)

pub by_test : (P : Type 0) (b : Bool) → (b ≡ true → P) → (b ≡ false → P) → P
by_test P true f g = f refl
by_test P false f g = g refl

pub by_less : (P : Type 0) (a b : ℕ) → (a < b → P) → (b ≤ a → P) → P
by_less P a b f g = go (dec_lt a b)
  where
    go : Dec (a < b) → P
    go (yes h) = f h
    go (no h) = g (omega arith)
