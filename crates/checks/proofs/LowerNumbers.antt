-- The lower of two numbers, where 0 is none: in any order, taken together in any way, and of a number with itself. Assumes nothing.
use Prim.Native.Nat.{ℕ, zero, suc, ◌≤◌, ◌<◌}
use native.Mathlib.Omega.{arith}
use mathlib.Core.Path.{◌≡◌, refl, sym, ap, ◌∙◌}
use borrow.Author.Tests.{lt-ltb, le-ltb}
use Rattle.lists.proofs.Bools.{by_less}
use Rattle.checks.specs.Checks.{lower}

pub lower_none : (a : ℕ) → lower a 0 ≡ a
lower_none zero = refl
lower_none (suc a) = refl

pub lower-first : (a b : ℕ) → a ≤ b → lower (suc a) (suc b) ≡ suc a
lower-first a b h = rw (le-ltb b a h)

pub lower-second : (a b : ℕ) → b ≤ a → lower (suc a) (suc b) ≡ suc b
lower-second a b h =
    by_less (lower (suc a) (suc b) ≡ suc b) b a (λ k. rw (lt-ltb b a k)) (λ k. rw (le-ltb b a k) (omega arith))

pub lower-same : (a : ℕ) → lower a a ≡ a
lower-same zero = refl
lower-same (suc a) = lower-first a a (omega arith)

pub lower_swap : (a b : ℕ) → lower a b ≡ lower b a
lower_swap zero b = sym (lower_none b)
lower_swap (suc a) zero = refl
lower_swap (suc a) (suc b) =
    by_less (lower (suc a) (suc b) ≡ lower (suc b) (suc a)) a b
    (λ h. lower-first a b (omega arith) ∙ sym (lower-second b a (omega arith)))
    (λ h. lower-second a b h ∙ sym (lower-first b a h))

pub lower-three : (a b c : ℕ) → lower (lower a b) c ≡ lower a (lower b c)
lower-three zero b c = refl
lower-three (suc a) zero c = refl
lower-three (suc a) (suc b) zero = lower_none (lower (suc a) (suc b))
lower-three (suc a) (suc b) (suc c) =
    by_less (lower (lower (suc a) (suc b)) (suc c) ≡ lower (suc a) (lower (suc b) (suc c))) b a
    (λ h.
    ap (λ (k : ℕ). lower k (suc c)) (lower-second a b (omega arith))
    ∙ by_less (lower (suc b) (suc c) ≡ lower (suc a) (lower (suc b) (suc c))) c b
    (λ k. lower-second b c (omega arith) ∙ sym (ap (lower (suc a)) (lower-second b c (omega arith)) ∙ lower-second a c (omega arith)))
    (λ k. lower-first b c k ∙ sym (ap (lower (suc a)) (lower-first b c k) ∙ lower-second a b (omega arith))))
    (λ h.
    ap (λ (k : ℕ). lower k (suc c)) (lower-first a b h)
    ∙ by_less (lower (suc a) (suc c) ≡ lower (suc a) (lower (suc b) (suc c))) c b
    (λ k. sym (ap (lower (suc a)) (lower-second b c (omega arith))))
    (λ k. lower-first a c (omega arith) ∙ sym (ap (lower (suc a)) (lower-first b c k) ∙ lower-first a b h)))

-- by which of them is none, and which is less
pub only_first : (a b : ℕ) → b ≡ 0 → a ≡ lower a b
only_first a b e = sym (ap (lower a) e ∙ lower_none a)

pub second_less : (a b : ℕ) → (b ≡ 0 → ⊥) → b < a → b ≡ lower a b
second_less zero b h i = absurd (omega arith)
second_less (suc a) zero h i = absurd (h refl)
second_less (suc a) (suc b) h i = sym (lower-second a b (omega arith))

pub first-least : (a b : ℕ) → (a ≡ 0 → ⊥) → a ≤ b → a ≡ lower a b
first-least zero b h i = absurd (h refl)
first-least (suc a) zero h i = absurd (omega arith)
first-least (suc a) (suc b) h i = sym (lower-first a b (omega arith))

-- a number taken in once more
pub lower_again : (a b : ℕ) → lower a (lower a b) ≡ lower a b
lower_again a b = sym (lower-three a a b) ∙ ap (λ (k : ℕ). lower k b) (lower-same a)

-- none of both
pub lower-nothing : (a b : ℕ) → lower a b ≡ 0 → (a ≡ 0) × (b ≡ 0)
lower-nothing zero b e = (refl, e)
lower-nothing (suc a) zero e = absurd (omega arith)
lower-nothing (suc a) (suc b) e =
    by_less ((suc a ≡ 0) × (suc b ≡ 0)) b a
    (λ h. absurd (omega (arith, sym (lower-second a b (omega arith)) ∙ e))) (λ h. absurd (omega (arith, sym (lower-first a b h) ∙ e)))
