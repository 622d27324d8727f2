-- Checks run in number order: the tests of two together give the lower of their numbers. Assumes nothing.
use Prim.Native.Nat.{ℕ, zero, suc, ◌+◌, ◌<◌}
use native.Mathlib.Omega.{arith}
use mathlib.Core.Path.{◌≡◌, refl, sym, ap, ◌∙◌}
use mathlib.Core.Bool.{Bool, true, false, cond, ◌||◌}
use mathlib.Core.Logic.{⊎_elim, ◌⊎◌, inl, inr}
use borrow.Author.Tests.{lt-ltb, le-ltb, ltb-true, ltb-false}
use lib.Dec.{ltb}
use Rattle.lists.proofs.Bools.{by_test}
use Rattle.checks.specs.Checks.{Tests, lower, both, later_number, refusal}

-- no number, or one above n
abbrev Above : ℕ → ℕ → Type 0
Above n x = (x ≡ 0) ⊎ (n < x)

same : (b : Bool) (n : ℕ) → n ≡ cond b n n
same true n = refl
same false n = refl

first-lower : (m y : ℕ) → Above (suc m) y → suc m ≡ lower (suc m) y
first-lower m zero h = refl
first-lower m (suc y) h = let e : ltb y m ≡ false = le-ltb y m (⊎_elim (λ z. omega arith) (λ z. omega arith) h) in sym (rw e)

second-lower : (m x : ℕ) → Above (suc m) x → suc m ≡ lower x (suc m)
second-lower m zero h = refl
second-lower m (suc x) h = let e : ltb m x ≡ true = lt-ltb m x (⊎_elim (λ z. omega arith) (λ z. omega arith) h) in sym (rw e)

-- one test more, of the number n, in front of those with higher numbers
stage : (m : ℕ) (p q : Bool) (x y : ℕ) → Above (suc m) x → Above (suc m) y → cond (p || q) (suc m) (lower x y) ≡ lower (cond p (suc m) x) (cond q (suc m) y)
stage m true true x y h i = same (ltb m m) (suc m)
stage m true false x y h i = first-lower m y i
stage m false true x y h i = second-lower m x h
stage m false false x y h i = refl

later-above : (k : ℕ) → Above 8 (later_number k)
later-above zero = inl refl
later-above (suc k) = inr (omega arith)

later-lower : (a b : ℕ) → later_number (lower a b) ≡ lower (later_number a) (later_number b)
later-lower zero b = refl
later-lower (suc a) zero = refl
later-lower (suc a) (suc b) =
    by_test (later_number (lower (suc a) (suc b)) ≡ lower (suc (12 + a)) (suc (12 + b))) (ltb b a)
    (λ e. let h = ltb-true b a e in let f : ltb (12 + b) (12 + a) ≡ true = lt-ltb (12 + b) (12 + a) (omega arith) in rw (e, f))
    (λ e. let h = ltb-false b a e in let f : ltb (12 + b) (12 + a) ≡ false = le-ltb (12 + b) (12 + a) (omega arith) in rw (e, f))

-- z is the lower of x and y, and each is none or above n
pub record Both (n x y z : ℕ) : Type 0 where
  pub least : z ≡ lower x y
  pub one : Above n x
  pub other : Above n y

above : (n k : ℕ) (p : Bool) (x : ℕ) → n < k → Above k x → Above n (cond p k x)
above n k true x h i = inr h
above n k false x h i = ⊎_elim (λ z. inl z) (λ z. inr (omega arith)) i

-- one test more in front
before : (n : ℕ) (p q : Bool) {x y z : ℕ} → Both (suc n) x y z → Both n (cond p (suc n) x) (cond q (suc n) y) (cond (p || q) (suc n) z)
before n p q {x} {y} b =
    record {
      least = ap (cond (p || q) (suc n)) b.least ∙ stage n p q x y b.one b.other;
      one = above n (suc n) p x (omega arith) b.one;
      other = above n (suc n) q y (omega arith) b.other;
    }

pub refusal-both : (a b : Tests) → refusal (both a b) ≡ lower (refusal a) (refusal b)
unfolding refusal
refusal-both a b =
    let last : Both 8 _ _ _ = record { least = later-lower a.later b.later; one = later-above a.later; other = later-above b.later } in
    let damaged = before 7 a.damaged b.damaged last in
    let prompt = before 6 a.prompt b.prompt damaged in
    let split = before 5 a.split b.split prompt in
    let place = before 4 a.place b.place split in
    let foreign = before 3 a.foreign b.foreign place in
    let code = before 2 a.code b.code foreign in
    (before 1 a.sizes b.sizes code).least
