-- Tests of every element, or of any. Assumes nothing.
use mathlib.Core.Path.{◌≡◌, refl, sym, ap, ◌∙◌}
use mathlib.Core.Bool.{Bool, true, false, ◌&&◌, ◌||◌, and_assoc, or_assoc}
use mathlib.Core.List.{List, [], ◌∷◌, ◌++◌}
use Prim.Native.Nat.{ℕ}
use Rattle.lists.specs.Lists.{all, any}
use Rattle.lists.proofs.Bools.{and_both, or_none}

pub all_append : (f : ℕ → Bool) (a b : List ℕ) → all f (a ++ b) ≡ (all f a && all f b)
all_append f [] b = refl
all_append f (x ∷ a) b = ap (λ (z : Bool). f x && z) (all_append f a b) ∙ sym (and_assoc (f x) (all f a) (all f b))

pub any_append : (f : ℕ → Bool) (a b : List ℕ) → any f (a ++ b) ≡ (any f a || any f b)
any_append f [] b = refl
any_append f (x ∷ a) b = ap (λ (z : Bool). f x || z) (any_append f a b) ∙ sym (or_assoc (f x) (any f a) (any f b))

-- of two lists one behind the other, from both to the whole
pub all_both : (f : ℕ → Bool) (a b : List ℕ) → all f a ≡ true → all f b ≡ true → all f (a ++ b) ≡ true
all_both f a b p q = all_append f a b ∙ rw p q

pub any_none : (f : ℕ → Bool) (a b : List ℕ) → any f a ≡ false → any f b ≡ false → any f (a ++ b) ≡ false
any_none f a b p q = any_append f a b ∙ rw p q

-- and back
pub all_parts : (f : ℕ → Bool) (a b : List ℕ) → all f (a ++ b) ≡ true → (all f a ≡ true) × (all f b ≡ true)
all_parts f a b e = and_both (all f a) (all f b) (sym (all_append f a b) ∙ e)

pub any_parts : (f : ℕ → Bool) (a b : List ℕ) → any f (a ++ b) ≡ false → (any f a ≡ false) × (any f b ≡ false)
any_parts f a b e = or_none (any f a) (any f b) (sym (any_append f a b) ∙ e)

pub all_weaken : (f g : ℕ → Bool) → ((x : ℕ) → f x ≡ true → g x ≡ true) → (l : List ℕ) → all f l ≡ true → all g l ≡ true
all_weaken f g h [] e = refl
all_weaken f g h (x ∷ l) e =
    let p = and_both (f x) (all f l) e in
    rw (h x p.0) (all_weaken f g h l p.1)
