-- The last element of a list, and what stands before it. Assumes nothing.
use mathlib.Core.Path.{◌≡◌, refl}
use mathlib.Core.List.{List, [], ◌∷◌, ◌++◌}
use Rattle.lists.specs.Lists.{last_or}

module _ {A : Type 0} where
  pub last_snoc : (z : A) (l : List A) (x : A) → last_or z (l ++ (x ∷ [])) ≡ x
  unfolding last_or
  last_snoc z [] x = refl
  last_snoc z (y ∷ l) x = last_snoc y l x

  -- a list read from its end
  pub data Snoc : List A → Type 0 where
    empty : Snoc []
    ended : (l : List A) (x : A) → Snoc (l ++ (x ∷ []))

  snoc_cons : (y : A) {l : List A} → Snoc l → Snoc (y ∷ l)
  snoc_cons y empty = ended [] y
  snoc_cons y (ended l x) = ended (y ∷ l) x

  pub snoc : (l : List A) → Snoc l
  snoc [] = empty
  snoc (y ∷ l) = snoc_cons y (snoc l)
