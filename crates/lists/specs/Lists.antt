-- Functions on lists that several definitions use.
use Rattle.std.specs.Prelude.{ℕ, ◌+◌, ◌-◌, Bool, true, false, ◌&&◌, ◌||◌, List, [], ◌∷◌, ◌++◌, take, drop}

abbrev pub all : (ℕ → Bool) → List ℕ → Bool
all f [] = true
all f (x ∷ l) = f x && all f l

abbrev pub any : (ℕ → Bool) → List ℕ → Bool
any f [] = false
any f (x ∷ l) = f x || any f l

abbrev pub sum : List ℕ → ℕ
sum [] = 0
sum (x ∷ l) = x + sum l

-- the bytes of s from a up to b
abbrev pub part : List ℕ → ℕ → ℕ → List ℕ
part s a b = take (b - a) (drop a s)

module _ {A : Type 0} where
  -- the lists, one behind the other
  abbrev pub concat : List (List A) → List A
  concat [] = []
  concat (k ∷ ks) = k ++ concat ks

  -- the first element, z where there is none
  abbrev pub head_or : A → List A → A
  head_or z [] = z
  head_or z (x ∷ l) = x

  -- the last element, z where there is none
  unfoldable pub last_or : A → List A → A
  last_or z [] = z
  last_or z (x ∷ l) = last_or x l
