-- What holds of every element of a list. Assumes nothing.
use mathlib.Core.Path.{sym, subst}
use mathlib.Core.List.{List, [], ◌∷◌, ◌++◌, reverse, reverse-cons}
use Prim.Native.Nat.{ℕ, zero, suc}
use lib.ListN.{take, drop}

module _ {A : Type 0} where
  abbrev pub Every : (A → Type 0) → List A → Type 0
  Every P [] = Unit {0}
  Every P (x ∷ l) = P x × Every P l

  pub every_weaken : (P Q : A → Type 0) → ((x : A) → P x → Q x) → (l : List A) → Every P l → Every Q l
  every_weaken P Q f [] h = tt
  every_weaken P Q f (x ∷ l) h = (f x h.0, every_weaken P Q f l h.1)

  pub every_append : (P : A → Type 0) (a b : List A) → Every P a → Every P b → Every P (a ++ b)
  every_append P [] b h k = k
  every_append P (x ∷ a) b h k = (h.0, every_append P a b h.1 k)

  pub every_parts : (P : A → Type 0) (a b : List A) → Every P (a ++ b) → Every P a × Every P b
  every_parts P [] b h = (tt, h)
  every_parts P (x ∷ a) b h =
      let rest = every_parts P a b h.1 in
      ((h.0, rest.0), rest.1)

  pub every_both : (P Q : A → Type 0) (l : List A) → Every P l → Every Q l → Every (λ (x : A). P x × Q x) l
  every_both P Q [] h k = tt
  every_both P Q (x ∷ l) h k = ((h.0, k.0), every_both P Q l h.1 k.1)

  pub every_take : (P : A → Type 0) (n : ℕ) (l : List A) → Every P l → Every P (take n l)
  every_take P zero l h = tt
  every_take P (suc n) [] h = tt
  every_take P (suc n) (x ∷ l) h = (h.0, every_take P n l h.1)

  pub every_drop : (P : A → Type 0) (n : ℕ) (l : List A) → Every P l → Every P (drop n l)
  every_drop P zero l h = h
  every_drop P (suc n) [] h = tt
  every_drop P (suc n) (x ∷ l) h = every_drop P n l h.1

  pub every_reverse : (P : A → Type 0) (l : List A) → Every P l → Every P (reverse l)
  every_reverse P [] h = tt
  every_reverse P (x ∷ l) h = subst (Every P) (sym (reverse-cons x l)) (every_append P (reverse l) (x ∷ []) (every_reverse P l h.1) (h.0, tt))
