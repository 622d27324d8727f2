-- Parts of a list, as `&s[a..]` and `&s[a..e]` lend them. Assumes nothing.
use mathlib.Core.Path.{◌≡◌, refl, sym, ap, ◌∙◌}
use mathlib.Core.List.{List, [], ◌∷◌, ◌++◌}
use Prim.Native.Nat.{ℕ, zero, suc, ◌+◌, ◌-◌, ◌<◌}
use native.Mathlib.Nat.{not-suc-le-zero, le_of_suc-le-suc}
use native.Mathlib.Omega.{arith}
use lib.ListN.{length, get_or, take, drop, length-drop, drop_of_length-le}
use lib.Seq.{take_all, take-nil, take_at, drop_at}

-- below the length, what get_or gives past the end does not matter
pub get_or_any : (l : List ℕ) (i d e : ℕ) → i < length l → get_or l i d ≡ get_or l i e
get_or_any [] i d e h = absurd (not-suc-le-zero h)
get_or_any (x ∷ l) zero d e h = refl
get_or_any (x ∷ l) (suc i) d e h = get_or_any l i d e (le_of_suc-le-suc h)

-- what `&s[a..]` lends
pub part-tail : (s : List ℕ) (a : ℕ) → take (length s - a) (drop a s) ≡ drop a s
part-tail s a = take_all (length s - a) (drop a s) (simp length-drop (omega arith))

pub drop-take : (n i : ℕ) (s : List ℕ) → drop n (take i s) ≡ take (i - n) (drop n s)
drop-take zero i s = let q : i - 0 ≡ i = omega arith in rw q
drop-take (suc n) zero s = let q : 0 - suc n ≡ 0 = omega arith in rw q
drop-take (suc n) (suc i) [] = sym (take-nil (suc i - suc n))
drop-take (suc n) (suc i) (x ∷ s) = let q : suc i - suc n ≡ i - n = omega arith in rw q (drop-take n i s)

-- a part, taken from the front of what is behind a, or from what is before its end
pub take-drop : (a n : ℕ) (l : List ℕ) → take n (drop a l) ≡ drop a (take (a + n) l)
take-drop a n l = sym (drop-take a (a + n) l ∙ ap (λ (k : ℕ). take k (drop a l)) (let e : a + n - a ≡ n = omega arith in e))

-- two ways to cut one list at one place are one
pub halves : (a b a' b' : List ℕ) → length a ≡ length a' → a ++ b ≡ a' ++ b' → (a ≡ a') × (b ≡ b')
halves a b a' b' h e = (
  sym (take_at a b (length a) refl) ∙ ap (take (length a)) e ∙ take_at a' b' (length a) (sym h),
  sym (drop_at a b (length a) refl) ∙ ap (drop (length a)) e ∙ drop_at a' b' (length a) (sym h),
)

-- a list of length 0 is the empty one
pub none_left : {A : Type 0} (l : List A) → length l ≡ 0 → l ≡ []
none_left l e = drop_of_length-le l {i = 0} (omega arith)
