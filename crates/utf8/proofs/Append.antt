-- Text in two parts: the characters of a ++ b are those of a and then those of b, where a is characters. Assumes nothing.
use mathlib.Core.Path.{◌≡◌, refl, sym, ap, subst, ◌∙◌}
use mathlib.Core.Bool.{true}
use mathlib.Core.List.{List, [], ◌∷◌, ◌++◌}
use mathlib.Core.Logic.{⊎_elim}
use Prim.Native.Nat.{ℕ, zero, suc, pred, ◌<◌, ◌≤◌}
use native.Mathlib.Omega.{arith}
use lib.Dec.{T}
use lib.ListN.{length, get_or, take, drop, take-append-drop, get_or-append, length-drop}
use Rattle.utf8.specs.Utf8.{First, char, bad, one, two, three, four, or_else, first_of, first}
use Rattle.utf8.specs.Chars.{chars_from, valid_from, chars, valid, boundary}
use Rattle.utf8.proofs.Chars.{or_split, first-within, form_one, form_two, form_three, form_four}

-- a character is read from its own n bytes
pub same_first : (t u : List ℕ) (cp n : ℕ) → first t ≡ char cp n → ((k : ℕ) → k < n → get_or u k 256 ≡ get_or t k 256) → first u ≡ char cp n
unfolding first first_of
same_first t u cp n e same =
    let a = get_or t 0 256 in
    let b = get_or t 1 256 in
    let c = get_or t 2 256 in
    let d = get_or t 3 256 in
    ⊎_elim
    (λ p. let y = (form_one a cp n p).count in let x = same 0 (omega arith) in rw (x, p))
    (λ q. ⊎_elim
    (λ p. let y = (form_two a b cp n p).count in
    let x0 = same 0 (omega arith) in
    let x1 = same 1 (omega arith) in
    rw (x0, x1, q.0, p))
    (λ q2. ⊎_elim
    (λ p. let y = (form_three a b c cp n p).count in
    let x0 = same 0 (omega arith) in
    let x1 = same 1 (omega arith) in
    let x2 = same 2 (omega arith) in
    rw (x0, x1, x2, q.0, q2.0, p))
    (λ q3. let p = q3.1 in
    let y = (form_four a b c d cp n p).count in
    let x0 = same 0 (omega arith) in
    let x1 = same 1 (omega arith) in
    let x2 = same 2 (omega arith) in
    let x3 = same 3 (omega arith) in
    rw (x0, x1, x2, x3, q.0, q2.0, q3.0, p))
    (or_split (three a b c) (four a b c d) cp n q2.1))
    (or_split (two a b) (or_else (three a b c) (four a b c d)) cp n q.1))
    (or_split (one a) (or_else (two a b) (or_else (three a b c) (four a b c d))) cp n e)

pub first-append : (a b : List ℕ) (cp n : ℕ) → first a ≡ char cp n → first (a ++ b) ≡ char cp n
first-append a b cp n e =
    let w = (first-within a cp n e).fits in
    same_first a (a ++ b) cp n e (λ k h. get_or-append a b 256 k (omega arith))

-- either a character or none
pub by_first : (P : Type 0) (t : List ℕ) → ((c n : ℕ) → first t ≡ char c n → P) → (first t ≡ bad → P) → P
by_first P t f g = go (first t) refl
  where
    go : (x : First) → first t ≡ x → P
    go (char c n) e = f c n e
    go bad e = g e

-- what holds where no character stands, and of a character in front of where it holds, holds of every list
pub by_chars : (P : List ℕ → Type 0) → ((t : List ℕ) → first t ≡ bad → P t) → ((t : List ℕ) (c n : ℕ) → first t ≡ char c n → P (drop n t) → P t) →
    (s : List ℕ) → P s
by_chars P none more s = go (length s) s (omega arith)
  where
    go : (m : ℕ) (t : List ℕ) → length t ≤ m → P t
    go zero t l = by_first _ t (λ c n e. absurd (let w = first-within t c n e in omega arith)) (λ e. none t e)
    go (suc m) t l =
        by_first _ t (λ c n e. let w = first-within t c n e in more t c n e (go m (drop n t) (omega (arith, length-drop n t)))) (λ e. none t e)

chars-from : (a b : List ℕ) (k : ℕ) → valid_from k a ≡ true → k ≤ length a → chars_from k (a ++ b) ≡ chars_from k a ++ chars b
unfolding chars_from valid_from
chars-from [] b zero v h = refl
chars-from [] b (suc k) v h = absurd (omega arith)
chars-from (x ∷ a) b (suc k) v h = chars-from a b k v (omega arith)
chars-from (x ∷ a) b zero v h =
    by_first _ (x ∷ a)
    (λ c n e.
    let w = first-within (x ∷ a) c n e in
    let w1 = w.fits in
    let w2 = w.some in
    let v2 : valid_from (pred n) a ≡ true = rw e at v in
    rw (e, first-append (x ∷ a) b c n e) (ap (λ (l : List ℕ). c ∷ l) (chars-from a b (pred n) v2 (omega arith))))
    (λ e. absurd (subst T (rw e at (sym v)) tt))

valid-from : (a b : List ℕ) (k : ℕ) → valid_from k a ≡ true → k ≤ length a → valid_from k (a ++ b) ≡ valid b
unfolding valid_from
valid-from [] b zero v h = refl
valid-from [] b (suc k) v h = absurd (omega arith)
valid-from (x ∷ a) b (suc k) v h = valid-from a b k v (omega arith)
valid-from (x ∷ a) b zero v h =
    by_first _ (x ∷ a)
    (λ c n e.
    let w = first-within (x ∷ a) c n e in
    let w1 = w.fits in
    let w2 = w.some in
    let v2 : valid_from (pred n) a ≡ true = rw e at v in
    rw (first-append (x ∷ a) b c n e) (valid-from a b (pred n) v2 (omega arith)))
    (λ e. absurd (subst T (rw e at (sym v)) tt))

pub chars-append : (a b : List ℕ) → valid a ≡ true → chars (a ++ b) ≡ chars a ++ chars b
chars-append a b v = chars-from a b 0 v (omega arith)

pub valid-append : (a b : List ℕ) → valid a ≡ true → valid (a ++ b) ≡ valid b
valid-append a b v = valid-from a b 0 v (omega arith)

-- ---- a text cut at a character boundary
pub chars-cut : (s : List ℕ) (i : ℕ) → boundary s i ≡ true → chars s ≡ chars (take i s) ++ chars (drop i s)
chars-cut s i v = ap chars (sym (take-append-drop i s)) ∙ chars-append (take i s) (drop i s) v

pub valid-cut : (s : List ℕ) (i : ℕ) → boundary s i ≡ true → valid s ≡ valid (drop i s)
valid-cut s i v = ap valid (sym (take-append-drop i s)) ∙ valid-append (take i s) (drop i s) v
