-- Laws of the characters of a list. Assumes nothing.
use mathlib.Core.Path.{◌≡◌, refl, sym, ap, subst, ◌∙◌}
use mathlib.Core.Bool.{Bool, true, false, cond, ◌&&◌}
use mathlib.Core.List.{List, [], ◌∷◌}
use mathlib.Core.Logic.{⊎_elim, ◌⊎◌, inl, inr}
use Prim.Native.Nat.{ℕ, zero, suc, ◌+◌, ◌*◌, ◌%◌, ◌<◌, ◌≤◌}
use native.Mathlib.Omega.{arith}
use lib.Dec.{T, leb}
use lib.ListN.{length, get_or, drop}
use borrow.Author.Tests.{le-leb, lt-leb, leb-true, eqb-true}
use Rattle.utf8.specs.Utf8.{First, char, bad, within, tail, one, two, lead3, three, lead4, four, or_else, first_of, first}
use Rattle.utf8.specs.Chars.{chars_from, valid_from, chars, valid}
use Rattle.utf8.specs.Encode.{size}
use Rattle.lists.proofs.Bools.{and_both, cond_cases}

-- ---- what a character's form says of its bytes
pub within_true : (lo hi x : ℕ) → within lo hi x ≡ true → (lo ≤ x) × (x ≤ hi)
unfolding within
within_true lo hi x e = let p = and_both (leb lo x) (leb x hi) e in (leb-true lo x p.0, leb-true x hi p.1)

pub cond-char : (t : Bool) (v n cp m : ℕ) → cond t (char v n) bad ≡ char cp m → (t ≡ true) × (v ≡ cp) × (n ≡ m)
cond-char true v n cp m e = (refl, cc, cc)
cond-char false v n cp m e = let z : ◌≡◌ {A = ℕ} 0 1 = cc in absurd (omega arith)

pub or_split : (f g : First) (cp m : ℕ) → or_else f g ≡ char cp m → (f ≡ char cp m) ⊎ ((f ≡ bad) × (g ≡ char cp m))
or_split (char c n) g cp m e = inl e
or_split bad g cp m e = inr (refl, e)

pub there : (s : List ℕ) (k : ℕ) → get_or s k 256 < 256 → k < length s
there [] k h = absurd (omega arith)
there (x ∷ s) zero h = omega arith
there (x ∷ s) (suc k) h = let r = there s k h in omega arith

pub lead3_in : (a b : ℕ) → lead3 a b ≡ true → (0xE0 ≤ a) × (a ≤ 0xEF) × (0x80 ≤ b) × (b ≤ 0xBF) × (32 ≤ (a % 16) * 64 + b % 64) × (a ≡ 0xED → b ≤ 0x9F)
unfolding lead3
lead3_in a b e =
    ⊎_elim
    (λ p. let x = eqb-true a 0xE0 p.0 in let y = within_true 0xA0 0xBF b p.1 in omega arith)
    (λ e2. ⊎_elim
    (λ p. let x = within_true 0xE1 0xEC a p.0 in let y = within_true 0x80 0xBF b p.1 in omega arith)
    (λ e3. ⊎_elim
    (λ p. let x = eqb-true a 0xED p.0 in let y = within_true 0x80 0x9F b p.1 in omega arith)
    (λ e4. ⊎_elim
    (λ p. let x = within_true 0xEE 0xEF a p.0 in let y = within_true 0x80 0xBF b p.1 in omega arith)
    (λ e5. absurd (subst T (sym e5.1) tt))
    (cond_cases _ _ _ e4.1))
    (cond_cases _ _ _ e3.1))
    (cond_cases _ _ _ e2.1))
    (cond_cases _ _ _ e)

pub lead4_in :
    (a b : ℕ) → lead4 a b ≡ true →
    (0xF0 ≤ a) × (a ≤ 0xF4) × (0x80 ≤ b) × (b ≤ 0xBF) × (16 ≤ (a % 8) * 64 + b % 64) × ((a % 8) * 64 + b % 64 ≤ 0x10F)
unfolding lead4
lead4_in a b e =
    ⊎_elim
    (λ p. let x = eqb-true a 0xF0 p.0 in let y = within_true 0x90 0xBF b p.1 in omega arith)
    (λ e2. ⊎_elim
    (λ p. let x = within_true 0xF1 0xF3 a p.0 in let y = within_true 0x80 0xBF b p.1 in omega arith)
    (λ e3. ⊎_elim
    (λ p. let x = eqb-true a 0xF4 p.0 in let y = within_true 0x80 0x8F b p.1 in omega arith)
    (λ e4. absurd (subst T (sym e4.1) tt))
    (cond_cases _ _ _ e3.1))
    (cond_cases _ _ _ e2.1))
    (cond_cases _ _ _ e)

-- what a form of n bytes says: its last byte is one, and n is the size of the code point
pub record Form (last cp n k : ℕ) : Type 0 where
  pub byte : last < 256
  pub count : n ≡ suc k
  pub sized : size cp ≡ suc k

pub form_one : (a cp n : ℕ) → one a ≡ char cp n → Form a cp n 0
unfolding one size
form_one a cp n e =
    let p = cond-char (leb a 0x7F) a 1 cp n e in
    let q = leb-true a 0x7F p.0 in
    let v = p.1 in
    let w = p.2 in
    record { byte = omega arith; count = omega arith; sized = simp (le-leb cp 0x7F (omega arith)) }

pub form_two : (a b cp n : ℕ) → two a b ≡ char cp n → Form b cp n 1
unfolding two size
form_two a b cp n e =
    let p = cond-char _ _ 2 cp n e in
    let q = and_both (within 0xC2 0xDF a) (tail b) p.0 in
    let x = within_true 0xC2 0xDF a q.0 in
    let y = within_true 0x80 0xBF b q.1 in
    let v = p.1 in
    let w = p.2 in
    record { byte = omega arith; count = omega arith; sized = simp (lt-leb cp 0x7F (omega arith), le-leb cp 0x7FF (omega arith)) }

pub form_three : (a b c cp n : ℕ) → three a b c ≡ char cp n → Form c cp n 2
unfolding three size
form_three a b c cp n e =
    let p = cond-char _ _ 3 cp n e in
    let q = and_both (lead3 a b) (tail c) p.0 in
    let x = lead3_in a b q.0 in
    let y = within_true 0x80 0xBF c q.1 in
    let v = p.1 in
    let w = p.2 in
    record {
      byte = omega arith;
      count = omega arith;
      sized = simp (lt-leb cp 0x7F (omega arith), lt-leb cp 0x7FF (omega arith), le-leb cp 0xFFFF (omega arith));
    }

pub form_four : (a b c d cp n : ℕ) → four a b c d ≡ char cp n → Form d cp n 3
unfolding four size
form_four a b c d cp n e =
    let p = cond-char _ _ 4 cp n e in
    let q = and_both (lead4 a b) (tail c && tail d) p.0 in
    let r = and_both (tail c) (tail d) q.1 in
    let x = lead4_in a b q.0 in
    let y = within_true 0x80 0xBF d r.1 in
    let v = p.1 in
    let w = p.2 in
    record {
      byte = omega arith;
      count = omega arith;
      sized = simp (lt-leb cp 0x7F (omega arith), lt-leb cp 0x7FF (omega arith), lt-leb cp 0xFFFF (omega arith));
    }

-- a character has its code point's size, is not empty and lies within the list
pub record Within (t : List ℕ) (cp n : ℕ) : Type 0 where
  pub sized : n ≡ size cp
  pub some : 0 < n
  pub fits : n ≤ length t

from_form : (t : List ℕ) (cp n k : ℕ) → Form (get_or t k 256) cp n k → Within t cp n
from_form t cp n k f =
    let h = there t k f.byte in
    let a = f.count in
    record { sized = f.count ∙ sym f.sized; some = omega arith; fits = omega arith }

pub first-within : (t : List ℕ) (cp n : ℕ) → first t ≡ char cp n → Within t cp n
unfolding first first_of
first-within t cp n e =
    let a = get_or t 0 256 in
    let b = get_or t 1 256 in
    let c = get_or t 2 256 in
    let d = get_or t 3 256 in
    ⊎_elim (λ p. from_form t cp n 0 (form_one a cp n p))
    (λ q. ⊎_elim (λ p. from_form t cp n 1 (form_two a b cp n p))
    (λ q2. ⊎_elim (λ p. from_form t cp n 2 (form_three a b c cp n p))
    (λ q3. from_form t cp n 3 (form_four a b c d cp n q3.1))
    (or_split (three a b c) (four a b c d) cp n q2.1))
    (or_split (two a b) (or_else (three a b c) (four a b c d)) cp n q.1))
    (or_split (one a) (or_else (two a b) (or_else (three a b c) (four a b c d))) cp n e)

-- ---- the characters, one at a time
skip_chars : (k : ℕ) (s : List ℕ) → chars_from k s ≡ chars (drop k s)
unfolding chars_from
skip_chars zero s = refl
skip_chars (suc k) [] = refl
skip_chars (suc k) (b ∷ s) = skip_chars k s

skip_valid : (k : ℕ) (s : List ℕ) → valid_from k s ≡ valid (drop k s)
unfolding valid_from
skip_valid zero s = refl
skip_valid (suc k) [] = refl
skip_valid (suc k) (b ∷ s) = skip_valid k s

pub chars_step : (t : List ℕ) (cp n : ℕ) → first t ≡ char cp n → chars t ≡ cp ∷ chars (drop n t)
unfolding chars_from
chars_step [] cp n e = absurd (let w = first-within [] cp n e in omega arith)
chars_step (b ∷ s) cp zero e = absurd (let w = first-within (b ∷ s) cp zero e in omega arith)
chars_step (b ∷ s) cp (suc n) e = rw e (ap (λ (l : List ℕ). cp ∷ l) (skip_chars n s))

pub valid_step : (t : List ℕ) (cp n : ℕ) → first t ≡ char cp n → valid t ≡ valid (drop n t)
unfolding valid_from
valid_step [] cp n e = absurd (let w = first-within [] cp n e in omega arith)
valid_step (b ∷ s) cp zero e = absurd (let w = first-within (b ∷ s) cp zero e in omega arith)
valid_step (b ∷ s) cp (suc n) e = rw e (skip_valid n s)

pub valid-bad : (t : List ℕ) → first t ≡ bad → 0 < length t → valid t ≡ false
unfolding valid_from
valid-bad [] e h = absurd (omega arith)
valid-bad (b ∷ s) e h = rw e

pub chars-bad : (t : List ℕ) → first t ≡ bad → chars t ≡ []
unfolding chars_from
chars-bad [] e = refl
chars-bad (b ∷ s) e = rw e

pub size_pos : (c : ℕ) → 0 < size c
unfolding size
size_pos c = go (leb c 0x7F) (leb c 0x7FF) (leb c 0xFFFF)
  where
    go : (x y z : Bool) → 0 < cond x 1 (cond y 2 (cond z 3 4))
    go true y z = omega arith
    go false true z = omega arith
    go false false true = omega arith
    go false false false = omega arith

-- the first of the characters is the character at the front
pub chars_cons : (t : List ℕ) (c : ℕ) (cs : List ℕ) → chars t ≡ c ∷ cs → (first t ≡ char c (size c)) × (chars (drop (size c) t) ≡ cs)
chars_cons t c cs e = go (first t) refl
  where
    go : (f : First) → first t ≡ f → (first t ≡ char c (size c)) × (chars (drop (size c) t) ≡ cs)
    go (char cp n) q =
        let h = chars_step t cp n q in
        let z = (first-within t cp n q).sized in
        let same : cp ≡ c = cc in
        let len : n ≡ size c = z ∙ ap size same in
        (q ∙ cc, (let more : chars (drop n t) ≡ cs = cc in rw (← len) more))
    go bad q = let z : chars t ≡ [] = chars-bad t q in let o : ◌≡◌ {A = ℕ} 0 1 = cc in absurd (omega arith)
