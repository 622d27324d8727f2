-- Laws of the bytes of a code point: they are read back as it, and every character has the bytes of its code point. Assumes nothing.
use mathlib.Core.Path.{◌≡◌, refl, sym, ap, ◌∙◌}
use mathlib.Core.Bool.{true, false, ◌&&◌, not, and-false}
use mathlib.Core.List.{List, [], ◌∷◌, ◌++◌, append_assoc, append-nil}
use mathlib.Core.Logic.{⊎_elim, ◌⊎◌, inl, inr}
use Prim.Native.Nat.{ℕ, suc, ◌+◌, ◌*◌, ◌/◌, ◌%◌, ◌<◌, ◌≤◌}
use native.Mathlib.Omega.{arith}
use lib.Dec.{leb, eqb}
use lib.ListN.{length, get_or, take, drop, set, take-append-drop}
use Rattle.std.specs.Prelude.{Option, Some, None}
use lib.Seq.{sets, take-suc, drop_at}
use borrow.Author.Tests.{le-leb, lt-leb, leb-true, eqb-true, eqb-false}
use Rattle.lists.specs.Lists.{all}
use Rattle.lists.proofs.Bools.{and_both, by_less, by_test, never}
use Rattle.utf8.specs.Utf8.{char, bad, within, tail, one, two, lead3, three, lead4, four, or_else, first_of, first}
use Rattle.utf8.specs.Chars.{chars, valid, chars_from, valid_from}
use Rattle.utf8.specs.Encode.{scalar, size, one_byte, two_bytes, three_bytes, four_bytes, encode, encode_all, fitting, EncodedAt}
use Rattle.utf8.proofs.Forms.{within_in, within-below, within-above, first_one, first_two, first_three, first-four}
use Rattle.utf8.proofs.Chars.{or_split, first-within, lead3_in, lead4_in, within_true, cond-char, chars_step, valid_step, valid-bad}
use Rattle.utf8.proofs.Chars.{chars-bad}
use Rattle.utf8.proofs.Append.{by_chars}

-- ---- a code point by its size
-- n bytes l, in the range of code points that the table gives them
record Row (c n : ℕ) (l : List ℕ) : Type 0 where
  pub sized : size c ≡ n
  pub bytes : encode c ≡ l

row_one : (c : ℕ) → c ≤ 0x7F → Row c 1 (one_byte c)
unfolding size encode
row_one c h = let a = le-leb c 0x7F h in record { sized = rw a; bytes = rw a }

row-two : (c : ℕ) → 0x7F < c → c ≤ 0x7FF → Row c 2 (two_bytes c)
unfolding size encode
row-two c l h = let a = lt-leb c 0x7F l in let b = le-leb c 0x7FF h in record { sized = rw (a, b); bytes = rw (a, b) }

row-three : (c : ℕ) → 0x7FF < c → c ≤ 0xFFFF → Row c 3 (three_bytes c)
unfolding size encode
row-three c l h =
    let a = lt-leb c 0x7F (omega arith) in
    let b = lt-leb c 0x7FF l in
    let d = le-leb c 0xFFFF h in
    record { sized = rw (a, b, d); bytes = rw (a, b, d) }

row-four : (c : ℕ) → 0xFFFF < c → Row c 4 (four_bytes c)
unfolding size encode
row-four c l =
    let a = lt-leb c 0x7F (omega arith) in
    let b = lt-leb c 0x7FF (omega arith) in
    let d = lt-leb c 0xFFFF l in
    record { sized = rw (a, b, d); bytes = rw (a, b, d) }

by_row : (P : Type 0) (c : ℕ) → (c ≤ 0x7F → P) → (0x7F < c → c ≤ 0x7FF → P) → (0x7FF < c → c ≤ 0xFFFF → P) → (0xFFFF < c → P) → P
by_row P c f1 f2 f3 f4 =
    by_less _ 0x7F c (λ l. by_less _ 0x7FF c (λ m. by_less _ 0xFFFF c f4 (f3 m)) (f2 l)) f1

pub size-encode : (c : ℕ) → length (encode c) ≡ size c
size-encode c =
    by_row _ c
    (λ h. let r = row_one c h in ap length r.bytes ∙ sym r.sized)
    (λ l h. let r = row-two c l h in ap length r.bytes ∙ sym r.sized)
    (λ l h. let r = row-three c l h in ap length r.bytes ∙ sym r.sized)
    (λ l. let r = row-four c l in ap length r.bytes ∙ sym r.sized)

-- four bytes at most
pub size_max : (c : ℕ) → size c ≤ 4
size_max c =
    by_row _ c (λ h. omega (arith, (row_one c h).sized)) (λ l h. omega (arith, (row-two c l h).sized)) (λ l h. omega (arith, (row-three c l h).sized))
    (λ l. omega (arith, (row-four c l).sized))

pub encode_max : (c : ℕ) → length (encode c) ≤ 4
encode_max c = omega (arith, size-encode c, size_max c)

-- the bytes of one character
pub encode-single : (c : ℕ) → encode_all (c ∷ []) ≡ encode c
unfolding encode_all
encode-single c = append-nil (encode c)

-- the range of a size
pub size_1 : (c n : ℕ) → n ≡ size c → n ≡ 1 → c ≤ 0x7F
size_1 c n e k =
    by_row _ c (λ h. h) (λ l h. absurd (omega (arith, (row-two c l h).sized))) (λ l h. absurd (omega (arith, (row-three c l h).sized)))
    (λ l. absurd (omega (arith, (row-four c l).sized)))

pub size_2 : (c n : ℕ) → n ≡ size c → n ≡ 2 → (0x7F < c) × (c ≤ 0x7FF)
size_2 c n e k =
    by_row _ c (λ h. absurd (omega (arith, (row_one c h).sized))) (λ l h. (l, h)) (λ l h. absurd (omega (arith, (row-three c l h).sized)))
    (λ l. absurd (omega (arith, (row-four c l).sized)))

pub size_3 : (c n : ℕ) → n ≡ size c → n ≡ 3 → (0x7FF < c) × (c ≤ 0xFFFF)
size_3 c n e k =
    by_row _ c (λ h. absurd (omega (arith, (row_one c h).sized))) (λ l h. absurd (omega (arith, (row-two c l h).sized))) (λ l h. (l, h))
    (λ l. absurd (omega (arith, (row-four c l).sized)))

pub size_4 : (c n : ℕ) → n ≡ size c → (n ≡ 1 → ⊥) → (n ≡ 2 → ⊥) → (n ≡ 3 → ⊥) → (0xFFFF < c) × (n ≡ 4)
size_4 c n e n1 n2 n3 =
    by_row _ c (λ h. absurd (n1 (e ∙ (row_one c h).sized))) (λ l h. absurd (n2 (e ∙ (row-two c l h).sized))) (λ l h. absurd (n3 (e ∙ (row-three c l h).sized)))
    (λ l. (l, e ∙ (row-four c l).sized))

-- ---- the code points that have a form
pub scalar_true : (c : ℕ) → scalar c ≡ true → (c ≤ 0x10FFFF) × ((c < 0xD800) ⊎ (0xDFFF < c))
unfolding scalar within
scalar_true c e =
    let p = and_both (leb c 0x10FFFF) (not (within 0xD800 0xDFFF c)) e in
    (leb-true c 0x10FFFF p.0, by_less _ c 0xD800 inl (λ l. by_less _ 0xDFFF c inr (λ h. never _ _ p.1 (rw (le-leb 0xD800 c l, le-leb c 0xDFFF h)))))

pub scalar_low : (c : ℕ) → c < 0xD800 → scalar c ≡ true
unfolding scalar
scalar_low c h = rw (le-leb c 0x10FFFF (omega arith), within-below 0xD800 0xDFFF c h)

pub scalar_high : (c : ℕ) → 0xDFFF < c → c ≤ 0x10FFFF → scalar c ≡ true
unfolding scalar
scalar_high c l h = rw (le-leb c 0x10FFFF h, within-above 0xD800 0xDFFF c l)

-- ---- the bytes of a code point are read back
by_equal : (P : Type 0) (a b : ℕ) → (eqb a b ≡ true → a ≡ b → P) → (eqb a b ≡ false → (a ≡ b → ⊥) → P) → P
by_equal P a b f g = by_test P (eqb a b) (λ t. f t (eqb-true a b t)) (λ t. g t (eqb-false a b t))

lead3_true : (a b : ℕ) → 0xE0 ≤ a → a ≤ 0xEF → 0x80 ≤ b → b ≤ 0xBF → (a ≡ 0xE0 → 0xA0 ≤ b) → (a ≡ 0xED → b ≤ 0x9F) → lead3 a b ≡ true
unfolding lead3
lead3_true a b la ha lb hb over low =
    by_equal _ a 0xE0 (λ t e. rw t (within_in 0xA0 0xBF b (over e) hb))
    (λ t1 n1. by_less _ a 0xED
    (λ h. rw (t1, within_in 0xE1 0xEC a (omega arith) (omega arith)) (within_in 0x80 0xBF b lb hb))
    (λ h. let w = within-above 0xE1 0xEC a (omega arith) in
    by_equal _ a 0xED (λ t e. rw (t1, w, t) (within_in 0x80 0x9F b lb (low e)))
    (λ t n. rw (t1, w, t, within_in 0xEE 0xEF a (omega arith) ha) (within_in 0x80 0xBF b lb hb))))

lead4_true : (a b : ℕ) → 0xF0 ≤ a → a ≤ 0xF4 → 0x80 ≤ b → b ≤ 0xBF → (a ≡ 0xF0 → 0x90 ≤ b) → (a ≡ 0xF4 → b ≤ 0x8F) → lead4 a b ≡ true
unfolding lead4
lead4_true a b la ha lb hb over low =
    by_equal _ a 0xF0 (λ t e. rw t (within_in 0x90 0xBF b (over e) hb))
    (λ t1 n1. by_equal _ a 0xF4
    (λ t e. rw (t1, within-above 0xF1 0xF3 a (omega arith), t) (within_in 0x80 0x8F b lb (low e)))
    (λ t n. rw (t1, within_in 0xF1 0xF3 a (omega arith) (omega arith)) (within_in 0x80 0xBF b lb hb)))

tail_six : (x : ℕ) → tail (0x80 + x % 64) ≡ true
tail_six x = within_in 0x80 0xBF (0x80 + x % 64) (omega arith) (omega arith)

-- the low six bits behind the others
low_six : (c x : ℕ) → x ≡ c / 64 → x * 64 + (0x80 + c % 64) % 64 ≡ c
low_six c x e = omega arith

first-two-bytes : (c : ℕ) (t : List ℕ) → 0x7F < c → c ≤ 0x7FF → first (two_bytes c ++ t) ≡ char c 2
unfolding first two
first-two-bytes c t l h =
    let a = 0xC0 + c / 64 in
    let v : (a % 32) * 64 + (0x80 + c % 64) % 64 ≡ c = low_six c (a % 32) (omega arith) in
    first_two a (0x80 + c % 64) _ _ (omega arith) (omega arith) ∙ rw (within_in 0xC2 0xDF a (omega arith) (omega arith), tail_six c, v)

first-three-bytes : (c : ℕ) (t : List ℕ) → 0x7FF < c → c ≤ 0xFFFF → (c < 0xD800) ⊎ (0xDFFF < c) → first (three_bytes c ++ t) ≡ char c 3
unfolding first three
first-three-bytes c t l h gap =
    let a = 0xE0 + c / 4096 in
    let b = 0x80 + c / 64 % 64 in
    let v : (a % 16) * 64 + b % 64 ≡ c / 64 = low_six (c / 64) (a % 16) (omega arith) in
    let over : a ≡ 0xE0 → 0xA0 ≤ b = λ e. omega arith in
    let low : a ≡ 0xED → b ≤ 0x9F = λ e. ⊎_elim (λ g. omega arith) (λ g. omega arith) gap in
    first_three a b (0x80 + c % 64) _ (omega arith) (omega arith) ∙
    rw (lead3_true a b (omega arith) (omega arith) (omega arith) (omega arith) over low, tail_six c, low_six c ((a % 16) * 64 + b % 64) v)

first-four-bytes : (c : ℕ) (t : List ℕ) → 0xFFFF < c → c ≤ 0x10FFFF → first (four_bytes c ++ t) ≡ char c 4
unfolding first four
first-four-bytes c t l h =
    let a = 0xF0 + c / 262144 in
    let b = 0x80 + c / 4096 % 64 in
    let d = 0x80 + c / 64 % 64 in
    let u : (a % 8) * 64 + b % 64 ≡ c / 4096 = low_six (c / 4096) (a % 8) (omega arith) in
    let v : ((a % 8) * 64 + b % 64) * 64 + d % 64 ≡ c / 64 = low_six (c / 64) ((a % 8) * 64 + b % 64) (omega arith) in
    let over : a ≡ 0xF0 → 0x90 ≤ b = λ e. omega arith in
    let low : a ≡ 0xF4 → b ≤ 0x8F = λ e. omega arith in
    first-four a b d (0x80 + c % 64) (omega arith) ∙
    rw (
      lead4_true a b (omega arith) (omega arith) (omega arith) (omega arith) over low,
      tail_six (c / 64),
      tail_six c,
      low_six c (((a % 8) * 64 + b % 64) * 64 + d % 64) v,
    )

from_row : (c n : ℕ) (l t : List ℕ) → Row c n l → first (l ++ t) ≡ char c n → first (encode c ++ t) ≡ char c (size c)
from_row c n l t r e = rw (r.bytes, r.sized) e

pub first-encode : (c : ℕ) (t : List ℕ) → scalar c ≡ true → first (encode c ++ t) ≡ char c (size c)
unfolding first
first-encode c t s =
    let p = scalar_true c s in
    by_row _ c
    (λ h. from_row c 1 (one_byte c) t (row_one c h) (first_one c _ _ _ h))
    (λ l h. from_row c 2 (two_bytes c) t (row-two c l h) (first-two-bytes c t l h))
    (λ l h. from_row c 3 (three_bytes c) t (row-three c l h) (first-three-bytes c t l h p.1))
    (λ l. from_row c 4 (four_bytes c) t (row-four c l) (first-four-bytes c t l p.0))

-- ---- every character has the bytes of its code point
record Coded (c n : ℕ) (l : List ℕ) : Type 0 where
  good : scalar c ≡ true
  bytes : l ≡ encode c
  count : n ≡ length l

coded_one : (a cp n : ℕ) → one a ≡ char cp n → Coded cp n (a ∷ [])
unfolding one
coded_one a cp n e =
    let p = cond-char (leb a 0x7F) a 1 cp n e in
    let h = leb-true a 0x7F p.0 in
    let v = p.1 in
    record { good = scalar_low cp (omega arith); bytes = rw ((row_one cp (omega arith)).bytes, v); count = sym p.2 }

coded_two : (a b cp n : ℕ) → two a b ≡ char cp n → Coded cp n (a ∷ b ∷ [])
unfolding two
coded_two a b cp n e =
    let p = cond-char _ _ 2 cp n e in
    let q = and_both (within 0xC2 0xDF a) (tail b) p.0 in
    let x = within_true 0xC2 0xDF a q.0 in
    let y = within_true 0x80 0xBF b q.1 in
    let v = p.1 in
    let e0 : 0xC0 + cp / 64 ≡ a = omega arith in
    let e1 : 0x80 + cp % 64 ≡ b = omega arith in
    record { good = scalar_low cp (omega arith); bytes = rw ((row-two cp (omega arith) (omega arith)).bytes, e0, e1); count = sym p.2 }

below_surrogates : (a b c cp : ℕ) → a ≡ 0xED → 0x80 ≤ b → b ≤ 0x9F → ((a % 16) * 64 + b % 64) * 64 + c % 64 ≡ cp → 0xD800 ≤ cp → ⊥
below_surrogates a b c cp e l h v s = omega arith

coded_three : (a b c cp n : ℕ) → three a b c ≡ char cp n → Coded cp n (a ∷ b ∷ c ∷ [])
unfolding three
coded_three a b c cp n e =
    let p = cond-char _ _ 3 cp n e in
    let q = and_both (lead3 a b) (tail c) p.0 in
    let x = lead3_in a b q.0 in
    let y = within_true 0x80 0xBF c q.1 in
    let v = p.1 in
    let e0 : 0xE0 + cp / 4096 ≡ a = omega arith in
    let e1 : 0x80 + cp / 64 % 64 ≡ b = omega arith in
    let e2 : 0x80 + cp % 64 ≡ c = omega arith in
    record {
      good =
          by_less _ cp 0xD800 (scalar_low cp)
          (λ l. by_less _ 0xDFFF cp (λ h. scalar_high cp h (omega arith))
          (λ h. let w : a ≡ 0xED = omega arith in absurd (below_surrogates a b c cp w x.2 (x.5 w) v l)));
      bytes = rw ((row-three cp (omega arith) (omega arith)).bytes, e0, e1, e2);
      count = sym p.2;
    }

coded_four : (a b c d cp n : ℕ) → four a b c d ≡ char cp n → Coded cp n (a ∷ b ∷ c ∷ d ∷ [])
unfolding four
coded_four a b c d cp n e =
    let p = cond-char _ _ 4 cp n e in
    let q = and_both (lead4 a b) (tail c && tail d) p.0 in
    let r = and_both (tail c) (tail d) q.1 in
    let x = lead4_in a b q.0 in
    let y = within_true 0x80 0xBF c r.0 in
    let z = within_true 0x80 0xBF d r.1 in
    let v = p.1 in
    let e0 : 0xF0 + cp / 262144 ≡ a = omega arith in
    let e1 : 0x80 + cp / 4096 % 64 ≡ b = omega arith in
    let e2 : 0x80 + cp / 64 % 64 ≡ c = omega arith in
    let e3 : 0x80 + cp % 64 ≡ d = omega arith in
    record { good = scalar_high cp (omega arith) (omega arith); bytes = rw ((row-four cp (omega arith)).bytes, e0, e1, e2, e3); count = sym p.2 }

coded_by : (t l : List ℕ) (cp n : ℕ) → Coded cp n l → take (length l) t ≡ l → Coded cp n (take n t)
coded_by t l cp n k e =
    let p : take n t ≡ l = rw k.count e in
    record { good = k.good; bytes = p ∙ k.bytes; count = k.count ∙ ap length (sym p) }

first_coded : (t : List ℕ) (cp n : ℕ) → first t ≡ char cp n → Coded cp n (take n t)
unfolding first first_of
first_coded t cp n e =
    let a = get_or t 0 256 in
    let b = get_or t 1 256 in
    let c = get_or t 2 256 in
    let d = get_or t 3 256 in
    let w = (first-within t cp n e).fits in
    ⊎_elim
    (λ p. let k = coded_one a cp n p in let m = k.count in coded_by t (a ∷ []) cp n k (take-suc t 0 256 (omega arith)))
    (λ q. ⊎_elim
    (λ p. let k = coded_two a b cp n p in
    let m = k.count in
    coded_by t (a ∷ b ∷ []) cp n k (simp (take-suc t 1 256 (omega arith), take-suc t 0 256 (omega arith))))
    (λ q2. ⊎_elim
    (λ p. let k = coded_three a b c cp n p in
    let m = k.count in
    coded_by t (a ∷ b ∷ c ∷ []) cp n k (simp (take-suc t 2 256 (omega arith), take-suc t 1 256 (omega arith), take-suc t 0 256 (omega arith))))
    (λ q3. let k = coded_four a b c d cp n q3.1 in
    let m = k.count in
    coded_by t (a ∷ b ∷ c ∷ d ∷ []) cp n k
    (simp (take-suc t 3 256 (omega arith), take-suc t 2 256 (omega arith), take-suc t 1 256 (omega arith), take-suc t 0 256 (omega arith))))
    (or_split (three a b c) (four a b c d) cp n q2.1))
    (or_split (two a b) (or_else (three a b c) (four a b c d)) cp n q.1))
    (or_split (one a) (or_else (two a b) (or_else (three a b c) (four a b c d))) cp n e)

pub first-scalar : (t : List ℕ) (c n : ℕ) → first t ≡ char c n → scalar c ≡ true
first-scalar t c n e = (first_coded t c n e).good

pub encode-first : (t : List ℕ) (c n : ℕ) → first t ≡ char c n → take n t ≡ encode c
encode-first t c n e = (first_coded t c n e).bytes

-- ---- lists of characters
pub encode_all-append : (a b : List ℕ) → encode_all (a ++ b) ≡ encode_all a ++ encode_all b
unfolding encode_all
encode_all-append [] b = refl
encode_all-append (c ∷ a) b = rw (encode_all-append a b, append_assoc)

drop-encode : (c : ℕ) (t : List ℕ) → drop (size c) (encode c ++ t) ≡ t
drop-encode c t = drop_at (encode c) t (size c) (size-encode c)

pub chars-encode : (cs : List ℕ) → all scalar cs ≡ true → chars (encode_all cs) ≡ cs
unfolding encode_all chars_from
chars-encode [] h = refl
chars-encode (c ∷ cs) h =
    let p = and_both (scalar c) (all scalar cs) h in
    chars_step (encode c ++ encode_all cs) c (size c) (first-encode c (encode_all cs) p.0) ∙
    ap (λ (l : List ℕ). c ∷ l) (ap chars (drop-encode c (encode_all cs)) ∙ chars-encode cs p.1)

pub valid-encode : (cs : List ℕ) → all scalar cs ≡ true → valid (encode_all cs) ≡ true
unfolding encode_all valid_from
valid-encode [] h = refl
valid-encode (c ∷ cs) h =
    let p = and_both (scalar c) (all scalar cs) h in
    valid_step (encode c ++ encode_all cs) c (size c) (first-encode c (encode_all cs) p.0) ∙ ap valid (drop-encode c (encode_all cs)) ∙ valid-encode cs p.1

encode_none : (t : List ℕ) → first t ≡ bad → valid t ≡ true → encode_all (chars t) ≡ t
unfolding encode_all chars_from
encode_none [] e v = refl
encode_none (x ∷ t) e v = never _ (valid (x ∷ t)) v (valid-bad (x ∷ t) e (omega arith))

encode_more : (t : List ℕ) (c n : ℕ) → first t ≡ char c n → (valid (drop n t) ≡ true → encode_all (chars (drop n t)) ≡ drop n t) → valid t ≡ true →
    encode_all (chars t) ≡ t
unfolding encode_all
encode_more t c n e r v =
    rw (chars_step t c n e, r (sym (valid_step t c n e) ∙ v), ← encode-first t c n e) (take-append-drop n t)

pub encode-chars : (s : List ℕ) → valid s ≡ true → encode_all (chars s) ≡ s
encode-chars = by_chars (λ (s : List ℕ). valid s ≡ true → encode_all (chars s) ≡ s) encode_none encode_more

pub chars-scalar : (s : List ℕ) → all scalar (chars s) ≡ true
chars-scalar =
    by_chars (λ (s : List ℕ). all scalar (chars s) ≡ true) (λ t e. rw (chars-bad t e))
    (λ t c n e r. rw (chars_step t c n e, first-scalar t c n e) r)

-- ---- a character written into a buffer
pub refused : (s : List ℕ) (at c : ℕ) → scalar c ≡ false → EncodedAt s at c s None
unfolding fitting
refused s at c e = record { bytes = rw e; counted = rw e }

pub no_room : (s : List ℕ) (at c n : ℕ) → n ≡ size c → length s < at + n → EncodedAt s at c s None
unfolding fitting
no_room s at c n e h = let f = lt-leb (at + size c) (length s) (rw e at h) in record { bytes = rw (f, and-false); counted = rw (f, and-false) }

wrote :
    (s : List ℕ) (at c n : ℕ) (l : List ℕ) → scalar c ≡ true → Row c n l → n ≡ length l → at + n ≤ length s →
    EncodedAt s at c (sets s at l) (Some n)
unfolding fitting
wrote s at c n l g r k h =
    let f = le-leb (at + size c) (length s) (rw r.sized h) in
    record { bytes = rw (g, f, r.bytes); counted = rw (g, f, r.bytes) (ap Some k) }

module _ (s : List ℕ) (at c n : ℕ) (g : scalar c ≡ true) (e : n ≡ size c) (h : at + n ≤ length s) where
  pub wrote_one : n ≡ 1 → EncodedAt s at c (set s at c) (Some 1)
  wrote_one k = wrote s at c 1 (one_byte c) g (row_one c (size_1 c n e k)) refl (omega arith)

  pub wrote_two : n ≡ 2 → EncodedAt s at c (set (set s at (0xC0 + c / 64)) (at + 1) (0x80 + c % 64)) (Some 2)
  wrote_two k =
      let r = size_2 c n e k in
      let p1 : at + 1 ≡ suc at = omega arith in
      rw p1 (wrote s at c 2 (two_bytes c) g (row-two c r.0 r.1) refl (omega arith))

  pub wrote_three :
      n ≡ 3 →
      EncodedAt s at c (set (set (set s at (0xE0 + c / 4096)) (at + 1) (0x80 + c / 64 % 64)) (at + 2) (0x80 + c % 64)) (Some 3)
  wrote_three k =
      let r = size_3 c n e k in
      let p1 : at + 1 ≡ suc at = omega arith in
      let p2 : at + 2 ≡ suc (suc at) = omega arith in
      rw (p1, p2) (wrote s at c 3 (three_bytes c) g (row-three c r.0 r.1) refl (omega arith))

  pub wrote_four :
      (n ≡ 1 → ⊥) → (n ≡ 2 → ⊥) → (n ≡ 3 → ⊥) →
      EncodedAt s at c
      (set (set (set (set s at (0xF0 + c / 262144)) (at + 1) (0x80 + c / 4096 % 64)) (at + 2) (0x80 + c / 64 % 64)) (at + 3) (0x80 + c % 64))
      (Some 4)
  wrote_four n1 n2 n3 =
      let r = size_4 c n e n1 n2 n3 in
      let p1 : at + 1 ≡ suc at = omega arith in
      let p2 : at + 2 ≡ suc (suc at) = omega arith in
      let p3 : at + 3 ≡ suc (suc (suc at)) = omega arith in
      rw (p1, p2, p3) (wrote s at c 4 (four_bytes c) g (row-four c r.0) refl (omega arith))

-- a character that has a form and for which there is room is written whole
pub written : (s : List ℕ) (at c : ℕ) (after : List ℕ) (r : Option ℕ) →
    EncodedAt s at c after r → scalar c ≡ true → at + size c ≤ length s → (after ≡ sets s at (encode c)) × (r ≡ Some (length (encode c)))
unfolding fitting
written s at c after r w g h = let f = le-leb (at + size c) (length s) h in (rw (g, f) at w.bytes, rw (g, f) at w.counted)
