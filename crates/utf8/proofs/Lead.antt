-- Laws of the length that the leading ones of a byte announce: as the code counts them, which bytes announce it, and that it is the
-- character's. Assumes nothing.
use mathlib.Core.Path.{◌≡◌, ◌∙◌}
use mathlib.Core.Bool.{Bool, true, cond, ◌&&◌, ◌||◌}
use mathlib.Core.List.{List}
use mathlib.Core.Logic.{⊎_elim}
use Prim.Native.Nat.{ℕ, ◌-◌, ◌<◌, ◌≤◌}
use native.Mathlib.Omega.{arith}
use lib.Count.{count_leading_zeros}
use lib.Dec.{T, eqb, eqb→eq, leb, leb→le}
use lib.ListN.{get_or}
use borrow.Author.Tests.{eq-eqb, ne_eqb, le-leb, leb-true}
use Rattle.lists.proofs.Bools.{and_both}
use Rattle.lists.proofs.Tables.{all_below, at_each, and_parts}
use Rattle.utf8.specs.Utf8.{char, within, tail, one, two, lead3, three, lead4, four, or_else, first_of, first, ones_from, lead_len}
use Rattle.utf8.proofs.Chars.{within_true, cond-char, or_split, lead3_in, lead4_in}

-- the leading ones of a byte, as the code counts them: the leading zeros of its complement
abbrev pub ones_of : ℕ → ℕ
ones_of b = count_leading_zeros 8 (255 - b)

ones_test : ℕ → Bool
unfolding count_leading_zeros lead_len ones_from
ones_test b = eqb (cond (eqb (ones_of b) 0) 1 (ones_of b)) (lead_len b)

pub ones_lead : (b : ℕ) → b < 256 → cond (eqb (ones_of b) 0) 1 (ones_of b) ≡ lead_len b
unfolding ones_test
ones_lead b h = eqb→eq _ _ (at_each ones_test 256 tt b h)

-- a first byte that announces n bytes lies in lo .. hi
in_test : ℕ → ℕ → ℕ → ℕ → Bool
unfolding lead_len ones_from
in_test n lo hi a = cond (eqb (lead_len a) n) (leb lo a && leb a hi) true

lead_in :
    (n lo hi : ℕ) → T (unfold in_test in all_below (in_test n lo hi) 256) → (a : ℕ) → a < 256 → lead_len a ≡ n → (lo ≤ a) × (a ≤ hi)
unfolding in_test
lead_in n lo hi t a h e =
    let r : T (cond (eqb (lead_len a) n) (leb lo a && leb a hi) true) = at_each (in_test n lo hi) 256 t a h in
    let p : T (leb lo a) × T (leb a hi) = and_parts (leb lo a) (leb a hi) (rw (eq-eqb (lead_len a) n e) at r) in
    (leb→le lo a p.0, leb→le a hi p.1)

pub lead_1 : (a : ℕ) → a < 256 → lead_len a ≡ 1 → a ≤ 0xBF
unfolding in_test
lead_1 a h e = (lead_in 1 0 0xBF tt a h e).1

pub lead_2 : (a : ℕ) → a < 256 → lead_len a ≡ 2 → (0xC0 ≤ a) × (a ≤ 0xDF)
unfolding in_test
lead_2 = lead_in 2 0xC0 0xDF tt

pub lead_3 : (a : ℕ) → a < 256 → lead_len a ≡ 3 → (0xE0 ≤ a) × (a ≤ 0xEF)
unfolding in_test
lead_3 = lead_in 3 0xE0 0xEF tt

rest_test : ℕ → Bool
unfolding lead_len ones_from
rest_test a = eqb (lead_len a) 1 || (eqb (lead_len a) 2 || (eqb (lead_len a) 3 || leb 0xF0 a))

pub lead_rest : (a : ℕ) → a < 256 → (lead_len a ≡ 1 → ⊥) → (lead_len a ≡ 2 → ⊥) → (lead_len a ≡ 3 → ⊥) → 0xF0 ≤ a
unfolding rest_test
lead_rest a h n1 n2 n3 =
    leb→le 0xF0 a (simp (ne_eqb (lead_len a) 1 n1, ne_eqb (lead_len a) 2 n2, ne_eqb (lead_len a) 3 n3) at (at_each rest_test 256 tt a h))

-- the bytes lo .. hi announce n bytes
from_test : ℕ → ℕ → ℕ → ℕ → Bool
unfolding lead_len ones_from
from_test n lo hi a = cond (leb lo a && leb a hi) (eqb (lead_len a) n) true

lead_from :
    (n lo hi : ℕ) → T (unfold from_test in all_below (from_test n lo hi) 256) → (a : ℕ) → a < 256 → lo ≤ a → a ≤ hi → lead_len a ≡ n
unfolding from_test
lead_from n lo hi t a h l m =
    let r : T (cond (leb lo a && leb a hi) (eqb (lead_len a) n) true) = at_each (from_test n lo hi) 256 t a h in
    eqb→eq (lead_len a) n (simp (le-leb lo a l, le-leb a hi m) at r)

-- a character's length is the one that its first byte announces
pub first_lead : (t : List ℕ) (cp n : ℕ) → first t ≡ char cp n → lead_len (get_or t 0 256) ≡ n
unfolding first first_of one two three four from_test
first_lead t cp n e =
    let a = get_or t 0 256 in
    let b = get_or t 1 256 in
    let c = get_or t 2 256 in
    let d = get_or t 3 256 in
    ⊎_elim
    (λ p. let q = cond-char (leb a 0x7F) a 1 cp n p in
    let h = leb-true a 0x7F q.0 in
    lead_from 1 0 0x7F tt a (omega arith) (omega arith) h ∙ q.2)
    (λ r. ⊎_elim
    (λ p. let q = cond-char _ _ 2 cp n p in
    let x = and_both (within 0xC2 0xDF a) (tail b) q.0 in
    let h = within_true 0xC2 0xDF a x.0 in
    lead_from 2 0xC0 0xDF tt a (omega arith) (omega arith) h.1 ∙ q.2)
    (λ r2. ⊎_elim
    (λ p. let q = cond-char _ _ 3 cp n p in
    let x = and_both (lead3 a b) (tail c) q.0 in
    let h = lead3_in a b x.0 in
    lead_from 3 0xE0 0xEF tt a (omega arith) h.0 h.1 ∙ q.2)
    (λ r3. let q = cond-char _ _ 4 cp n r3.1 in
    let x = and_both (lead4 a b) (tail c && tail d) q.0 in
    let h = lead4_in a b x.0 in
    lead_from 4 0xF0 0xF7 tt a (omega arith) h.0 (omega arith) ∙ q.2)
    (or_split (three a b c) (four a b c d) cp n r2.1))
    (or_split (two a b) (or_else (three a b c) (four a b c d)) cp n r.1))
    (or_split (one a) (or_else (two a b) (or_else (three a b c) (four a b c d))) cp n e)
