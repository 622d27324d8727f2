-- The count of a key: digit by digit, and what stands behind them. Assumes nothing.
use Prim.Native.Nat.{ℕ, ◌+◌, ◌≤◌, ◌<◌}
use native.Mathlib.Omega.{arith}
use native.Mathlib.Numerals.{add-one}
use mathlib.Core.Path.{◌≡◌, refl, sym, ◌∙◌}
use mathlib.Core.Bool.{Bool, true, false, ◌&&◌}
use mathlib.Core.List.{List}
use lib.Dec.{eqb}
use lib.ListN.{length, get_or, drop, drop_of_length-le, get_or-eq_default}
use lib.Seq.{drop-cons}
use borrow.Author.Tests.{eq-eqb, ne_eqb}
use Rattle.utf8.specs.Utf8.{within}
use Rattle.key_press.specs.Keys.{is_digit, with_digit, value, behind, is_counted, count_of, key_in, CountedAs}

-- ---- no count: fewer than two bytes, no ESC in front, or no digit behind it
pub not-counted : (s : List ℕ) → is_counted s ≡ false → CountedAs s (record { n = 1; at = 0 })
unfolding count_of key_in
not-counted s e = record { within = omega arith; count = rw e; key = rw e }

pub too_short : (s : List ℕ) → length s < 2 → is_counted s ≡ false
unfolding is_counted within
too_short s h = let l : length s ≤ 1 = omega arith in rw (get_or-eq_default s 256 l) (no_and (eqb (get_or s 0 256) 0x1B))
  where
    no_and : (b : Bool) → (b && false) ≡ false
    no_and true = refl
    no_and false = refl

pub no_escape : (s : List ℕ) → (get_or s 0 256 ≡ 0x1B → ⊥) → is_counted s ≡ false
unfolding is_counted
no_escape s h = rw (ne_eqb (get_or s 0 256) 0x1B h)

pub no_digit : (s : List ℕ) → get_or s 0 256 ≡ 0x1B → is_digit (get_or s 1 256) ≡ false → is_counted s ≡ false
unfolding is_counted
no_digit s e d = rw (eq-eqb (get_or s 0 256) 0x1B e, d)

-- ---- a count: its digits from the place at on are still to be read, n is what those before it make
pub record Reading (s : List ℕ) (n at : ℕ) : Type 0 where
  pub within : at ≤ length s
  pub count : count_of s ≡ value n (drop at s)
  pub key : key_in s ≡ behind (drop at s)

pub begins : (s : List ℕ) → 2 ≤ length s → get_or s 0 256 ≡ 0x1B → is_digit (get_or s 1 256) ≡ true → Reading s 0 1
unfolding count_of key_in is_counted
begins s h e d = record { within = omega arith; count = rw (eq-eqb (get_or s 0 256) 0x1B e, d); key = rw (eq-eqb (get_or s 0 256) 0x1B e, d) }

module _ (s : List ℕ) (n at : ℕ) (r : Reading s n at) where
  pub goes-on : at < length s → is_digit (get_or s at 256) ≡ true → Reading s (with_digit n (get_or s at 256)) (at + 1)
  unfolding value behind
  goes-on h d =
      record {
        within = omega arith;
        count = r.count ∙ rw (add-one at, drop-cons s at 256 h, d);
        key = r.key ∙ rw (add-one at, drop-cons s at 256 h, d);
      }

  pub stops : at < length s → is_digit (get_or s at 256) ≡ false → CountedAs s (record { n = n; at = at })
  unfolding value behind
  stops h d =
      record {
        within = r.within;
        count = sym (r.count ∙ rw (drop-cons s at 256 h, d));
        key = drop-cons s at 256 h ∙ sym (r.key ∙ rw (drop-cons s at 256 h, d));
      }

  pub ends : length s ≤ at → CountedAs s (record { n = n; at = at })
  unfolding value behind
  ends h =
      let e = drop_of_length-le s {i = at} h in
      record { within = r.within; count = sym (r.count ∙ rw e); key = e ∙ sym (r.key ∙ rw e) }
