-- Which alternative of the ABNF a first byte leaves. Assumes nothing.
use mathlib.Core.Path.{◌≡◌, refl, ◌∙◌}
use mathlib.Core.Bool.{true, false, and-false}
use mathlib.Core.List.{List}
use Prim.Native.Nat.{ℕ, ◌+◌, ◌<◌, ◌≤◌}
use native.Mathlib.Omega.{arith}
use native.Mathlib.Nat.{add-zero}
use lib.ListN.{length, get_or, drop, get_or-eq_default}
use lib.Seq.{get_or-drop}
use borrow.Author.Tests.{ne_eqb, le-leb, lt-leb}
use Rattle.utf8.specs.Utf8.{First, char, bad, within, one, two, lead3, three, lead4, four, or_else, first_of, first}

pub within_in : (lo hi x : ℕ) → lo ≤ x → x ≤ hi → within lo hi x ≡ true
unfolding within
within_in lo hi x l h = rw (le-leb lo x l, le-leb x hi h)

pub within-below : (lo hi x : ℕ) → x < lo → within lo hi x ≡ false
unfolding within
within-below lo hi x h = simp (lt-leb lo x h)

pub within-above : (lo hi x : ℕ) → hi < x → within lo hi x ≡ false
unfolding within
within-above lo hi x h = simp (lt-leb x hi h, and-false)

one-bad : (a : ℕ) → 0x7F < a → one a ≡ bad
unfolding one
one-bad a h = simp (lt-leb a 0x7F h)

two-below : (a b : ℕ) → a < 0xC2 → two a b ≡ bad
unfolding two
two-below a b h = simp (within-below 0xC2 0xDF a h)

two-above : (a b : ℕ) → 0xDF < a → two a b ≡ bad
unfolding two
two-above a b h = simp (within-above 0xC2 0xDF a h)

three-below : (a b c : ℕ) → a < 0xE0 → three a b c ≡ bad
unfolding three lead3
three-below a b c h =
    simp (ne_eqb a 0xE0 (λ e. omega arith), within-below 0xE1 0xEC a (omega arith), ne_eqb a 0xED (λ e. omega arith), within-below 0xEE 0xEF a (omega arith))

three-above : (a b c : ℕ) → 0xEF < a → three a b c ≡ bad
unfolding three lead3
three-above a b c h =
    simp (ne_eqb a 0xE0 (λ e. omega arith), within-above 0xE1 0xEC a (omega arith), ne_eqb a 0xED (λ e. omega arith), within-above 0xEE 0xEF a (omega arith))

four_below : (a b c d : ℕ) → a < 0xF0 → four a b c d ≡ bad
unfolding four lead4
four_below a b c d h = simp (ne_eqb a 0xF0 (λ e. omega arith), within-below 0xF1 0xF3 a (omega arith), ne_eqb a 0xF4 (λ e. omega arith))

four-above : (a b c d : ℕ) → 0xF4 < a → four a b c d ≡ bad
unfolding four lead4
four-above a b c d h = simp (ne_eqb a 0xF0 (λ e. omega arith), within-above 0xF1 0xF3 a (omega arith), ne_eqb a 0xF4 (λ e. omega arith))

or_else-bad : (f : First) → or_else f bad ≡ f
or_else-bad (char c n) = refl
or_else-bad bad = refl

module _ (a b c d : ℕ) where
  pub first_one : a ≤ 0x7F → first_of a b c d ≡ char a 1
  unfolding first_of one
  first_one h = simp (le-leb a 0x7F h)

  pub first_none : 0x7F < a → a < 0xC0 → first_of a b c d ≡ bad
  unfolding first_of
  first_none l h = simp (one-bad a l, two-below a b (omega arith), three-below a b c (omega arith), four_below a b c d (omega arith))

  pub first_two : 0xC0 ≤ a → a ≤ 0xDF → first_of a b c d ≡ two a b
  unfolding first_of
  first_two l h = simp (one-bad a (omega arith), three-below a b c (omega arith), four_below a b c d (omega arith), or_else-bad)

  pub first_three : 0xE0 ≤ a → a ≤ 0xEF → first_of a b c d ≡ three a b c
  unfolding first_of
  first_three l h = simp (one-bad a (omega arith), two-above a b (omega arith), four_below a b c d (omega arith), or_else-bad)

  pub first-four : 0xF0 ≤ a → first_of a b c d ≡ four a b c d
  unfolding first_of
  first-four l = simp (one-bad a (omega arith), two-above a b (omega arith), three-above a b c (omega arith))

  pub first_high : 0xF7 < a → first_of a b c d ≡ bad
  first_high l = first-four (omega arith) ∙ four-above a b c d (omega arith)

pub first-drop : (s : List ℕ) (i : ℕ) → first (drop i s) ≡ first_of (get_or s i 256) (get_or s (i + 1) 256) (get_or s (i + 2) 256) (get_or s (i + 3) 256)
unfolding first
first-drop s i = simp (get_or-drop, add-zero)

pub first-end : (s : List ℕ) (i : ℕ) → length s ≤ i → first (drop i s) ≡ bad
first-end s i h = first-drop s i ∙ first_high _ _ _ _ (rw (get_or-eq_default s 256 h) (omega arith))
