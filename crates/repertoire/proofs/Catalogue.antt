-- Laws of document 01's repertoire: where its members lie, and what its case mappings are. Assumes nothing.
use mathlib.Core.Path.{◌≡◌, refl, ap, ◌∙◌}
use mathlib.Core.Bool.{Bool, true, false, cond, ◌&&◌, ◌||◌, not}
use mathlib.Core.List.{List, [], ◌∷◌}
use Prim.Native.Nat.{ℕ, ◌+◌, ◌-◌, ◌<◌, ◌≤◌}
use native.Mathlib.Omega.{arith}
use borrow.Author.Tests.{eq-eqb, ne_eqb, leb-true, not-true}
use lib.Dec.{T, leb}
use lib.ListN.{length}
use Rattle.lists.specs.Lists.{all}
use Rattle.lists.proofs.Bools.{by_less, never, and_both}
use Rattle.lists.proofs.Tables.{at_each}
use Rattle.utf8.specs.Utf8.{within}
use Rattle.utf8.specs.Encode.{scalar, size, encode, encode_all}
use Rattle.utf8.proofs.Forms.{within-below, within-above}
use Rattle.utf8.proofs.Encode.{scalar_low, size-encode, encode-single}
use Rattle.repertoire.specs.Repertoire.{Lawful, catalogue, is_member, is_control, is_mark, is_alnum, is_white, is_lowercase, is_uppercase}
use Rattle.repertoire.specs.Repertoire.{upper_of, lower_of, width_of}
use Rattle.repertoire.specs.declared.Case.{Case}
use Rattle.repertoire.specs.declared.Case.TheVariants.{Upper, Lower}
use Rattle.repertoire.specs.Case.{case_of, cased}
use Rattle.repertoire.proofs.Plain.{not_or}
use Rattle.repertoire.proofs.Cased.{case_le}

pub member_below : (c : ℕ) → catalogue.member c ≡ true → c < 0x400
unfolding is_member
member_below c e =
    by_less _ c 0x400 (λ h. h)
    (λ h.
    never _ (is_member c) e
    (simp (
      within-above 0x09 0x0A c (omega arith),
      ne_eqb c 0x0D (λ q. omega arith),
      within-above 0x20 0x7E c (omega arith),
      within-above 0xA0 0xAC c (omega arith),
      within-above 0xAE 0xB4 c (omega arith),
      within-above 0xB6 0xFF c (omega arith),
      ne_eqb c 0x178 (λ q. omega arith),
      within-above 0x300 0x333 c (omega arith),
    )))

-- ---- the mappings, case by case
pub small_least : (c : ℕ) → is_lowercase c ≡ true → 32 ≤ c
unfolding is_lowercase
small_least c e =
    by_less _ c 32
    (λ h. never _ (is_lowercase c) e (simp (within-below 0x61 0x7A c (omega arith), within-below 0xE0 0xF6 c (omega arith), within-below 0xF8 0xFE c (omega arith))))
    (λ h. h)

small_above : (c : ℕ) → 0xFE < c → is_lowercase c ≡ false
unfolding is_lowercase
small_above c h = simp (within-above 0x61 0x7A c (omega arith), within-above 0xE0 0xF6 c (omega arith), within-above 0xF8 0xFE c h)

capital_above : (c : ℕ) → 0xDE < c → is_uppercase c ≡ false
unfolding is_uppercase
capital_above c h = simp (within-above 0x41 0x5A c (omega arith), within-above 0xC0 0xD6 c (omega arith), within-above 0xD8 0xDE c h)

pub capital_most : (c : ℕ) → is_uppercase c ≡ true → c ≤ 0xDE
capital_most c e = by_less _ 0xDE c (λ h. never _ (is_uppercase c) e (capital_above c h)) (λ h. h)

module _ (c : ℕ) where
  pub upper_sharp : c ≡ 0xDF → 0x53 ∷ 0x53 ∷ [] ≡ upper_of c
  unfolding upper_of
  upper_sharp e = rw (eq-eqb c 0xDF e)

  pub upper_diaeresis : (c ≡ 0xDF → ⊥) → c ≡ 0xFF → 0x178 ∷ [] ≡ upper_of c
  unfolding upper_of
  upper_diaeresis n e = rw (ne_eqb c 0xDF n, eq-eqb c 0xFF e)

  pub upper_small : (c ≡ 0xDF → ⊥) → (c ≡ 0xFF → ⊥) → is_lowercase c ≡ true → (c - 32) ∷ [] ≡ upper_of c
  unfolding upper_of
  upper_small n m e = rw (ne_eqb c 0xDF n, ne_eqb c 0xFF m, e)

  pub upper_other : (c ≡ 0xDF → ⊥) → (c ≡ 0xFF → ⊥) → is_lowercase c ≡ false → c ∷ [] ≡ upper_of c
  unfolding upper_of
  upper_other n m e = rw (ne_eqb c 0xDF n, ne_eqb c 0xFF m, e)

  pub lower_diaeresis : c ≡ 0x178 → 0xFF ∷ [] ≡ lower_of c
  unfolding lower_of
  lower_diaeresis e = rw (eq-eqb c 0x178 e)

  pub lower_capital : (c ≡ 0x178 → ⊥) → is_uppercase c ≡ true → (c + 32) ∷ [] ≡ lower_of c
  unfolding lower_of
  lower_capital n e = rw (ne_eqb c 0x178 n, e)

  pub lower_other : (c ≡ 0x178 → ⊥) → is_uppercase c ≡ false → c ∷ [] ≡ lower_of c
  unfolding lower_of
  lower_other n e = rw (ne_eqb c 0x178 n, e)

-- from 0x400 on, a character is its own mapping
same_above : (k : Case) (c : ℕ) → 0x400 ≤ c → c ∷ [] ≡ case_of catalogue k c
same_above Upper c h = upper_other c (λ e. omega arith) (λ e. omega arith) (small_above c (omega arith))
same_above Lower c h = lower_other c (λ e. omega arith) (capital_above c (omega arith))

-- ---- case stays within the repertoire
case_test : Case → ℕ → Bool
unfolding is_member upper_of lower_of is_lowercase is_uppercase within
case_test k c = not (is_member c) || all is_member (case_of catalogue k c)

upper-within : (c : ℕ) → is_member c ≡ true → all is_member (upper_of c) ≡ true
unfolding case_test
upper-within c e = not_or (is_member c) (all is_member (upper_of c)) (at_each (case_test Upper) 0x400 tt c (member_below c e)) e

lower-within : (c : ℕ) → is_member c ≡ true → all is_member (lower_of c) ≡ true
unfolding case_test
lower-within c e = not_or (is_member c) (all is_member (lower_of c)) (at_each (case_test Lower) 0x400 tt c (member_below c e)) e

-- ---- no mapping is longer than its character
shrink_test : Case → ℕ → Bool
unfolding upper_of lower_of is_lowercase is_uppercase within encode_all encode size scalar
shrink_test k c = leb (length (encode_all (case_of catalogue k c))) (size c) && all scalar (case_of catalogue k c)

true_of : (b : Bool) → T b → b ≡ true
true_of true t = refl
true_of false t = absurd t

shrink_below : (k : Case) (c : ℕ) → c < 0x400 → shrink_test k c ≡ true
unfolding shrink_test
shrink_below Upper c h = true_of (shrink_test Upper c) (at_each (shrink_test Upper) 0x400 tt c h)
shrink_below Lower c h = true_of (shrink_test Lower c) (at_each (shrink_test Lower) 0x400 tt c h)

case_shrinks : (k : Case) (c : ℕ) → scalar c ≡ true → (length (encode_all (case_of catalogue k c)) ≤ size c) × (all scalar (case_of catalogue k c) ≡ true)
unfolding shrink_test
case_shrinks k c e =
    by_less _ c 0x400
    (λ h.
    let p = and_both (leb (length (encode_all (case_of catalogue k c))) (size c)) (all scalar (case_of catalogue k c)) (shrink_below k c h) in
    (leb-true _ _ p.0, p.1))
    (λ h. rw (← same_above k c h) (omega (arith, ap length (encode-single c) ∙ size-encode c), rw e))

-- ---- U+0020 is a member, and white space is not alphanumeric
space-member : is_member 0x20 ≡ true
unfolding is_member within
space-member = refl

space-white : is_white 0x20 ≡ true
unfolding is_white within
space-white = refl

space-unmarked : is_mark 0x20 ≡ false
unfolding is_mark within
space-unmarked = refl

white_low : (c : ℕ) → is_white c ≡ true → c ≤ 160
unfolding is_white
white_low c e =
    by_less _ 160 c
    (λ h.
    never _ (is_white c) e (simp (within-above 0x09 0x0A c (omega arith), ne_eqb c 0x0D (λ q. omega arith), ne_eqb c 0x20 (λ q. omega arith), ne_eqb c 0xA0 (λ q. omega arith))))
    (λ h. h)

white_test : ℕ → Bool
unfolding is_white is_alnum within
white_test c = not (is_white c) || not (is_alnum c)

white_other : (c : ℕ) → is_white c ≡ true → is_alnum c ≡ false
unfolding white_test
white_other c e =
    let h = white_low c e in
    not-true (is_alnum c) (not_or (is_white c) (not (is_alnum c)) (at_each white_test 161 tt c (omega arith)) e)

-- ---- controls are white space
control-white : (c : ℕ) → is_control c ≡ true → is_white c ≡ true
unfolding is_control is_white
control-white c e = simp e

widths_rule : (c : ℕ) → width_of c ≡ cond (is_mark c) 0 1
unfolding width_of
widths_rule c = refl

pub catalogue_lawful : Lawful catalogue
catalogue_lawful =
    record {
      scalars = λ c e. scalar_low c (let h = member_below c e in omega arith);
      uppers = upper-within;
      lowers = lower-within;
      upper_sizes = case_shrinks Upper;
      lower_sizes = case_shrinks Lower;
      space = space-member;
      space_white = space-white;
      space_unmarked = space-unmarked;
      whites = white_other;
      controls = control-white;
      widths = widths_rule;
    }

pub cased-le : (k : Case) (s : List ℕ) → length (cased catalogue k s) ≤ length s
cased-le k s = case_le catalogue k catalogue_lawful s
