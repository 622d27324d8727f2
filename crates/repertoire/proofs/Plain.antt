-- Bytes that are characters by themselves, and blocks of them. Assumes nothing.
use mathlib.Core.Path.{◌≡◌, refl, sym, ap, subst, ◌∙◌}
use mathlib.Core.Bool.{Bool, true, false, ◌&&◌, not, ◌||◌, and-true}
use mathlib.Core.List.{List, [], ◌∷◌}
use Prim.Native.Nat.{ℕ, ◌+◌, ◌-◌, ◌<◌, ◌≤◌}
use native.Mathlib.Omega.{arith}
use native.Mathlib.Numerals.{add-one}
use borrow.Author.Tests.{ne_eqb}
use lib.Dec.{T}
use lib.ListN.{length, get_or, take, drop, take-append-drop}
use lib.Seq.{drop-drop, take-suc}
use Rattle.std.specs.Prelude.{Some}
use Rattle.lists.specs.Lists.{all}
use Rattle.lists.proofs.Bools.{and_both, by_less, never}
use Rattle.lists.proofs.Alls.{all_append}
use Rattle.lists.proofs.Tables.{at_each}
use Rattle.utf8.specs.Utf8.{within, first}
use Rattle.utf8.proofs.Forms.{within-above, first_one, first-drop}
use Rattle.repertoire.specs.Repertoire.{Repertoire, catalogue, is_member}
use Rattle.repertoire.specs.Text.{is_text, member_len, plain}
use Rattle.repertoire.proofs.Text.{scan_on, scan-end, text-append}

-- a test that only characters of one byte pass
abbrev pub OneByte : Repertoire → (ℕ → Bool) → Type 0
OneByte R p = (b : ℕ) → p b ≡ true → (b ≤ 0x7F) × (R.member b ≡ true)

module _ (R : Repertoire) (p : ℕ → Bool) (ok : OneByte R p) where
  pub one_at : (s : List ℕ) (i : ℕ) → p (get_or s i 256) ≡ true → member_len R (first (drop i s)) ≡ Some 1
  one_at s i e =
      let h = ok (get_or s i 256) e in
      ap (member_len R) (first-drop s i ∙ first_one (get_or s i 256) (get_or s (i + 1) 256) (get_or s (i + 2) 256) (get_or s (i + 3) 256) h.0) ∙ rw h.1

  -- such bytes are a text
  ones-text : (a : List ℕ) → all p a ≡ true → is_text R a ≡ true
  ones-text [] e = scan-end R [] 0 (omega arith)
  ones-text (b ∷ a) e =
      let q = and_both (p b) (all p a) e in
      (scan_on R (b ∷ a) 0 1 (omega arith) (sym (one_at (b ∷ a) 0 q.0))).2 ∙ ones-text a q.1

  -- a block of them is passed at once
  pub block : (s : List ℕ) (i e : ℕ) → i ≤ e → all p (take (e - i) (drop i s)) ≡ true → is_text R (drop i s) ≡ is_text R (drop e s)
  block s i e h a =
      let q : i + (e - i) ≡ e = omega arith in
      ap (is_text R) (sym (take-append-drop (e - i) (drop i s))) ∙ text-append R (take (e - i) (drop i s)) (drop (e - i) (drop i s)) (ones-text (take (e - i) (drop i s)) a) ∙
      ap (is_text R) (drop-drop (e - i) i s ∙ ap (λ (k : ℕ). drop k s) q)

-- the plain bytes of document 01's repertoire
plain_test : ℕ → Bool
unfolding plain within is_member
plain_test b = not (plain b) || is_member b

pub not_or : (a b : Bool) → T (not a || b) → a ≡ true → b ≡ true
not_or true true t e = refl
not_or true false t e = absurd t
not_or false b t e = absurd (subst T (sym e) tt)

plain-below : (b : ℕ) → plain b ≡ true → b ≤ 0x7F
unfolding plain
plain-below b e =
    by_less _ b 0x80 (λ h. omega arith)
    (λ h.
    never _ (plain b) e
    (simp (within-above 0x20 0x7E b (omega arith), within-above 0x09 0x0A b (omega arith), ne_eqb b 0x0D (λ q. omega arith))))

pub plain-one : OneByte catalogue plain
unfolding plain_test
plain-one b e = let h = plain-below b e in (h, not_or (plain b) (is_member b) (at_each plain_test 0x80 tt b (omega arith)) e)

-- one byte more
pub all_more : (p : ℕ → Bool) (s : List ℕ) (i : ℕ) → i < length s → all p (take (i + 1) s) ≡ (all p (take i s) && p (get_or s i 0))
all_more p s i h =
    ap (λ (k : ℕ). all p (take k s)) (add-one i) ∙ ap (all p) (take-suc s i 0 h) ∙ all_append p (take i s) (get_or s i 0 ∷ []) ∙
    ap (λ (b : Bool). all p (take i s) && b) (and-true (p (get_or s i 0)))
