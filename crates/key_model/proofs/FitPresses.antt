-- What a key stands for is fit: its bytes pass check 4, and what it types is a character of the repertoire. Assumes nothing.
use Prim.Native.Nat.{ℕ}
use mathlib.Core.Path.{◌≡◌, refl, ap}
use mathlib.Core.Bool.{Bool, true, false, cond, ◌&&◌, ◌||◌}
use mathlib.Core.List.{List, [], ◌∷◌}
use lib.Dec.{eqb, ltb}
use lib.ListN.{length}
use Rattle.lists.proofs.Bools.{and_both, by_test}
use Rattle.utf8.specs.Utf8.{First, char, bad, within, first}
use Rattle.utf8.specs.Encode.{scalar}
use Rattle.repertoire.specs.Repertoire.{catalogue, is_member}
use Rattle.repertoire.specs.Text.{is_char}
use Rattle.key_press.specs.declared.Press.{Press}
use Rattle.key_press.specs.declared.Press.TheVariants as p
use Rattle.key_press.specs.Keys.{control, escaped, typed_by, character, count_of, key_in, press_by, press_of, foreign_key}
use Rattle.key_press.proofs.Bound.{bound_passes}
use Rattle.key_model.specs.Own.{fit_press}

or_right : (a : Bool) {b : Bool} → b ≡ true → (a || b) ≡ true
or_right true e = refl
or_right false e = e

or_left : (b : Bool) {a : Bool} → a ≡ true → (a || b) ≡ true
or_left b e = ap (λ (a : Bool). a || b) e

ascii : (c : ℕ) → within 0x20 0x7E c ≡ true → catalogue.member c ≡ true
unfolding is_member
ascii c e = or_left _ (or_left _ (or_left _ (or_left _ (or_left _ (or_right (within 0x09 0x0A c || eqb c 0x0D) e)))))

-- check 4 passes a key that stands for something
pub bound_fits : (s : List ℕ) → (press_of catalogue s ≡ p.Unbound → ⊥) → foreign_key catalogue s ≡ false
bound_fits s h = bound_passes catalogue ascii s h

-- ---- what is typed
abbrev Fits : Press → Type 0
Fits q = fit_press catalogue q ≡ true

either : (b : Bool) (q r : Press) → Fits q → Fits r → Fits (cond b q r)
either true q r e f = e
either false q r e f = f

control-fits : (n b : ℕ) → Fits (control n b)
unfolding control is_char is_member scalar within
control-fits n b =
    either (eqb b 0x01) _ _ refl (either (eqb b 0x02) _ _ refl (either (eqb b 0x04) _ _ refl (either (eqb b 0x05) _ _ refl
    (either (eqb b 0x06) _ _ refl (either (eqb b 0x09) _ _ refl (either (eqb b 0x0A) _ _ refl (either (eqb b 0x0B) _ _ refl
    (either (eqb b 0x0D) _ _ refl (either (eqb b 0x14) _ _ refl (either (eqb b 0x15) _ _ refl (either (eqb b 0x17) _ _ refl
    (either (eqb b 0x19) _ _ refl (either (eqb b 0x1F) _ _ refl refl)))))))))))))

escaped-fits : (n b : ℕ) → Fits (escaped n b)
unfolding escaped
escaped-fits n b =
    either (eqb b 0x62) _ _ refl (either (eqb b 0x63) _ _ refl (either (eqb b 0x64) _ _ refl (either (eqb b 0x66) _ _ refl
    (either (eqb b 0x6C) _ _ refl (either (eqb b 0x74) _ _ refl (either (eqb b 0x75) _ _ refl (either (eqb b 0x79) _ _ refl refl)))))))

typed-fits : (f : First) (k n : ℕ) → Fits (typed_by catalogue f k n)
typed-fits bad k n = refl
typed-fits (char c j) k n =
    by_test (Fits (typed_by catalogue (char c j) k n)) (eqb j k && is_char catalogue c)
    (λ e. rw e (and_both (eqb j k) (is_char catalogue c) e).1) (λ e. rw e)

key_fits : (n : ℕ) (s : List ℕ) → Fits (press_by catalogue n s)
key_fits n [] = refl
key_fits n (b ∷ []) = either (ltb b 0x20) (control n b) (character catalogue n (b ∷ [])) (control-fits n b) (typed-fits (first (b ∷ [])) 1 n)
key_fits n (b ∷ c ∷ []) =
    either (eqb b 0x1B) (escaped n c) (character catalogue n (b ∷ c ∷ [])) (escaped-fits n c) (typed-fits (first (b ∷ c ∷ [])) 2 n)
key_fits n (b ∷ c ∷ d ∷ s) = typed-fits (first (b ∷ c ∷ d ∷ s)) (length (b ∷ c ∷ d ∷ s)) n

pub press_fits : (s : List ℕ) → Fits (press_of catalogue s)
unfolding press_of
press_fits s = key_fits (count_of s) (key_in s)
