-- A key that stands for something is not foreign, over any repertoire that has ASCII's printing characters. Assumes nothing.
use Prim.Native.Nat.{ℕ, ◌+◌, ◌<◌}
use native.Mathlib.Omega.{arith}
use mathlib.Core.Path.{◌≡◌, refl, sym, ap, ◌∙◌}
use mathlib.Core.Bool.{Bool, true, false, not, ◌&&◌, ◌||◌}
use mathlib.Core.List.{List, [], ◌∷◌}
use lib.Dec.{eqb, ltb}
use lib.ListN.{length, get_or}
use borrow.Author.Tests.{lt-ltb, le-ltb, ne_eqb, eqb-true, eqb-false, ltb-true}
use Rattle.lists.proofs.Bools.{and_both, by_test, by_less}
use Rattle.utf8.specs.Utf8.{First, char, bad, within, first}
use Rattle.utf8.specs.Encode.{scalar}
use Rattle.utf8.proofs.Forms.{within_in}
use Rattle.utf8.proofs.Chars.{within_true}
use Rattle.repertoire.specs.Repertoire.{Repertoire}
use Rattle.repertoire.specs.Text.{is_text, is_char}
use Rattle.repertoire.proofs.Text.{text_nil, member_in, scan_on, scan-end}
use Rattle.repertoire.proofs.Plain.{OneByte, one_at}
use Rattle.key_press.specs.declared.Press.TheVariants as p
use Rattle.key_press.specs.Keys.{is_digit, behind, is_counted, count_of, key_in, escaped, character, press_by, press_of, is_untried}
use Rattle.key_press.specs.Keys.{untried, foreign_key}

module _ (R : Repertoire) (ascii : (c : ℕ) → within 0x20 0x7E c ≡ true → R.member c ≡ true) where
  -- a byte of ASCII that check 4 lets pass
  abbrev low : ℕ → Bool
  low b = ltb b 0x80 && (untried R).member b

  low_one : OneByte (untried R) low
  low_one b e = let q = and_both (ltb b 0x80) ((untried R).member b) e in let h = ltb-true b 0x80 q.0 in (omega arith, q.1)

  low_all : (b : ℕ) → b < 0x80 → low b ≡ true
  low_all b h =
      rw (lt-ltb b 0x80 h)
      (by_less ((untried R).member b ≡ true) b 0x20 (λ k. rw (lt-ltb b 0x20 k))
      (λ k. rw (le-ltb b 0x20 k)
      (by_test ((eqb b 0x7F || R.member b) ≡ true) (eqb b 0x7F) (λ e. rw e)
      (λ e. rw e (ascii b (within_in 0x20 0x7E b k (let z = eqb-false b 0x7F e in omega arith)))))))

  byte_passes : (b : ℕ) (s : List ℕ) → b < 0x80 → is_text (untried R) (b ∷ s) ≡ is_text (untried R) s
  byte_passes b s h = (scan_on (untried R) (b ∷ s) 0 1 (omega arith) (sym (one_at (untried R) low low_one (b ∷ s) 0 (low_all b h)))).2

  -- ---- the count
  digits_pass : (s : List ℕ) → is_text (untried R) s ≡ is_text (untried R) (behind s)
  unfolding behind
  digits_pass [] = refl
  digits_pass (b ∷ s) =
      by_test (is_text (untried R) (b ∷ s) ≡ is_text (untried R) (behind (b ∷ s))) (is_digit b)
      (λ e. rw e (byte_passes b s (let h = within_true 0x30 0x39 b e in omega arith) ∙ digits_pass s)) (λ e. rw e)

  count-passes : (s : List ℕ) → is_text (untried R) s ≡ is_text (untried R) (key_in s)
  unfolding key_in is_counted
  count-passes [] = refl
  count-passes (b ∷ s) =
      by_test (is_text (untried R) (b ∷ s) ≡ is_text (untried R) (key_in (b ∷ s))) (is_counted (b ∷ s))
      (λ e. rw e (let q = eqb-true b 0x1B (and_both (eqb b 0x1B) (is_digit (get_or (b ∷ s) 1 256)) e).0 in byte_passes b s (omega arith) ∙ digits_pass s))
      (λ e. rw e)

  -- ---- the key
  escaped_low : (n x : ℕ) → (escaped n x ≡ p.Unbound → ⊥) → x < 0x80
  unfolding escaped
  escaped_low n x h =
      by_less (x < 0x80) x 0x80 (λ k. k)
      (λ k. absurd (h (rw (
        ne_eqb x 0x62 (λ e. omega arith),
        ne_eqb x 0x63 (λ e. omega arith),
        ne_eqb x 0x64 (λ e. omega arith),
        ne_eqb x 0x66 (λ e. omega arith),
        ne_eqb x 0x6C (λ e. omega arith),
        ne_eqb x 0x74 (λ e. omega arith),
        ne_eqb x 0x75 (λ e. omega arith),
        ne_eqb x 0x79 (λ e. omega arith),
      ))))

  character-passes : (n : ℕ) (s : List ℕ) → (character R n s ≡ p.Unbound → ⊥) → is_text (untried R) s ≡ true
  unfolding is_char
  character-passes n s h = go (first s) refl
    where
      or_right : (a : Bool) {b : Bool} → b ≡ true → (a || b) ≡ true
      or_right true e = refl
      or_right false e = e

      go : (f : First) → first s ≡ f → is_text (untried R) s ≡ true
      go bad e = absurd (h (rw e))
      go (char c k) e =
          by_test (is_text (untried R) s ≡ true) (eqb k (length s) && is_char R c)
          (λ t.
          let q = and_both (eqb k (length s)) (is_char R c) t in
          let w = eqb-true k (length s) q.0 in
          let m : (untried R).member c ≡ true = or_right (is_untried c) (and_both (scalar c) (R.member c) q.1).1 in
          (scan_on (untried R) s 0 k (omega arith) (member_in (untried R) s c k e m)).2
          ∙ scan-end (untried R) s (0 + k) (omega arith))
          (λ t. absurd (h (rw (e, t))))

  key-passes : (n : ℕ) (s : List ℕ) → (press_by R n s ≡ p.Unbound → ⊥) → is_text (untried R) s ≡ true
  key-passes n [] h = absurd (h refl)
  key-passes n (b ∷ []) h =
      by_less (is_text (untried R) (b ∷ []) ≡ true) b 0x20 (λ k. byte_passes b [] (omega arith) ∙ text_nil (untried R))
      (λ k. character-passes n (b ∷ []) (λ e. h (rw (le-ltb b 0x20 k) e)))
  key-passes n (b ∷ x ∷ []) h =
      by_test (is_text (untried R) (b ∷ x ∷ []) ≡ true) (eqb b 0x1B)
      (λ e.
      let q = eqb-true b 0x1B e in
      byte_passes b (x ∷ []) (omega arith) ∙ byte_passes x [] (escaped_low n x (λ u. h (rw e u))) ∙ text_nil (untried R))
      (λ e. character-passes n (b ∷ x ∷ []) (λ u. h (rw e u)))
  key-passes n (b ∷ x ∷ y ∷ s) h = character-passes n (b ∷ x ∷ y ∷ s) h

  -- 4 and a call never meet
  pub bound_passes : (s : List ℕ) → (press_of R s ≡ p.Unbound → ⊥) → foreign_key R s ≡ false
  unfolding press_of foreign_key
  bound_passes s h = ap not (count-passes s ∙ key-passes (count_of s) (key_in s) h)
