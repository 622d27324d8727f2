-- One character's bytes in a buffer of their own. Assumes nothing.
use Prim.Native.Nat.{ℕ, ◌+◌, ◌≤◌}
use native.Mathlib.Omega.{arith}
use mathlib.Core.Path.{◌≡◌, sym, ap, ap₂, ◌∙◌}
use mathlib.Core.Bool.{true}
use mathlib.Core.List.{List, [], ◌∷◌}
use lib.ListN.{length, take}
use lib.Seq.{length-sets, sets}
use Rattle.std.specs.Prelude.{Option, Some, is_some}
use Rattle.lists.specs.Lists.{all}
use Rattle.lists.proofs.Bools.{and_both}
use Rattle.lists.proofs.Stores.{take-sets}
use Rattle.utf8.specs.Chars.{chars, valid}
use Rattle.utf8.specs.Encode.{scalar, encode, EncodedAt}
use Rattle.utf8.proofs.Encode.{size-encode, size_max, written, encode-single, chars-encode, valid-encode}
use Rattle.repertoire.specs.Repertoire.{Repertoire, catalogue}
use Rattle.repertoire.specs.Text.{is_text, is_char}

-- ---- a character's bytes are a text
pub char-text : (R : Repertoire) (c : ℕ) → is_char R c ≡ true → is_text R (encode c) ≡ true
unfolding is_char is_text
char-text R c e =
    let s = and_both (scalar c) (R.member c) e in
    let one : all scalar (c ∷ []) ≡ true = rw s.0 in
    let v = ap valid (sym (encode-single c)) ∙ valid-encode (c ∷ []) one in
    let k : chars (encode c) ≡ c ∷ [] = ap chars (sym (encode-single c)) ∙ chars-encode (c ∷ []) one in
    let m : all R.member (c ∷ []) ≡ true = rw s.1 in
    rw (v, k) m

module _ (c : ℕ) (is : is_char catalogue c ≡ true) where
  pub typed-text : is_text catalogue (encode c) ≡ true
  typed-text = char-text catalogue c is

  module _ (s after : List ℕ) (r : Option ℕ) (h : 4 ≤ length s) (q : EncodedAt s 0 c after r) where
    all_of : (after ≡ sets s 0 (encode c)) × (r ≡ Some (length (encode c)))
    unfolding is_char
    all_of = written s 0 c after r q (and_both (scalar c) (catalogue.member c) is).0 (omega (arith, size_max c))

    pub typed-some : is_some r ≡ true
    typed-some = ap is_some all_of.1

    module _ (n : ℕ) (e : r ≡ Some n) where
      typed-size : n ≡ length (encode c)
      typed-size = let a = all_of.1 in cc

      pub typed-within : n ≤ length after
      typed-within = omega (arith, typed-size, size-encode c, size_max c, ap length all_of.0, length-sets s 0 (encode c))

      pub typed-bytes : take n after ≡ encode c
      typed-bytes = ap₂ take (typed-size ∙ zero_left) all_of.0 ∙ take-sets s 0 (encode c) (omega (arith, size-encode c, size_max c))
        where
          zero_left : length (encode c) ≡ 0 + length (encode c)
          zero_left = omega arith
