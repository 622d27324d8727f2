-- The character that ends at a boundary. Assumes nothing.
use mathlib.Core.Path.{◌≡◌, ap, ◌∙◌}
use mathlib.Core.Bool.{true}
use mathlib.Core.List.{List, [], ◌∷◌, ◌++◌}
use Prim.Native.Nat.{ℕ, ◌+◌, ◌-◌, ◌<◌, ◌≤◌}
use native.Mathlib.Omega.{arith}
use lib.ListN.{length, take, drop, length-take, drop_of_length-le}
use lib.Seq.{take-add, get_or-take}
use Rattle.utf8.specs.Utf8.{char, bad, first}
use Rattle.utf8.specs.Chars.{chars_from, chars, valid, boundary, start_before, EndsAt}
use Rattle.utf8.proofs.Chars.{first-within, chars_step}
use Rattle.utf8.proofs.Append.{same_first, chars-append}
use Rattle.utf8.proofs.Boundary.{start-before}

-- the character that ends at a boundary, by its start i
pub ends-before : (s : List ℕ) (j i : ℕ) → valid s ≡ true → boundary s j ≡ true → 0 < j → j ≤ length s → i ≡ start_before s j → EndsAt s j i
ends-before s j i v b h l e = rw e (start-before s j v b h l)

pub ends_never : (P : Type 0) (s : List ℕ) (j i : ℕ) → EndsAt s j i → first (drop i s) ≡ bad → P
ends_never P s j i z e = let h = z.char_there in let o : ◌≡◌ {A = ℕ} 0 1 = cc in absurd (omega arith)

-- the character that ends at j, with the one that decoding finds at its start
pub ends_char : (s : List ℕ) (j i c n : ℕ) → EndsAt s j i → first (drop i s) ≡ char c n → n ≡ j - i
ends_char s j i c n z e = let h = z.char_there in cc

-- the bytes of one character
one_char : (t : List ℕ) (c n : ℕ) → first t ≡ char c n → chars (take n t) ≡ c ∷ []
unfolding chars_from
one_char t c n e =
    let w = (first-within t c n e).fits in
    let f : first (take n t) ≡ char c n = same_first t (take n t) c n e (λ k h. get_or-take n t k 256 h) in
    let l : length (take n t) ≤ n = omega (arith, length-take n t) in
    chars_step (take n t) c n f ∙ ap (λ (l : List ℕ). c ∷ chars l) (drop_of_length-le (take n t) l)

-- the characters before j end with it
pub chars-before : (s : List ℕ) (j i c n : ℕ) → EndsAt s j i → first (drop i s) ≡ char c n → chars (take j s) ≡ chars (take i s) ++ (c ∷ [])
chars-before s j i c n f e =
    let m = ends_char s j i c n f e in
    let b = f.below in
    let q : j ≡ i + n = omega arith in
    ap (λ (x : ℕ). chars (take x s)) q ∙ ap chars (take-add i n s) ∙ chars-append (take i s) (take n (drop i s)) f.start ∙
    ap (λ (l : List ℕ). chars (take i s) ++ l) (one_char (drop i s) c n e)
