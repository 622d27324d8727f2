-- Numbers of w bytes, little-endian: written and read, read and written. Assumes nothing.
use Prim.Native.Nat.{ℕ, zero, suc, ◌+◌, ◌*◌, ◌/◌, ◌%◌, ◌≤◌, ◌<◌}
use native.Mathlib.Numerals.{add-one}
use native.Mathlib.Omega.{arith}
use mathlib.Core.Path.{◌≡◌, refl, ap, ap₂}
use mathlib.Core.List.{List, [], ◌∷◌, ◌++◌, append_assoc}
use lib.ListN.{length, get_or, take, drop, length-append}
use lib.Seq.{get_or_at, get_or-take, drop-cons}
use Rattle.numbers.specs.Numbers.{top, le, num_at}

-- every element is a byte
abbrev pub Bytes : List ℕ → Type 0
Bytes l = (i : ℕ) → get_or l i 0 < 256

pub length-le : (w v : ℕ) → length (le w v) ≡ w
length-le zero v = refl
length-le (suc w) v = ap suc (length-le w (v / 256))

-- a number written is read
pub num_le : (w v at : ℕ) (p q : List ℕ) → length p ≡ at → v < top w → num_at w (p ++ (le w v ++ q)) at ≡ v
num_le zero v at p q e h = omega arith
num_le (suc w) v at p q e h =
    let here : get_or (p ++ (v % 256 ∷ (le w (v / 256) ++ q))) at 0 ≡ v % 256 = get_or_at p (v % 256) (le w (v / 256) ++ q) 0 at e in
    let rest : num_at w ((p ++ (v % 256 ∷ [])) ++ (le w (v / 256) ++ q)) (at + 1) ≡ v / 256 = num_le w (v / 256) (at + 1) (p ++ (v % 256 ∷ [])) q
    (simp length-append (omega arith)) (omega arith) in
    let rest' : num_at w (p ++ (v % 256 ∷ (le w (v / 256) ++ q))) (at + 1) ≡ v / 256 = rw append_assoc at rest in
    omega arith

-- a number read from bytes is below top
pub num_small : (w : ℕ) (s : List ℕ) (at : ℕ) → Bytes s → num_at w s at < top w
num_small zero s at b = omega arith
num_small (suc w) s at b = omega (arith, b at, num_small w s (at + 1) b)

-- bytes read and written again are the same bytes
pub le_num : (w : ℕ) (s : List ℕ) (at : ℕ) → Bytes s → at + w ≤ length s → le w (num_at w s at) ≡ take w (drop at s)
le_num zero s at b h = refl
le_num (suc w) s at b h =
    let n = num_at w s (at + 1) in
    let x = get_or s at 0 in
    let hx = b at in
    let e1 : (x + 256 * n) % 256 ≡ x = omega arith in
    let e2 : (x + 256 * n) / 256 ≡ n = omega arith in
    let r = le_num w s (at + 1) b (omega arith) in
    rw (e1, e2, drop-cons s at 0 (omega arith), r, add-one at)

-- a number within the first n bytes is read from them
pub num_take : (w n : ℕ) (l : List ℕ) (at : ℕ) → at + w ≤ n → num_at w (take n l) at ≡ num_at w l at
num_take zero n l at h = refl
num_take (suc w) n l at h = ap₂ (λ (x y : ℕ). x + 256 * y) (get_or-take n l at 0 (omega arith)) (num_take w n l (at + 1) (omega arith))
