-- The bytes that are written. Assumes nothing.
use Prim.Native.Nat.{ℕ, ◌+◌, ◌≤◌}
use mathlib.Core.Path.{◌≡◌, ap, ◌∙◌}
use mathlib.Core.List.{List, ◌++◌}
use lib.ListN.{length, take}
use lib.Seq.{length-take-le}
use Rattle.buffer.specs.Edit.{inserted}
use Rattle.buffer.proofs.Inserted.{inserted-end}

-- the old text put in, and then the new text behind all
pub texts-written : (tb tb₁ tb₂ o n : List ℕ) (used at : ℕ) → used + length o ≤ length tb₁ → take (used + length o) tb₁ ≡ inserted (take used tb) at o
    → take (used + length o + length n) tb₂ ≡ inserted (take (used + length o) tb₁) (used + length o) n → take (used + length o + length n) tb₂ ≡ inserted (take used tb) at o ++ n
texts-written tb tb₁ tb₂ o n used at h e f = f ∙ inserted-end (take (used + length o) tb₁) n (used + length o)
    (length-take-le (used + length o) tb₁ h) ∙ ap (λ (l : List ℕ). l ++ n) e
