-- A text put into another: at a seam, at the end, into none, and the length. Assumes nothing.
use Prim.Native.Nat.{ℕ, ◌+◌, ◌≤◌}
use native.Mathlib.Omega.{arith}
use mathlib.Core.Path.{◌≡◌, sym, ap, ◌∙◌}
use mathlib.Core.List.{List, [], ◌++◌, append-nil}
use lib.ListN.{length, take, length-append, length-drop}
use lib.Seq.{length-take-le, take_at, drop_at}
use Rattle.buffer.specs.Edit.{inserted}

pub inserted-at : (a b x : List ℕ) (i : ℕ) → length a ≡ i → inserted (a ++ b) i x ≡ a ++ (x ++ b)
unfolding inserted
inserted-at a b x i e = rw (take_at a b i e, drop_at a b i e)

pub inserted-end : (a x : List ℕ) (i : ℕ) → length a ≡ i → inserted a i x ≡ a ++ x
inserted-end a x i e = ap (λ (l : List ℕ). inserted l i x) (sym (append-nil a)) ∙ inserted-at a [] x i e ∙ ap (λ (l : List ℕ). a ++ l) (append-nil x)

pub inserted-length : (t : List ℕ) (i : ℕ) (x : List ℕ) → i ≤ length t → length (inserted t i x) ≡ length t + length x
unfolding inserted
inserted-length t i x h = simp (length-append, length-drop) (rw (length-take-le i t h) (omega arith))

-- bytes copied to the front of a buffer of their own
pub copied : (after src : List ℕ) (n : ℕ) → n ≡ length src → take (0 + length src) after ≡ inserted [] 0 src → take n after ≡ src
unfolding inserted
copied after src n e h =
    let z : n ≡ 0 + length src = omega arith in
    ap (λ (k : ℕ). take k after) z ∙ h ∙ append-nil src
