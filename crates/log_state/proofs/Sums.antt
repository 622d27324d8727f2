-- Sums of used lengths: a part of a buffer, a sum that need not fit the machine, and a difference that is never below 0. Assumes nothing.
use mathlib.Core.Path.{◌≡◌, sym, ap, ap₂, ◌∙◌}
use mathlib.Core.Bool.{Bool, cond}
use mathlib.Core.List.{List}
use Prim.Native.Nat.{ℕ, ◌+◌, ◌-◌, ◌≤◌, min}
use native.Mathlib.Omega.{arith}
use borrow.Author.Tests.{lt-ltb, le-ltb}
use lib.Dec.{ltb}
use lib.ListN.{take, drop}
use Rattle.lists.proofs.Bools.{by_less}
use Rattle.repertoire.specs.Repertoire.{Repertoire}
use Rattle.formats.specs.declared.Format.{Format}
use Rattle.log_model.specs.Layout.{decode, is_some}

-- a sum that need not fit a machine's number
pub over_sum : (len a b : ℕ) → a ≤ len → ltb (len - a) b ≡ ltb len (a + b)
over_sum len a b h =
    by_less _ (len - a) b (λ l. lt-ltb (len - a) b l ∙ sym (lt-ltb len (a + b) (omega arith)))
    (λ l. le-ltb (len - a) b l ∙ sym (le-ltb len (a + b) (omega arith)))

-- the lesser of two numbers
pub least_is : (a b m : ℕ) → m ≡ min a b → m ≡ cond (ltb a b) a b
least_is a b m e =
    by_less _ a b
    (λ h. let f : m ≡ a = omega arith in f ∙ sym (rw (lt-ltb a b h)))
    (λ h. let f : m ≡ b = omega arith in f ∙ sym (rw (le-ltb a b h)))

-- the part from a to a + n
part-sum : (a n : ℕ) (l : List ℕ) → take (a + n - a) (drop a l) ≡ take n (drop a l)
part-sum a n l = let e : a + n - a ≡ n = omega arith in ap (λ (k : ℕ). take k (drop a l)) e

pub list_behind : (R : Repertoire) (F : Format) (rb tb : List ℕ) (a n b m : ℕ) (r : Bool) →
    r ≡ is_some (decode R F (take (a + n - a) (drop a rb)) (take (b + m - b) (drop b tb))) → r ≡ is_some (decode R F (take n (drop a rb)) (take m (drop b tb)))
list_behind R F rb tb a n b m r e = e ∙ ap₂ (λ (x y : List ℕ). is_some (decode R F x y)) (part-sum a n rb) (part-sum b m tb)
