-- Numbers and records written: byte by byte, number by number, and an edit's record by its kind. Assumes nothing.
use Prim.Native.Nat.{ℕ, ◌+◌, ◌≤◌}
use native.Mathlib.Omega.{arith}
use native.Mathlib.Numerals.{add-one}
use mathlib.Core.Path.{◌≡◌, ◌∙◌}
use mathlib.Core.List.{List, ◌∷◌, ◌++◌, append_assoc}
use lib.ListN.{length, set, length-append}
use lib.Seq.{sets}
use Rattle.lists.proofs.Stores.{sets-append}
use Rattle.numbers.specs.Numbers.{le}
use Rattle.formats.specs.declared.Format.{Format}
use Rattle.numbers.proofs.Numbers.{length-le}
use Rattle.log_records.specs.declared.EditKind.{EditKind}
use Rattle.log_records.specs.declared.EditKind.TheVariants.{Insert, Delete, Replace}
use Rattle.log_records.specs.Written.{edit_size}

-- ---- an edit's record has two numbers at least
pub two-numbers : (F : Format) (k : EditKind) → 1 + F.width + F.width ≤ edit_size F k
two-numbers F Insert = omega arith
two-numbers F Delete = omega arith
two-numbers F Replace = omega arith

-- a run stored behind another
behind : (s t u a b : List ℕ) (at j : ℕ) → t ≡ sets s at a → j ≡ at + length a → u ≡ sets t j b → u ≡ sets s at (a ++ b)
behind s t u a b at j e f g = g ∙ rw (e, f) (sets-append s at a b)

-- s with the byte b and the place p stored at at is t
module _ (F : Format) (s t : List ℕ) (at b p : ℕ) (e : t ≡ sets (set s at b) (at + 1) (le F.width p)) where
  first : t ≡ sets s at (b ∷ le F.width p)
  first = e ∙ rw (add-one at)

  -- one number behind them, or two
  pub one_written : (u : List ℕ) (v : ℕ) → u ≡ sets t (at + 1 + F.width) (le F.width v) → u ≡ sets s at (b ∷ (le F.width p ++ le F.width v))
  one_written u v f =
      behind s t u (b ∷ le F.width p) (le F.width v) at (at + 1 + F.width) first (omega (arith, length-le F.width p)) f

  pub two_written : (u v : List ℕ) (o n : ℕ) → u ≡ sets t (at + 1 + F.width) (le F.width o) → v ≡ sets u (at + 1 + F.width + F.width) (le F.width n)
      → v ≡ sets s at (b ∷ (le F.width p ++ (le F.width o ++ le F.width n)))
  two_written u v o n f g =
      let l = length-append (le F.width p) (le F.width o) in
      behind s u v (b ∷ (le F.width p ++ le F.width o)) (le F.width n) at (at + 1 + F.width + F.width) (one_written u o f)
      (omega (arith, l, length-le F.width p, length-le F.width o)) g
      ∙ rw (append_assoc (le F.width p) (le F.width o) (le F.width n))
