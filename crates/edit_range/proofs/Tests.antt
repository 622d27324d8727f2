-- The places of a range where the tests of a call pass. Assumes nothing.
use mathlib.Core.Path.{◌≡◌}
use mathlib.Core.Bool.{false, not, ◌||◌}
use Prim.Native.Nat.{ℕ}
use native.Mathlib.Omega.{arith}
use lib.Dec.{ltb}
use lib.ListN.{length}
use borrow.Author.Tests.{ltb-false, not-false}
use Rattle.lists.proofs.Bools.{or_none}
use Rattle.utf8.specs.Chars.{boundary, In}
use Rattle.edit.specs.Calls.{Lent, text_of}

-- places that 5 and 6 pass lie in the text, between its characters
pub range_in : (l : Lent) (a b : ℕ) → l.line.len ≡ length (text_of l) → ltb l.line.len b || ltb b a ≡ false
    → not (boundary (text_of l) a) || not (boundary (text_of l) b) ≡ false → In (text_of l) a b
range_in l a b len p s =
    let x = or_none (ltb l.line.len b) (ltb b a) p in
    let y = or_none (not (boundary (text_of l) a)) (not (boundary (text_of l) b)) s in
    let h = ltb-false l.line.len b x.0 in
    (ltb-false b a x.1, omega (arith, len), not-false _ y.0, not-false _ y.1)
