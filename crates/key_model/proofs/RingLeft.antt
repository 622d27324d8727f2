-- Which ring a key answers with: the one that its call leaves where the number is 0 or 1, else the one that was lent. Assumes nothing.
use Prim.Native.Nat.{◌≤◌, ◌<◌}
use mathlib.Core.Path.{◌≡◌, sym, ap}
use mathlib.Core.Bool.{Bool, cond}
use lib.Dec.{leb}
use borrow.Author.Tests.{le-leb, lt-leb}
use Rattle.edit.specs.declared.EditAnswer.{EditAnswer}
use Rattle.kill_ring.specs.declared.Ring.{Ring}
use Rattle.key_model.specs.Contract.{with_ring}

-- a and what the call leaves, and the ring that was lent
module _ (a : EditAnswer) (left was : Ring) where
  pub ring_stays : 1 < a.number → with_ring a was ≡ with_ring a (cond (leb a.number 1) left was)
  ring_stays h = sym (ap (λ (b : Bool). with_ring a (cond b left was)) (lt-leb a.number 1 h))

  pub ring_goes_on : a.number ≤ 1 → with_ring a left ≡ with_ring a (cond (leb a.number 1) left was)
  ring_goes_on h = sym (ap (λ (b : Bool). with_ring a (cond b left was)) (le-leb a.number 1 h))
