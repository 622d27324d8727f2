-- What holds of a lent ring that checks 2 and 8 pass, and the checks one by one. Assumes nothing.
use Prim.Native.Nat.{◌*◌, ◌≤◌}
use native.Mathlib.Omega.{arith}
use mathlib.Core.Path.{◌≡◌, sym, ap, ap₂, ◌∙◌}
use mathlib.Core.Bool.{Bool, true, false, true≢false}
use lib.Dec.{ltb}
use lib.ListN.{length}
use borrow.Author.Tests.{ltb-false, lt-ltb, le-ltb}
use Rattle.lists.proofs.Bools.{or_none, by_less}
use Rattle.repertoire.specs.Repertoire.{Repertoire}
use Rattle.checks.specs.Checks.{both, refusal, own_tests}
use Rattle.checks.proofs.Fit.{refusal-passed}
use Rattle.kill_ring.specs.declared.Ring.{Ring}
use Rattle.kill_ring.specs.Calls.{Lent, slots_from, any_over, in_use, over_sizes, action_breaks, index_breaks, any_foreign, damaged}
use Rattle.kill_ring.specs.Calls.{ring_tests, checked}

-- ---- the slots in use
pub in_use_all : (r : Ring) → r.count ≤ r.size → in_use r ≡ r.count
in_use_all r h = rw (le-ltb r.size r.count h)

-- at most the size
pub in_use_most : (r : Ring) → in_use r ≤ r.size
in_use_most r = by_less (in_use r ≤ r.size) r.size r.count (λ h. rw (lt-ltb r.size r.count h) (omega arith)) (λ h. rw (le-ltb r.size r.count h) h)

-- ---- check 2 in its parts
pub record Sized (l : Lent) : Type 0 where
  pub size : l.ring.size ≤ 16
  pub slots : 4096 * l.ring.size ≤ length l.slots
  pub lens : 2 * l.ring.size ≤ length l.lens
  pub short : any_over l.lens 0 (in_use l.ring) ≡ false

-- what check 2 passes
pub sized : (l : Lent) → over_sizes l ≡ false → Sized l
unfolding over_sizes
sized l e =
    let a = or_none (ltb 16 l.ring.size) _ e in
    let b = or_none (ltb (length l.slots) (4096 * l.ring.size)) _ a.1 in
    let c = or_none (ltb (length l.lens) (2 * l.ring.size)) _ b.1 in
    record { size = ltb-false _ _ a.0; slots = ltb-false _ _ b.0; lens = ltb-false _ _ c.0; short = c.1 }

-- no slot in use has a length over 4,096
pub all_short : (l : Lent) → Sized l → l.ring.count ≤ l.ring.size → any_over l.lens 0 l.ring.count ≡ false
all_short l s h = ap (any_over l.lens 0) (sym (in_use_all l.ring h)) ∙ s.short

-- ---- both checks in their parts
pub record Ready (R : Repertoire) (l : Lent) : Type 0 where
  pub size : l.ring.size ≤ 16
  pub slots : 4096 * l.ring.size ≤ length l.slots
  pub lens : 2 * l.ring.size ≤ length l.lens
  pub count : l.ring.count ≤ l.ring.size
  pub short : any_over l.lens 0 l.ring.count ≡ false
  pub index : index_breaks l.ring ≡ false
  pub action : action_breaks l.ring ≡ false
  pub texts : any_foreign R (slots_from l.slots l.lens 0 l.ring.count) ≡ false

-- what checks 2 and 8 pass
pub ready : (R : Repertoire) (l : Lent) → over_sizes l ≡ false → damaged R l ≡ false → Ready R l
unfolding damaged
ready R l e d =
    let s = sized l e in
    let a = or_none (ltb l.ring.size l.ring.count) _ d in
    let b = or_none (index_breaks l.ring) _ a.1 in
    let c = or_none (action_breaks l.ring) _ b.1 in
    let h = ltb-false l.ring.size l.ring.count a.0 in
    record {
      size = s.size;
      slots = s.slots;
      lens = s.lens;
      count = h;
      short = all_short l s h;
      index = b.0;
      action = c.0;
      texts = c.1;
    }

-- ---- the checks by their tests
module _ (R : Repertoire) (l : Lent) (code foreign : Bool) where
  -- a call whose checks all pass
  pub passed : checked R l code foreign ≡ 0 → Ready R l
  passed e =
      let p = refusal-passed (both (ring_tests R l) (own_tests code foreign false)) e in
      ready R l (or_none (over_sizes l) false p.sizes).0 (or_none (damaged R l) false p.damaged).0

  -- its own tests pass too
  pub own-passed : checked R l code foreign ≡ 0 → (code ≡ false) × (foreign ≡ false)
  own-passed e = let p = refusal-passed (both (ring_tests R l) (own_tests code foreign false)) e in (p.code, p.foreign)

  -- and so do the checks of the ring alone
  pub ring-passed : checked R l code foreign ≡ 0 → checked R l false false ≡ 0
  ring-passed e = let p = own-passed e in ap₂ (checked R l) (sym p.0) (sym p.1) ∙ e

  -- no check refuses
  pub says-passed : over_sizes l ≡ false → code ≡ false → foreign ≡ false → damaged R l ≡ false → 0 ≡ checked R l code foreign
  unfolding refusal
  says-passed fine named e f = rw (fine, named, e, f)

-- a number that names no direction is always refused
pub code-refused : (R : Repertoire) (l : Lent) (foreign : Bool) → checked R l true foreign ≡ 0 → ⊥
code-refused R l foreign e = true≢false (own-passed R l true foreign e).0
