use Rattle.std.proofs.Common.{arith, ◌≡◌, ◌≤◌, false, sym, ◌∙◌}
use borrow.Author.Tests.{ltb-false}
use Rattle.lists.proofs.Bools.{never}
use Rattle.kill_ring.specs.Calls.{lent}
use Rattle.kill_ring.proofs.Passed.{sized, all_short}
use Rattle.kill_ring.proofs.is_damaged.Goals as goal
use Rattle.kill_ring.proofs.is_damaged.Goals.{Else-action_breaks, then-ring, else-ring, then-index_breaks, else-index_breaks}

-- the count is not over the size
below : (c : Else-action_breaks) → c.args.ring.count ≤ c.args.ring.size
below c =
    elim c.if-index_breaks.branch [
      | then-index_breaks w ↦ never _ _ (w.value-is ∙ w.if-index_breaks.true) c.if-action_breaks.false
      | else-index_breaks w ↦ first w.if-index_breaks.false
    ]
  where
    first : c.if-ring.value ≡ false → c.args.ring.count ≤ c.args.ring.size
    first e = elim c.if-ring.branch [ then-ring w ↦ ltb-false _ _ (sym w.value-is ∙ e) | else-ring w ↦ w.if-ring.false ]

pub any_foreign-requires : goal.any_foreign-requires
any_foreign-requires c =
    let h = below (goal.at.any_foreign-requires c).Else-action_breaks in
    let l = lent c.args.slots.now c.args.lens.now c.args.ring in
    let s = sized l c.requires in
    record {
      n_in_bounds = omega (arith, s.slots, h);
      lens_in_bounds = omega (arith, s.lens, h);
      n_value = all_short l s h;
    }
