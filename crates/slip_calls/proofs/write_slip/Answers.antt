use Prim.Native.Nat.{◌+◌, ◌-◌, ◌≤◌}
use mathlib.Core.Path.{◌≡◌, ap, ◌∙◌}
use native.Mathlib.Omega.{arith}
use lib.ListN.{length}
use lib.Seq.{sets}
use Rattle.lists.specs.Lists.{part}
use Rattle.slip_calls.specs.declared.Place.{Place}
use Rattle.slip_calls.specs.Places.{placed}
use Rattle.slip_calls.proofs.Passes as Passes
use Rattle.slip_calls.proofs.Passes.{Written, out-most, write_start, write_fits, write_more, end_fits, write_end}
use Rattle.slip_calls.proofs.write_slip.Goals as goal
use Rattle.slip_calls.proofs.write_slip.Goals.{After-page-in-loop-at-1, After-step_at-step}

-- there is room for a step's bytes
fits : (k : After-step_at-step) →
    let r = k.step_at-step.result in
    (k.loop-at.out + length (placed r.place) + length (part k.args.s.now r.from r.end) ≤ length k.loop-at.page)
    × (length (part k.args.s.now r.from r.end) ≡ r.end - r.from)
fits k = write_fits k.args.s.now k.args.page.now k.loop-at.at k.loop-at.filled k.loop-at.out k.loop-at.page k.loop-at.invariant
    k.step_at-step.result
    k.step_at-step.ensures k.requires.2

-- what is written with the step
more : (k : After-page-in-loop-at-1) →
    let r = k.step_at-step.result in
    let a = k.args in
    Written a.s.now a.page.now r.end r.place.filled (k.write_place-out.result + (r.end - r.from)) k.copy_at.new.s
more k = let a = k.args in
    write_more a.s.now a.page.now k.loop-at.at k.loop-at.filled k.loop-at.out k.loop-at.page k.loop-at.invariant k.step_at-step.result
    k.step_at-step.ensures _ _ _ k.write_place-out.ensures.1 k.write_place-out.ensures.0
    k.copy_at.ensures

pub loop-at-init : goal.loop-at-init
loop-at-init c = write_start c.args.s.now c.args.page.now c.requires.0

pub step_at-step-requires : goal.step_at-step-requires
step_at-step-requires c = (c.loop-at-test.true, c.requires.1, c.loop-at.invariant.stands)

pub write_place-out-requires : goal.write_place-out-requires
write_place-out-requires c = omega (arith, (fits (goal.at.write_place-out-requires c).After-step_at-step).0)

pub slice_bounds-copy_at-count : goal.slice_bounds-copy_at-count
slice_bounds-copy_at-count c = c.step_at-step.ensures.ordered

pub slice_bounds-copy_at-end : goal.slice_bounds-copy_at-end
slice_bounds-copy_at-end c = c.step_at-step.ensures.stands.within

pub copy_at-requires : goal.copy_at-requires
copy_at-requires c =
    omega (arith, (fits (goal.at.copy_at-requires c).After-step_at-step).0, c.write_place-out.ensures.1, c.write_place-out.auto.page)

pub overflow_sub-out : goal.overflow_sub-out
overflow_sub-out c = c.step_at-step.ensures.ordered

pub overflow_add-out : goal.overflow_add-out
overflow_add-out c =
    omega (arith, out-most c.args.s.now c.args.page.now _ _ _ _ (more (goal.at.overflow_add-out c).After-page-in-loop-at-1) c.requires.1)

pub loop-at-smaller : goal.loop-at-smaller
loop-at-smaller c =
    let r = c.step_at-step.ensures in
    omega (arith, r.forward, r.stands.within)

pub loop-at-preserved : goal.loop-at-preserved
loop-at-preserved c = more (goal.at.loop-at-preserved c).After-page-in-loop-at-1

pub closing_place-requires : goal.closing_place-requires
closing_place-requires c = c.loop-at.invariant.stands.narrow

pub write_place-requires : goal.write_place-requires
write_place-requires c =
    let e = ap (λ (p : Place). length (placed p)) c.closing_place.ensures in
    omega (
      arith,
      e,
      end_fits c.args.s.now c.args.page.now c.loop-at.at c.loop-at.filled c.loop-at.out c.loop-at.page c.loop-at.invariant
          c.loop-at-test.false
          c.requires.2,
    )

pub shape_of-page : goal.shape_of-page
shape_of-page c =
    let a = c.args in
    c.write_place.auto.page
    ∙ Passes.same_length a.s.now a.page.now c.loop-at.at c.loop-at.filled c.loop-at.out c.loop-at.page c.loop-at.invariant

pub returns : goal.returns
returns c =
    let a = c.args in
    write_end a.s.now a.page.now c.loop-at.at c.loop-at.filled c.loop-at.out c.loop-at.page c.loop-at.invariant c.loop-at-test.false
    _
    (c.write_place.ensures.0
    ∙ ap (λ (p : Place). sets c.loop-at.page c.loop-at.out (placed p)) c.closing_place.ensures)
