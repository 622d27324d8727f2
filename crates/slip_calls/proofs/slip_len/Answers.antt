use Prim.Native.Nat.{ℕ, ◌+◌, ◌-◌}
use mathlib.Core.Path.{◌≡◌, ap, ◌∙◌}
use native.Mathlib.Omega.{arith}
use lib.ListN.{length}
use Rattle.repertoire.specs.Repertoire.{catalogue}
use Rattle.slip_model.specs.Slip.{slip}
use Rattle.slip_calls.specs.declared.Place.{Place}
use Rattle.slip_calls.specs.Places.{placed}
use Rattle.slip_calls.proofs.Steps.{closing-few}
use Rattle.slip_calls.proofs.Passes.{Counted, slip-most, count-start, count_more, count-end}
use Rattle.slip_calls.proofs.slip_len.Goals as goal
use Rattle.slip_calls.proofs.slip_len.Goals.{After-place_len, After-place_len-2}

-- what is counted with the step
more : (k : After-place_len) →
    let r = k.step_at-step.result in
    Counted k.args.s.now r.end r.place.filled (k.loop-at.len + (k.place_len.result + (r.end - r.from)))
more k = count_more k.args.s.now k.loop-at.at k.loop-at.filled k.loop-at.len k.loop-at.invariant _ _ k.step_at-step.ensures
    k.place_len.ensures

-- the length with the last line ended
whole : (k : After-place_len-2) →
    k.loop-at.len + k.place_len-2.result ≡ length (slip catalogue k.args.s.now)
whole k = ap (λ (n : ℕ). k.loop-at.len + n) (k.place_len-2.ensures ∙ ap (λ (p : Place). length (placed p)) k.closing_place.ensures)
    ∙ count-end k.args.s.now k.loop-at.at k.loop-at.filled k.loop-at.len k.loop-at.invariant k.loop-at-test.false

pub loop-at-init : goal.loop-at-init
loop-at-init c = count-start c.args.s.now c.requires.0

pub step_at-step-requires : goal.step_at-step-requires
step_at-step-requires c = (c.loop-at-test.true, c.requires.1, c.loop-at.invariant.stands)

pub place_len-requires : goal.place_len-requires
place_len-requires c = c.step_at-step.ensures.few

pub overflow_sub-len : goal.overflow_sub-len
overflow_sub-len c = omega (arith, c.step_at-step.ensures.ordered)

pub overflow_add-len : goal.overflow_add-len
overflow_add-len c =
    omega (arith, (more (goal.at.overflow_add-len c).After-place_len).counted, slip-most c.args.s.now c.requires.1)

pub overflow_add-len-in-loop-at : goal.overflow_add-len-in-loop-at
overflow_add-len-in-loop-at c =
    omega (arith, (more (goal.at.overflow_add-len-in-loop-at c).After-place_len).counted, slip-most c.args.s.now c.requires.1)

pub loop-at-smaller : goal.loop-at-smaller
loop-at-smaller c =
    let r = c.step_at-step.ensures in
    omega (arith, r.forward, r.stands.within)

pub loop-at-preserved : goal.loop-at-preserved
loop-at-preserved c = more (goal.at.loop-at-preserved c).After-place_len

pub closing_place-requires : goal.closing_place-requires
closing_place-requires c = c.loop-at.invariant.stands.narrow

pub place_len-requires-2 : goal.place_len-requires-2
place_len-requires-2 c = omega (arith, ap (λ (p : Place). p.spaces) c.closing_place.ensures, closing-few c.loop-at.filled)

pub overflow_add-result : goal.overflow_add-result
overflow_add-result c = omega (arith, whole c, slip-most c.args.s.now c.requires.1)

pub returns : goal.returns
returns c = whole c
