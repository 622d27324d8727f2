use Prim.Native.Nat.{ℕ, ◌+◌}
use mathlib.Core.Path.{ap, ◌∙◌}
use native.Mathlib.Omega.{arith}
use Rattle.slip_calls.proofs.Places.{space-most, place-fits, place-below}
use Rattle.slip_calls.proofs.place_for.Goals as goal

pub overflow_add-columns : goal.overflow_add-columns
overflow_add-columns c = omega (arith, c.filled_to.ensures, c.space_before-spaces.ensures, space-most c.args.filled, c.requires)

pub overflow_add-columns-2 : goal.overflow_add-columns-2
overflow_add-columns-2 c = omega (arith, c.filled_to.ensures, c.space_before-spaces.ensures, space-most c.args.filled, c.requires)

pub returns-then-columns-le-COLUMNS : goal.returns-then-columns-le-COLUMNS
returns-then-columns-le-COLUMNS c =
    let a = c.args in
    place-fits a.filled a.n _ _ c.space_before-spaces.ensures
    (ap (λ (k : ℕ). k + c.space_before-spaces.result + a.n) c.filled_to.ensures) c.if-columns-le-COLUMNS.true

pub returns : goal.returns
returns c =
    let a = c.args in
    c.line_end.ensures
    ∙ place-below a.filled a.n _ _ c.space_before-spaces.ensures
    (ap (λ (k : ℕ). k + c.space_before-spaces.result + a.n) c.filled_to.ensures) c.if-columns-le-COLUMNS.false
