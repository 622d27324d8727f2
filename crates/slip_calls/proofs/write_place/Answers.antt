use Prim.Native.Nat.{ℕ, ◌+◌}
use mathlib.Core.Path.{sym, ap, ◌∙◌}
use mathlib.Core.List.{List}
use native.Mathlib.Omega.{arith}
use lib.ListN.{set, length-set}
use borrow.Author.Tests.{not-true, not-false}
use Rattle.slip_calls.proofs.Places.{placed-most, placed-length, spaces-placed, newline-placed}
use Rattle.slip_calls.proofs.write_place.Goals as goal

pub overflow_add-end : goal.overflow_add-end
overflow_add-end c = omega (arith, placed-most c.args.place, c.requires)

pub fill-requires : goal.fill-requires
fill-requires c = omega (arith, placed-most c.args.place, c.requires)

pub returns-then-not-place : goal.returns-then-not-place
returns-then-not-place c =
    let a = c.args in
    let e = not-true _ c.if-not-place.true in
    (c.fill.ensures ∙ spaces-placed a.page.now a.at a.place e, ap (λ (n : ℕ). a.at + n) (sym ((placed-length a.place).1 e)))

pub bounds-page-end : goal.bounds-page-end
bounds-page-end c = omega (arith, (placed-length c.args.place).0 (not-false _ c.if-not-place.false), c.requires, c.fill.auto.s)

pub overflow_add-result : goal.overflow_add-result
overflow_add-result c = omega (arith, (placed-length c.args.place).0 (not-false _ c.if-not-place.false), c.requires)

pub shape_of-page : goal.shape_of-page
shape_of-page c = simp length-set c.fill.auto.s

pub returns : goal.returns
returns c =
    let a = c.args in
    let e = not-false _ c.if-not-place.false in (
      ap (λ (l : List ℕ). set l (a.at + a.place.spaces) 0x0A) c.fill.ensures ∙ newline-placed a.page.now a.at a.place e,
      omega (arith, (placed-length a.place).0 e),
    )
