use native.Mathlib.Omega.{arith}
use mathlib.Core.Path.{◌≡◌}
use Rattle.numbers.proofs.Read.{num_two, num_four}
use Rattle.numbers.proofs.read_num.Goals as goal

pub bounds-s-at : goal.bounds-s-at
bounds-s-at c = omega (arith, c.requires.width, c.requires.width_in_bounds)

pub bounds-s-at-2 : goal.bounds-s-at-2
bounds-s-at-2 c = omega (arith, c.requires.width, c.requires.width_in_bounds)

pub returns-then-width-eq2 : goal.returns-then-width-eq2
returns-then-width-eq2 c = let s = c.args in (
  num_two s.width s.at s.s.now _ _ c.wide.ensures.0 c.wide-2.ensures.0 c.if-width-eq2.true,
  omega (arith, c.wide.ensures.1, c.wide-2.ensures.1),
)

pub bounds-s-at-3 : goal.bounds-s-at-3
bounds-s-at-3 c = omega (arith, c.requires.width, c.if-width-eq2.false, c.requires.width_in_bounds)

pub bounds-s-at-4 : goal.bounds-s-at-4
bounds-s-at-4 c = omega (arith, c.requires.width, c.if-width-eq2.false, c.requires.width_in_bounds)

pub returns : goal.returns
returns c = let s = c.args in
    let four : s.width ≡ 4 = omega (arith, c.requires.width, c.if-width-eq2.false) in (
      num_four s.width s.at s.s.now _ _ c.wide.ensures.0 c.wide-2.ensures.0 _ _ four c.wide-3.ensures.0
          c.wide-4.ensures.0,
      omega (arith, c.wide.ensures.1, c.wide-2.ensures.1, c.wide-3.ensures.1, c.wide-4.ensures.1),
    )
