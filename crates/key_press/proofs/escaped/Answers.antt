use native.Mathlib.Omega.{arith}
use borrow.Author.Tests.{ne_eqb}
use Rattle.key_press.specs.Keys.{escaped}
use Rattle.key_press.proofs.escaped.Goals as goal

pub returns-in-98 : goal.returns-in-98
unfolding escaped
returns-in-98 c = rw c.in-98.is

pub returns-in-99 : goal.returns-in-99
unfolding escaped
returns-in-99 c = rw c.in-99.is

pub returns-in-100 : goal.returns-in-100
unfolding escaped
returns-in-100 c = rw c.in-100.is

pub returns-in-102 : goal.returns-in-102
unfolding escaped
returns-in-102 c = rw c.in-102.is

pub returns-in-108 : goal.returns-in-108
unfolding escaped
returns-in-108 c = rw c.in-108.is

pub returns-in-116 : goal.returns-in-116
unfolding escaped
returns-in-116 c = rw c.in-116.is

pub returns-in-117 : goal.returns-in-117
unfolding escaped
returns-in-117 c = rw c.in-117.is

pub returns-in-121 : goal.returns-in-121
unfolding escaped
returns-in-121 c = rw c.in-121.is

pub returns-in_default : goal.returns-in_default
unfolding escaped
returns-in_default c =
    let b = c.args.b in
    rw (
      ne_eqb b 0x62 (omega arith),
      ne_eqb b 0x63 (omega arith),
      ne_eqb b 0x64 (omega arith),
      ne_eqb b 0x66 (omega arith),
      ne_eqb b 0x6C (omega arith),
      ne_eqb b 0x74 (omega arith),
      ne_eqb b 0x75 (omega arith),
      ne_eqb b 0x79 (omega arith),
    )
