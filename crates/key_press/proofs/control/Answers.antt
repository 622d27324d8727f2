use native.Mathlib.Omega.{arith}
use borrow.Author.Tests.{ne_eqb}
use Rattle.key_press.specs.Keys.{control}
use Rattle.key_press.proofs.control.Goals as goal

pub returns-in-1 : goal.returns-in-1
unfolding control
returns-in-1 c = rw c.in-1.is

pub returns-in-2 : goal.returns-in-2
unfolding control
returns-in-2 c = rw c.in-2.is

pub returns-in-4 : goal.returns-in-4
unfolding control
returns-in-4 c = rw c.in-4.is

pub returns-in-5 : goal.returns-in-5
unfolding control
returns-in-5 c = rw c.in-5.is

pub returns-in-6 : goal.returns-in-6
unfolding control
returns-in-6 c = rw c.in-6.is

pub returns-in-9 : goal.returns-in-9
unfolding control
returns-in-9 c = rw c.in-9.is

pub returns-in-10 : goal.returns-in-10
unfolding control
returns-in-10 c = rw c.in-10.is

pub returns-in-11 : goal.returns-in-11
unfolding control
returns-in-11 c = rw c.in-11.is

pub returns-in-13 : goal.returns-in-13
unfolding control
returns-in-13 c = rw c.in-13.is

pub returns-in-20 : goal.returns-in-20
unfolding control
returns-in-20 c = rw c.in-20.is

pub returns-in-21 : goal.returns-in-21
unfolding control
returns-in-21 c = rw c.in-21.is

pub returns-in-23 : goal.returns-in-23
unfolding control
returns-in-23 c = rw c.in-23.is

pub returns-in-25 : goal.returns-in-25
unfolding control
returns-in-25 c = rw c.in-25.is

pub returns-in-31 : goal.returns-in-31
unfolding control
returns-in-31 c = rw c.in-31.is

pub returns-in_default : goal.returns-in_default
unfolding control
returns-in_default c =
    let b = c.args.b in
    rw (
      ne_eqb b 0x01 (omega arith),
      ne_eqb b 0x02 (omega arith),
      ne_eqb b 0x04 (omega arith),
      ne_eqb b 0x05 (omega arith),
      ne_eqb b 0x06 (omega arith),
      ne_eqb b 0x09 (omega arith),
      ne_eqb b 0x0A (omega arith),
      ne_eqb b 0x0B (omega arith),
      ne_eqb b 0x0D (omega arith),
      ne_eqb b 0x14 (omega arith),
      ne_eqb b 0x15 (omega arith),
      ne_eqb b 0x17 (omega arith),
      ne_eqb b 0x19 (omega arith),
      ne_eqb b 0x1F (omega arith),
    )
