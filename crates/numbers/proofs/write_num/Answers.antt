use native.Mathlib.Omega.{arith}
use mathlib.Core.Path.{refl, ◌∙◌}
use Rattle.numbers.proofs.Written.{byte_stored, part_stored}
use Rattle.numbers.proofs.write_num.Goals as goal

pub loop-byte-preserved : goal.loop-byte-preserved
loop-byte-preserved c =
    let l = c.loop-byte in
    byte_stored l.byte-items l.byte-index c.args.width l.rest (omega arith) ∙ l.invariant

pub returns : goal.returns
returns c =
    let l = c.loop-byte in
    part_stored c.args.s.now _ l.byte-items c.args.at c.args.width c.args.v l.byte-index l.rest
    c.requires refl l.auto.byte-items l.invariant c.loop-byte-test.false
