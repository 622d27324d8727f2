use Rattle.std.proofs.Common.{rules, subst}
use Rattle.std.specs.Io.KnownBytes.{Consumes}
use Rattle.test_fields.proofs.Reading.{consumes_both, filled_with}
use Rattle.test_fields.proofs.fill_from.Goals as goal

pub loop-filled-preserved : goal.loop-filled-preserved
loop-filled-preserved g c =
    let l = c.loop-filled in
    let read = c.in_ok-n.ensures in (
      search rules,
      subst (Consumes _ _) (filled_with l.out c.read.new.buf l.filled c.in_ok-n.n l.invariant.0 read.bound.0)
          (consumes_both _ _ _ _ _ l.invariant.1 read.bytes.0),
    )
