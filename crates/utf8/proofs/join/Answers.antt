use Rattle.utf8.proofs.Bits.{join_law}
use Rattle.utf8.proofs.join.Goals as goal

pub returns : goal.returns
returns c = join_law c.args.bits c.args.b c.requires
