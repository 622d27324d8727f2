use mathlib.Core.Path.{ap}
use Prim.Native.Nat.{ℕ, ◌+◌}
use native.Mathlib.Omega.{arith}
use Rattle.repertoire.specs.Repertoire.{catalogue}
use Rattle.repertoire.proofs.Catalogue.{catalogue_lawful}
use Rattle.repertoire.proofs.Widths.{width-most}
use Rattle.layout.specs.Width.{advance}
use Rattle.layout.proofs.advance.Goals as goal

pub overflow_add-result : goal.overflow_add-result
overflow_add-result c = omega (arith, c.requires, c.char_width.ensures, width-most catalogue catalogue_lawful c.args.cp)

pub returns : goal.returns
unfolding advance
returns c = ap (λ (w : ℕ). c.args.col + w) c.char_width.ensures
