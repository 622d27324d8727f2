use mathlib.Core.Path.{refl}
use Rattle.formats.specs.Formats.{format_for}
use Rattle.formats.proofs.format_for.Goals as goal

pub returns : goal.returns
unfolding format_for
returns c = refl
