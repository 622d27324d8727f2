use mathlib.Core.Path.{refl}
use Rattle.utf8.specs.Utf8.{within}
use Rattle.repertoire.specs.Text.{plain}
use Rattle.repertoire.proofs.is_plain.Goals as goal

pub returns : goal.returns
unfolding plain within
returns c = refl
