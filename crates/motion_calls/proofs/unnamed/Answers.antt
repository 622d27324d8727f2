use mathlib.Core.Path.{◌∙◌}
use Rattle.repertoire.specs.Repertoire.{catalogue}
use Rattle.motion_calls.proofs.Called.{unnamed-refused}
use Rattle.motion_calls.proofs.unnamed.Goals as goal

pub returns : goal.returns
returns c = unnamed-refused catalogue c.args.text.now c.args.line _ _ (c.number.ensures ∙ c.refusal.ensures) c.says.ensures
