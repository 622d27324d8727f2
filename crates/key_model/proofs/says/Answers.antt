use mathlib.Core.Path.{ap, ◌∙◌}
use Rattle.edit.specs.declared.EditAnswer.{EditAnswer}
use Rattle.key_model.specs.Contract.{with_ring}
use Rattle.key_model.proofs.says.Goals as goal

pub returns : goal.returns
returns c = c.with_ring.ensures ∙ ap (λ (a : EditAnswer). with_ring a c.args.ring) c.says.ensures
