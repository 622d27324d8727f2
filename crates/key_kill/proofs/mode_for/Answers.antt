use mathlib.Core.Path.{sym, ap}
use Rattle.key_model.specs.Stands.{mode_for}
use Rattle.key_kill.proofs.mode_for.Goals as goal

pub returns-in-Discard : goal.returns-in-Discard
returns-in-Discard c = sym (ap mode_for c.in-Discard.is)
