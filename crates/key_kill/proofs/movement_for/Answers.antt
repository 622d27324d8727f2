use mathlib.Core.Path.{sym, ap}
use Rattle.key_model.specs.Stands.{movement_for}
use Rattle.key_kill.proofs.movement_for.Goals as goal

-- src/lib.rt:41:26
-- src/lib.rt:42:29
-- src/lib.rt:43:27
-- src/lib.rt:44:23
-- src/lib.rt:37:1
-- src/lib.rt:37:1
-- src/lib.rt:37:1
pub returns-in-PrevWord : goal.returns-in-PrevWord
returns-in-PrevWord c = sym (ap movement_for c.in-PrevWord.is)

-- src/lib.rt:37:1
pub returns-in-Word : goal.returns-in-Word
returns-in-Word c = sym (ap movement_for c.in-Word.is)
