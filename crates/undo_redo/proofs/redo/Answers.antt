use Rattle.formats.proofs.Formats.{fit_for}
use Rattle.undo_redo.proofs.redo.Goals as goal

pub admit-requires : goal.admit-requires
admit-requires c = fit_for _ c.format_for-f.ensures
