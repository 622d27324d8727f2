use Rattle.formats.proofs.Formats.{fit_for}
use Rattle.undo_cancel.proofs.cancel.Goals as goal

pub admit-requires : goal.admit-requires
admit-requires c = fit_for _ c.format_for-f.ensures
