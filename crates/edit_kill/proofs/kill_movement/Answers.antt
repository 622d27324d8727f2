use Rattle.formats.proofs.Formats.{fit_for}
use Rattle.edit_kill.proofs.kill_movement.Goals as goal

pub admit-requires : goal.admit-requires
admit-requires c = fit_for _ c.format_for-f.ensures
