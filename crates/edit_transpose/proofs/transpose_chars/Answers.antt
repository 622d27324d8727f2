use Rattle.formats.proofs.Formats.{fit_for}
use Rattle.edit_transpose.proofs.transpose_chars.Goals as goal

pub admit-requires : goal.admit-requires
admit-requires c = fit_for _ c.format_for-f.ensures
