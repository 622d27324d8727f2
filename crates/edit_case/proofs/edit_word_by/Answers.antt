use Rattle.formats.proofs.Formats.{fit_for}
use Rattle.edit_case.proofs.edit_word_by.Goals as goal

pub admit-requires : goal.admit-requires
admit-requires c = fit_for _ c.format_for-f.ensures
