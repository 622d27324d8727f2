use Rattle.formats.proofs.Formats.{fit_for}
use Rattle.edit_indent.proofs.indent.Goals as goal

pub indent_movement-requires-clause-fit : goal.indent_movement-requires-clause-fit
indent_movement-requires-clause-fit c = fit_for _ c.format_for.ensures
