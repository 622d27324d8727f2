use mathlib.Core.Path.{sym, ap, ◌∙◌}
use mathlib.Core.Bool.{not}
use Rattle.utf8.specs.Utf8.{tail}
use Rattle.utf8.proofs.Boundary.{boundary_test}
use Rattle.utf8.proofs.is_boundary.Goals as goal

pub returns : goal.returns
returns c = let any = ap not (c.is_tail.ensures ∙ ap tail c.byte_at.ensures) in record
    { any = any; text = λ v. any ∙ sym (boundary_test _ _ v) }
