use mathlib.Core.Path.{sym, ap, ◌∙◌}
use Rattle.std.proofs.Common.{rules}
use Rattle.std.proofs.lemmas.Iterator.Search.{any_from_yields_List}
use Rattle.std.proofs.lemmas.Iterator.Splits.{YieldsList-from_slice_split}
use Rattle.std.specs.List.{list_any}
use Rattle.repertoire.specs.Repertoire.{catalogue}
use Rattle.motion_lines.specs.Lines.{newline}
use Rattle.edit_indent_plans.proofs.Newlines.{lines_split}
use Rattle.edit_indent_plans.proofs.Walks.{inside, splits_any}
use Rattle.edit_indent_plans.proofs.splits.Goals as goal

pub returns : goal.returns
returns c =
    let p = c.args.p.now in
    any_from_yields_List (inside catalogue c.args.m) _ _ _ c.any.ensures.ran
    (YieldsList-from_slice_split _ newline p c.split.ensures.rest c.split.ensures.done c.split.ensures.closure
    (λ x b q k. search rules))
    (λ x b q k. search rules)
    ∙ ap (list_any (inside catalogue c.args.m)) (sym (lines_split p))
    ∙ sym (splits_any catalogue c.args.m p c.requires)
