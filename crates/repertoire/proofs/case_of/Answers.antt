use mathlib.Core.Path.{ap, sym, ◌∙◌}
use Rattle.repertoire.specs.Repertoire.{catalogue}
use Rattle.repertoire.specs.Case.{case_of}
use Rattle.repertoire.proofs.case_of.Goals as goal

pub returns-in-Upper : goal.returns-in-Upper
returns-in-Upper c = c.upper_of.ensures ∙ ap (λ k. case_of catalogue k c.args.cp) (sym c.in-Upper.is)

pub returns-in-Lower : goal.returns-in-Lower
returns-in-Lower c = c.lower_of.ensures ∙ ap (λ k. case_of catalogue k c.args.cp) (sym c.in-Lower.is)
