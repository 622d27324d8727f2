use mathlib.Core.Path.{refl, sym}
use mathlib.Core.Bool.{true}
use Rattle.lists.proofs.Bools.{never}
use Rattle.repertoire.specs.Repertoire.{catalogue}
use Rattle.checks.specs.Checks.{no_tests, with_code}
use Rattle.formats.proofs.Formats.{fit_for}
use Rattle.edit.specs.Calls.{lent}
use Rattle.edit.proofs.Tests.{own-passed}
use Rattle.edit.proofs.unnamed.Goals as goal

pub check-requires : goal.check-requires
check-requires c = fit_for _ c.format_for.ensures

-- the code's test is met: the checks do not pass
pub returns-in-Ok : goal.returns-in-Ok
returns-in-Ok c =
    let a = c.args in
    let l = lent a.text.now a.records.now a.texts.now a.line a.log in
    never _ true refl (own-passed catalogue c.format_for.result l (with_code true no_tests) (sym c.in-Ok.ensures.number)).code
