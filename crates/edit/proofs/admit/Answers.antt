use mathlib.Core.Path.{refl}
use Rattle.log_records.proofs.Walks.{newest_last}
use Rattle.repertoire.specs.Repertoire.{catalogue}
use Rattle.edit.proofs.admit.Goals as goal

pub returns-in-Ok-clause-passes : goal.returns-in-Ok-clause-passes
returns-in-Ok-clause-passes c =
    let checks = c.in-Ok.ensures in
    record { same = refl; ready = checks.ready; last = newest_last catalogue c.args.f _ _ checks.newest }
