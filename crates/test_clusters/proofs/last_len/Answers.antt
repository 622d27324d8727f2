use mathlib.Core.Path.{sym, ◌∙◌}
use Rattle.repertoire.specs.Repertoire.{catalogue}
use Rattle.repertoire.proofs.Text.{text-valid}
use Rattle.test_clusters.proofs.last_len.Goals as goal

pub prev_cluster-requires : goal.prev_cluster-requires
prev_cluster-requires c = text-valid catalogue _ (sym c.check_text.ensures ∙ c.if-not-check_text.false)
