use mathlib.Core.Path.{◌≡◌, refl, ap, subst, ◌∙◌}
use Rattle.std.specs.Prelude.{Option, IfSome}
use Rattle.log_records.specs.declared.Record.{Record}
use Rattle.undo.specs.Undo.{undo_out}
use Rattle.undo.specs.Steps.{ends_in}
use Rattle.undo.proofs.Seams.{some_newest}
use Rattle.undo.proofs.Steps.{at-start}
use Rattle.undo.proofs.Walks.{edited, still}
use Rattle.undo.proofs.Units.{newest-ended}
use Rattle.undo.proofs.undo_newest.Goals as goal

pub undo_at-p-requires : goal.undo_at-p-requires
undo_at-p-requires c = record {
  fit = c.requires.fit;
  ready = c.requires.ready;
  number_value = (refl, c.requires.n_bound.1);
  last_start = c.requires.last_start;
}

pub returns : goal.returns
unfolding undo_out
returns c =
    let n = some_newest c.requires.ready c.requires.n_bound.1 in
    let at = at-start c.requires.ready c.requires.last_start n.2 in
    let ended = subst (λ (o : Option Record). IfSome o (λ r. ends_in r.kind ≡ 0)) at.read c.requires.not_end in
    let w = newest-ended c.requires.ready n.2 c.undo_at-p.result c.undo_at-p.new.text c.undo_at-p.ensures c.undo_at-p.auto.text
    c.requires.n_bound.0 (ap ends_in (c.undo_at-p.ensures n.0 n.1 n.2).0 ∙ ended)
    c.answer.ensures in
    record { outcome = edited w; still = still w }
