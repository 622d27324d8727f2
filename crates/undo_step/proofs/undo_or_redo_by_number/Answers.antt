use mathlib.Core.Path.{◌≡◌, sym, ap, subst, ◌∙◌}
use Rattle.log_records.specs.declared.Kind.{Kind}
use Rattle.log_records.specs.Records.{Carries}
use Rattle.undo_step.proofs.ByNumber.{kind_named, carried}
use Rattle.undo_step.proofs.undo_or_redo_by_number.Goals as goal
use Rattle.undo_step.proofs.undo_or_redo_by_number.Goals.{in-1, in-2, in-3, in-4, in-5}

pub returns : goal.returns
returns c =
    let a = c.args in
    let r = a.r in
    let kind : kind_named r.kind ≡ c.match-r.kind = elim c.match-r.branch [
      | in-1 w ↦ ap kind_named w.in-1.is ∙ sym w.kind-is
      | in-2 w ↦ ap kind_named w.in-2.is ∙ sym w.kind-is
      | in-3 w ↦ ap kind_named w.in-3.is ∙ sym w.kind-is
      | in-4 w ↦ ap kind_named w.in-4.is ∙ sym w.kind-is
      | in-5 w ↦ ap kind_named w.in-5.is ∙ sym w.kind-is
    ] in
    λ F x h. c.undo_or_redo.ensures F x
    (subst (λ (k : Kind). Carries F x (record { kind = k; place = r.place; old = r.old; new = r.new; size = r.size }) a.texts.now a.t) kind
    (carried F x r a.texts.now a.t h))
