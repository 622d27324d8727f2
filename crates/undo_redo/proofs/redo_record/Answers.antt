use native.Mathlib.Omega.{arith}
use mathlib.Core.Path.{◌≡◌, refl, sym, ap, subst, ◌∙◌}
use Rattle.std.specs.Prelude.{Option, Some, IfSome, is_some}
use Rattle.log_records.specs.declared.Record.{Record}
use Rattle.log_records.specs.Records.{record_at, InBounds}
use mathlib.Core.Bool.{false}
use Rattle.undo.specs.Steps.{lent_by}
use Rattle.undo.proofs.Passes.{is-stop, no-stop}
use Rattle.undo.proofs.Seams.{some_next, next-stands, texts-below}
use Rattle.undo.proofs.Steps.{next-space, next_seam_there, record_stops, record_passes}
use Rattle.undo_redo.proofs.redo_record.Goals as goal
use Rattle.undo_redo.proofs.redo_record.Goals.{After-unwrap-r}

-- the record that was read
read : (c : After-unwrap-r) → Some c.unwrap-r.result ≡ record_at c.args.f c.args.records.now c.args.log.undo.records
read c = sym c.unwrap-r.ensures ∙ c.read_record.ensures.same

bounds : (c : After-unwrap-r) → InBounds c.unwrap-r.result
bounds c = subst (λ (o : Option Record). IfSome o InBounds) c.unwrap-r.ensures c.read_record.ensures.bounds

pub unwrap-r-requires : goal.unwrap-r-requires
unwrap-r-requires c =
    let n = some_next c.requires.ready c.requires.number_value.1 in
    ap is_some (c.read_record.ensures.same ∙ (next-stands c.requires.ready n.2).read)

pub undo_or_redo-step-requires : goal.undo_or_redo-step-requires
undo_or_redo-step-requires c =
    let n = (some_next c.requires.ready c.requires.number_value.1).2 in
    record {
      number_value = (
        c.requires.number_value.0,
        c.requires.ready.used,
        (bounds (goal.at.undo_or_redo-step-requires c).After-unwrap-r).place,
        next-space c.requires.ready n
            (read (goal.at.undo_or_redo-step-requires c).After-unwrap-r),
        texts-below c.requires.ready,
      );
      text_value = c.requires.ready.text;
    }

pub returns-then-is_some : goal.returns-then-is_some
returns-then-is_some c =
    let a = c.args in
    let l = lent_by a.text.now a.records.now a.texts.now a.s a.log in
    λ x d e. record_stops a.f l false x d (next-stands c.requires.ready e) (read
    (goal.at.returns-then-is_some c).After-unwrap-r) a.s c.undo_or_redo-step.result
    c.undo_or_redo-step.new.text c.undo_or_redo-step.ensures refl (is-stop c.is_some.ensures c.if-is_some.true)

pub overflow_add-at : goal.overflow_add-at
overflow_add-at c =
    omega (
      arith,
      c.requires.ready.log.hold.room,
      c.requires.ready.log.records,
      c.requires.ready.log.fit.records,
      (bounds (goal.at.overflow_add-at c).After-unwrap-r).size,
    )

pub overflow_add-t : goal.overflow_add-t
overflow_add-t c =
    let n = (some_next c.requires.ready c.requires.number_value.1).2 in
    omega (arith, next-space c.requires.ready n (read (goal.at.overflow_add-t c).After-unwrap-r), texts-below c.requires.ready)

pub move_seam-requires : goal.move_seam-requires
move_seam-requires c =
    let n = (some_next c.requires.ready c.requires.number_value.1).2 in
    let m = next_seam_there c.requires.ready n (read (goal.at.move_seam-requires c).After-unwrap-r) in
    record {
      records_bound = (
        m.within,
        omega (
          arith,
          c.requires.ready.log.hold.room,
          c.requires.ready.log.records,
          c.requires.ready.log.fit.records,
        ),
      );
      texts_bound = (m.texts, omega (arith, c.requires.ready.log.hold.space, texts-below c.requires.ready));
    }

pub returns : goal.returns
returns c =
    let a = c.args in
    let l = lent_by a.text.now a.records.now a.texts.now a.s a.log in
    λ x d e. record_passes a.f l false x d (next-stands c.requires.ready e) (read
    (goal.at.returns c).After-unwrap-r) a.s c.undo_or_redo-step.result
    c.undo_or_redo-step.new.text c.undo_or_redo-step.ensures
    (next_seam_there c.requires.ready e (read (goal.at.returns c).After-unwrap-r)) (no-stop c.is_some.ensures c.if-is_some.false) c.move_seam.ensures
