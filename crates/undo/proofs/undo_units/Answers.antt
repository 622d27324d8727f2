use native.Mathlib.Omega.{arith}
use mathlib.Core.Path.{◌≡◌, sym, ap, subst, ◌∙◌}
use Rattle.std.specs.Prelude.{Option, IfSome, is_some}
use borrow.Author.Tests.{leb-true, ltb-true}
use lib.Seq.{length-take-le}
use Rattle.lists.proofs.Bools.{and_both, never}
use Rattle.log_records.specs.declared.Record.{Record}
use Rattle.log_state.proofs.Recorded.{lays, listed}
use Rattle.edit.specs.Calls.{lent, log_lent}
use Rattle.undo.specs.Steps.{ends_in}
use Rattle.undo.proofs.Counts.{no_end}
use Rattle.undo.proofs.Seams.{some_newest}
use Rattle.undo.proofs.Steps.{at-start}
use Rattle.undo.proofs.undo_units.Goals as goal
use Rattle.undo.proofs.undo_units.Goals.{in-End, in_default}

pub undo_newest-requires : goal.undo_newest-requires
undo_newest-requires c =
    let few = and_both _ _ c.if-n-ur.true in
    record {
      fit = c.requires.fit;
      ready = c.requires.ready;
      n_bound = (leb-true _ _ few.0, ltb-true _ _ few.1);
      last_start = c.requires.last_start;
      not_end =
          subst (λ (o : Option Record). IfSome o (λ r. ends_in r.kind ≡ 0)) (sym c.unwrap-r.ensures ∙ c.read_record.ensures.same)
          (elim c.match-matches.branch [
            | in-End w ↦ never _ _ w.matches-is c.if-not-matches.true
            | in_default w ↦ sym (no_end _ w.in_default.not-End)
          ]);
    }

pub unwrap-r-requires : goal.unwrap-r-requires
unwrap-r-requires c =
    let few = and_both _ _ c.if-n-ur.true in
    let n = some_newest c.requires.ready (ltb-true _ _ few.1) in
    ap is_some (c.read_record.ensures.same ∙ (at-start c.requires.ready c.requires.last_start n.2).read)

pub slice_bounds-write_sizes-end : goal.slice_bounds-write_sizes-end
slice_bounds-write_sizes-end c =
    let a = c.args in
    sym (length-take-le a.checked.log.undo.records a.records.now (omega (arith, c.requires.ready.log.hold.room)))

pub write_sizes-requires : goal.write_sizes-requires
write_sizes-requires c =
    let a = c.args in
    let l = lent a.text.now a.records.now a.texts.now a.checked.line a.checked.log in
    let e = length-take-le a.checked.log.undo.records a.records.now (omega (arith, c.requires.ready.log.hold.room)) in
    record {
      fit = c.requires.fit;
      listed = listed a.checked.format (log_lent l) c.requires.ready.log;
      records_in_bounds = omega (arith, e, c.if-ur-le1024.true);
    }

pub undo_by_sizes-requires : goal.undo_by_sizes-requires
undo_by_sizes-requires c =
    let a = c.args in
    let l = lent a.text.now a.records.now a.texts.now a.checked.line a.checked.log in
    record {
      fit = c.requires.fit;
      ready = c.requires.ready;
      records_in_bounds = omega (arith, c.write_sizes.auto.sizes, c.if-ur-le1024.true);
      sizes_of = (c.write_sizes.ensures _ _ (lays a.checked.format (log_lent l) c.requires.ready.log)).1;
    }

pub slice_bounds-write_sizes-end-2 : goal.slice_bounds-write_sizes-end-2
slice_bounds-write_sizes-end-2 c =
    let a = c.args in
    sym (length-take-le a.checked.log.undo.records a.records.now (omega (arith, c.requires.ready.log.hold.room)))

pub write_sizes-requires-2 : goal.write_sizes-requires-2
write_sizes-requires-2 c =
    let a = c.args in
    let l = lent a.text.now a.records.now a.texts.now a.checked.line a.checked.log in
    let e = length-take-le a.checked.log.undo.records a.records.now (omega (arith, c.requires.ready.log.hold.room)) in
    record {
      fit = c.requires.fit;
      listed = listed a.checked.format (log_lent l) c.requires.ready.log;
      records_in_bounds = omega (arith, e, c.requires.ready.log.hold.room, c.requires.ready.log.records, c.requires.ready.log.fit.records);
    }

pub undo_by_sizes-requires-2 : goal.undo_by_sizes-requires-2
undo_by_sizes-requires-2 c =
    let a = c.args in
    let l = lent a.text.now a.records.now a.texts.now a.checked.line a.checked.log in
    record {
      fit = c.requires.fit;
      ready = c.requires.ready;
      records_in_bounds = omega (
        arith,
        c.write_sizes-2.auto.sizes,
        c.requires.ready.log.hold.room,
        c.requires.ready.log.records,
        c.requires.ready.log.fit.records,
      );
      sizes_of = (c.write_sizes-2.ensures _ _ (lays a.checked.format (log_lent l) c.requires.ready.log)).1;
    }
