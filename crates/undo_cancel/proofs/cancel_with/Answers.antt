use native.Mathlib.Omega.{arith}
use mathlib.Core.Path.{refl, sym, ◌∙◌}
use lib.ListN.{length-reverse}
use lib.Seq.{length-take-le}
use Rattle.repertoire.specs.Repertoire.{catalogue}
use Rattle.log_state.specs.Calls.{undos}
use Rattle.log_state.proofs.Recorded.{lays, listed}
use Rattle.edit.specs.Calls.{lent, log_lent, state_of}
use Rattle.undo_cancel.proofs.Cancels.{not_open, is_open, its_begins, cancels_nothing}
use Rattle.undo_cancel.proofs.cancel_with.Goals as goal

pub slice_bounds-write_sizes-end : goal.slice_bounds-write_sizes-end
slice_bounds-write_sizes-end c =
    let a = c.args in
    sym (length-take-le a.checked.log.undo.records a.records.now (omega (arith, c.requires.ready.log.hold.room)))

pub write_sizes-count-requires : goal.write_sizes-count-requires
write_sizes-count-requires c =
    let a = c.args in
    let l = lent a.text.now a.records.now a.texts.now a.checked.line a.checked.log in
    let e = length-take-le a.checked.log.undo.records a.records.now (omega (arith, c.requires.ready.log.hold.room)) in
    record {
      fit = c.requires.fit;
      listed = listed a.checked.format (log_lent l) c.requires.ready.log;
      records_in_bounds = omega (arith, e, c.requires.records_in_bounds);
    }

pub slice_bounds-open_begins-end : goal.slice_bounds-open_begins-end
slice_bounds-open_begins-end c =
    let a = c.args in
    sym (length-take-le a.checked.log.undo.records a.records.now (omega (arith, c.requires.ready.log.hold.room)))

pub open_begins-requires : goal.open_begins-requires
open_begins-requires c =
    let a = c.args in
    let l = lent a.text.now a.records.now a.texts.now a.checked.line a.checked.log in
    let e = length-take-le a.checked.log.undo.records a.records.now (omega (arith, c.requires.ready.log.hold.room)) in
    record {
      fit = c.requires.fit;
      written_in = record { listed = listed a.checked.format (log_lent l) c.requires.ready.log; written = c.write_sizes-count.ensures };
      records_in_bounds = (
        omega (arith, e, c.write_sizes-count.auto.sizes, c.requires.records_in_bounds),
        omega
            (arith, e, c.requires.ready.log.hold.room, c.requires.ready.log.records, c.requires.ready.log.fit.records),
      );
    }

pub returns-in-None : goal.returns-in-None
returns-in-None c =
    let a = c.args in
    let l = lent a.text.now a.records.now a.texts.now a.checked.line a.checked.log in
    let u = (state_of catalogue a.checked.format l).log.undo in
    let d = lays a.checked.format (log_lent l) c.requires.ready.log in
    let o = c.in-None.ensures _ _ d in
    record {
      outcome = cancels_nothing c.requires.ready a.mark (not_open a.mark u o) c.says.ensures;
      still = λ e. refl;
    }

pub cancel_by_sizes-requires : goal.cancel_by_sizes-requires
cancel_by_sizes-requires c =
    let a = c.args in
    let l = lent a.text.now a.records.now a.texts.now a.checked.line a.checked.log in
    let u = (state_of catalogue a.checked.format l).log.undo in
    let d = lays a.checked.format (log_lent l) c.requires.ready.log in
    let o = c.in-Some.ensures _ _ d in
    let i = c.write_sizes-count.ensures _ _ d in
    record {
      fit = c.requires.fit;
      ready = c.requires.ready;
      records_in_bounds = omega (arith, c.write_sizes-count.auto.sizes, c.requires.records_in_bounds);
      sizes_of = i.1;
      count_value = i.0 ∙ sym (length-reverse (undos catalogue a.checked.format (log_lent l)));
      log_value = is_open a.mark u o;
      begins_value = its_begins a.mark u o;
    }
