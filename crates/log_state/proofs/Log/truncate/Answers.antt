use native.Mathlib.Omega.{arith}
use mathlib.Core.Path.{sym}
use lib.Seq.{length-take-le}
use Rattle.repertoire.specs.Repertoire.{catalogue}
use Rattle.log_state.specs.Outcomes.{truncate_out}
use Rattle.log_state.specs.Calls.{lent, value_of}
use Rattle.log_state.proofs.Answers.{answered_as}
use Rattle.log_state.proofs.Recorded.{listed}
use Rattle.log_state.proofs.Groups.{cut-within, truncates}
use Rattle.log_state.proofs.Log.truncate.Goals as goal

pub slice_bounds-walk-end-2 : goal.slice_bounds-walk-end-2
slice_bounds-walk-end-2 c = sym (length-take-le _ _ (omega (arith, c.requires.ready.hold.room)))

pub walk-kept-requires : goal.walk-kept-requires
walk-kept-requires c =
    let a = c.args in
    record {
      fit = c.requires.fit;
      listed = listed a.f (lent a.records.now a.texts.now a.self) c.requires.ready;
      records_len_bound = omega (
        arith,
        length-take-le a.self.undo.records a.records.now (omega (arith, c.requires.ready.hold.room)),
        c.requires.ready.records,
      );
    }

pub overflow_add-ur : goal.overflow_add-ur
overflow_add-ur c = omega (arith, c.requires.ready.hold.room, c.requires.ready.records)

pub cut_bytes-requires : goal.cut_bytes-requires
cut_bytes-requires c =
    let a = c.args in (
      (cut-within a.f (lent a.records.now a.texts.now a.self) c.requires.ready a.len c.walk-kept.result
          c.walk-kept.ensures).0,
      (omega arith, c.requires.ready.hold.room),
    )

pub overflow_add-ut : goal.overflow_add-ut
overflow_add-ut c = omega (arith, c.requires.ready.hold.space, c.requires.ready.texts)

pub cut_bytes-requires-2 : goal.cut_bytes-requires-2
cut_bytes-requires-2 c =
    let a = c.args in (
      (cut-within a.f (lent a.records.now a.texts.now a.self) c.requires.ready a.len c.walk-kept.result c.walk-kept.ensures).1,
      (omega arith, c.requires.ready.hold.space),
    )

pub returns : goal.returns
returns c =
    let a = c.args in
    let l = lent a.records.now a.texts.now a.self in
    answered_as a.f l (truncate_out a.len (value_of catalogue a.f l)) _ _ _ _ c.says.ensures
    (truncates a.f l c.requires.ready a.len c.walk-kept.result c.walk-kept.ensures c.cut_bytes.new.s
    c.cut_bytes-2.new.s c.cut_bytes.auto.s c.cut_bytes-2.auto.s c.cut_bytes.ensures
    c.cut_bytes-2.ensures)
