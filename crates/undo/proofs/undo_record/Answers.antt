use native.Mathlib.Omega.{arith}
use Rattle.undo.proofs.Seams.{some_newest}
use Rattle.undo.proofs.Steps.{size-within, starts_by_size}
use Rattle.undo.proofs.undo_record.Goals as goal

pub overflow_sub-start : goal.overflow_sub-start
overflow_sub-start c =
    omega (
      arith,
      c.from.ensures,
      size-within c.requires.ready c.args.sizes.now c.requires.sizes_of (some_newest c.requires.ready c.requires.number_value.1).2,
    )

pub undo_at-requires : goal.undo_at-requires
undo_at-requires c =
    let starts = starts_by_size c.requires.ready c.args.sizes.now c.requires.sizes_of
    (some_newest c.requires.ready c.requires.number_value.1).2 in
    record {
      fit = c.requires.fit;
      ready = c.requires.ready;
      number_value = (c.requires.number_value.0, c.requires.number_value.1);
      last_start = rw c.from.ensures starts;
    }

pub returns : goal.returns
returns c = c.undo_at.ensures
