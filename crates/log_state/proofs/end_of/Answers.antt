use native.Mathlib.Omega.{arith}
use Rattle.log_state.proofs.Newest.{begins_counted, none_dropped, all_dropped, some_dropped}
use Rattle.log_state.proofs.end_of.Goals as goal

pub returns-then-dropped-eq0 : goal.returns-then-dropped-eq0
returns-then-dropped-eq0 c =
    let a = c.args in
    none_dropped a.f a.records.now a.newest c.requires.newest_at a.dropped c.if-dropped-eq0.true

pub returns-then-dropped-newest : goal.returns-then-dropped-newest
returns-then-dropped-newest c =
    let a = c.args in
    all_dropped a.f a.records.now a.newest c.requires.newest_at a.dropped c.if-dropped-newest.true

pub overflow_sub-newest : goal.overflow_sub-newest
overflow_sub-newest c =
    omega (
      arith,
      begins_counted c.args.f c.args.records.now c.args.newest c.requires.newest_at c.requires.listed,
      c.requires.dropped_le_begins,
    )

pub returns : goal.returns
returns c =
    let a = c.args in
    some_dropped a.f a.records.now a.newest c.requires.newest_at a.dropped c.walk-kept.result c.requires.dropped_le_begins
    c.walk-kept.ensures
