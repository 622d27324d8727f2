use native.Mathlib.Omega.{arith}
use mathlib.Core.Path.{sym, ap, ◌∙◌}
use mathlib.Core.Bool.{Bool, cond}
use Prim.Native.Nat.{◌-◌, ◌≤◌}
use lib.Seq.{length-take-le}
use borrow.Author.Tests.{lt-ltb, le-ltb}
use Rattle.repertoire.specs.Repertoire.{catalogue}
use Rattle.checks.specs.Outcome.{Outcome}
use Rattle.log_model.specs.Groups as groups
use Rattle.log_state.specs.Outcomes.{end_out}
use Rattle.log_state.specs.Calls.{Lent, lent, sizes_of, says, value_of}
use Rattle.log_state.proofs.Answers.{answered_as, ended_as}
use Rattle.log_state.proofs.Recorded.{listed}
use Rattle.log_state.proofs.Sums.{least_is}
use Rattle.log_state.proofs.Groups.{Dropped, dropped, stays_within, room, end_full, end_takes}
use Rattle.log_state.proofs.Log.end.Goals as goal
use Rattle.log_state.proofs.Log.end.Goals.{After-min-empty, Start}

abbrev lending : Start → Lent
lending s = lent s.args.records.now s.args.texts.now s.args.self

abbrev out : Start → Outcome groups.Log
out s = end_out s.args.f (sizes_of (lending s))
    (value_of catalogue s.args.f (lending s))

-- the Begins that are dropped
gone : (c : After-min-empty) → (c.min-empty.result ≤ c.args.newest.begins) ×
    (c.min-empty.result ≤ c.args.self.level) ×
    Dropped c.args.f (lent c.args.records.now c.args.texts.now c.args.self) c.min-empty.result
    (c.args.self.level - c.min-empty.result)
gone c = dropped c.args.f (lent c.args.records.now c.args.texts.now c.args.self) c.requires.ready c.args.newest c.min-empty.result
    c.requires.newest_at (least_is c.args.newest.begins c.args.self.level _ c.min-empty.ensures)

pub overflow_sub-ends : goal.overflow_sub-ends
overflow_sub-ends c = (gone c).1

pub slice_bounds-end_of-end-2 : goal.slice_bounds-end_of-end-2
slice_bounds-end_of-end-2 c = sym (length-take-le _ _ (omega (arith, c.requires.ready.hold.room)))

pub end_of-kept-requires : goal.end_of-kept-requires
end_of-kept-requires c =
    let used = length-take-le c.args.self.undo.records c.args.records.now (omega (arith, c.requires.ready.hold.room)) in
    record {
      fit = c.requires.fit;
      listed = listed c.args.f (lending (goal.at.end_of-kept-requires c).Start) c.requires.ready;
      records_len_bound = omega (arith, used, c.requires.ready.hold.room, c.requires.ready.records, c.requires.ready.fit.records);
      newest_at = c.requires.newest_at;
      dropped_le_begins = (gone c).0;
    }

pub overflow_sub-records : goal.overflow_sub-records
overflow_sub-records c =
    let here = goal.at.overflow_sub-records c in
    omega (
      arith,
      stays_within c.args.f (lending here.Start) c.requires.ready c.min-empty.result _
          (gone here.After-min-empty).2 c.end_of-kept.result c.end_of-kept.ensures,
      c.requires.ready.hold.room,
    )

pub returns-then-records-kept : goal.returns-then-records-kept
returns-then-records-kept c =
    let here = goal.at.returns-then-records-kept c in
    answered_as c.args.f (lending here.Start) (out here.Start) _ _ _ _
    c.refused.ensures
    (end_full c.args.f (lending here.Start) c.requires.ready c.min-empty.result _
    (gone here.After-min-empty).2 c.end_of-kept.result
    c.end_of-kept.ensures c.if-records-kept.true)

pub fill-requires : goal.fill-requires
fill-requires c =
    let here = goal.at.fill-requires c in
    room c.args.f (lending here.Start) c.requires.ready c.min-empty.result _
    (gone here.After-min-empty).2 c.end_of-kept.result
    c.end_of-kept.ensures c.if-records-kept.false

pub returns-then-ends-eq0 : goal.returns-then-ends-eq0
returns-then-ends-eq0 c =
    let here = goal.at.returns-then-ends-eq0 c in
    let k = c.args.self.level - c.min-empty.result in
    ended_as c.args.f (lending here.Start) (out here.Start) _ _ _ _ _
    (c.says.ensures ∙ ap (says 1) c.only_undo-log.ensures)
    c.fill.ensures
    (end_takes c.args.f (lending here.Start) c.requires.ready c.min-empty.result k
    (gone here.After-min-empty).2 c.end_of-kept.result
    c.end_of-kept.ensures c.if-records-kept.false 1 (sym (ap (λ (b : Bool). cond b 0 1) (le-ltb 0 k (omega (arith, c.if-ends-eq0.true))))))

pub returns : goal.returns
returns c =
    let here = goal.at.returns c in
    let k = c.args.self.level - c.min-empty.result in
    ended_as c.args.f (lending here.Start) (out here.Start) _ _ _ _ _
    (c.says-2.ensures ∙ ap (says 0) c.only_undo-log.ensures)
    c.fill.ensures
    (end_takes c.args.f (lending here.Start) c.requires.ready c.min-empty.result k
    (gone here.After-min-empty).2 c.end_of-kept.result
    c.end_of-kept.ensures c.if-records-kept.false 0 (sym (ap (λ (b : Bool). cond b 0 1) (lt-ltb 0 k (omega (arith, c.if-ends-eq0.false))))))
