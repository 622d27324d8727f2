use native.Mathlib.Omega.{arith}
use Prim.Native.Nat.{◌+◌, ◌≤◌, ◌<◌}
use lib.ListN.{length}
use Rattle.repertoire.specs.Repertoire.{catalogue}
use Rattle.log_records.proofs.Walks.{passes, past_all, counts_on, stops, ends}
use Rattle.log_records.proofs.walk.Goals as goal
use Rattle.log_records.proofs.walk.Goals.{In-Some}

-- a whole record was read
passed : (c : In-Some) → (c.loop-r.at < length c.args.records.now) × (0 < c.in-Some.r.size) ×
    (c.loop-r.at + c.in-Some.r.size ≤ length c.args.records.now)
passed c = passes catalogue c.args.f c.args.records.now c.loop-r.at _ c.in-Some.ensures.same

pub overflow_add-at : goal.overflow_add-at
overflow_add-at c = omega (arith, (passed (goal.at.overflow_add-at c).In-Some).2)

pub overflow_add-t-in-Some : goal.overflow_add-t-in-Some
overflow_add-t-in-Some c = omega (
  arith,
  c.loop-r.invariant.2,
  (passed (goal.at.overflow_add-t-in-Some c).In-Some).0,
  c.requires.records_len_bound,
  c.in-Some.ensures.bounds.old,
  c.in-Some.ensures.bounds.new,
)

pub loop-r-smaller : goal.loop-r-smaller
loop-r-smaller c =
    let w = passed (goal.at.loop-r-smaller c).In-Some in
    omega (arith, w.1, w.2)

pub loop-r-preserved : goal.loop-r-preserved
loop-r-preserved c =
    let a = c.args in
    let w = passed (goal.at.loop-r-preserved c).In-Some in (
      omega (arith, c.loop-r.invariant.0, c.if-count-n.false),
      omega (arith, w.1, c.loop-r.invariant.1),
      omega (arith, w.1, c.loop-r.invariant.2, c.in-Some.ensures.bounds.old, c.in-Some.ensures.bounds.new),
      counts_on catalogue a.f a.records.now c.loop-r.at _ c.in-Some.ensures.same c.loop-r.count c.loop-r.t c.loop-r.invariant.3,
    )

pub returns-then-count-n : goal.returns-then-count-n
returns-then-count-n c = stops catalogue c.args.f c.args.records.now c.args.n c.loop-r.count c.loop-r.at
    c.loop-r.t (passed (goal.at.returns-then-count-n c).In-Some).0 c.if-count-n.true c.loop-r.invariant.3

pub returns-in_default : goal.returns-in_default
returns-in_default c =
    let a = c.args in
    ends catalogue a.f a.records.now a.n c.loop-r.count c.loop-r.at c.loop-r.t
    (past_all catalogue a.f a.records.now c.loop-r.at _ c.requires.listed c.loop-r.invariant.3 c.in_default.ensures.same)
    c.loop-r.invariant.0
    c.loop-r.invariant.3
