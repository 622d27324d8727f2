use native.Mathlib.Omega.{arith}
use Prim.Native.Nat.{◌+◌, ◌≤◌, ◌<◌}
use lib.ListN.{length}
use Rattle.repertoire.specs.Repertoire.{catalogue}
use Rattle.log_model.proofs.Walk.{come_end}
use Rattle.log_records.proofs.Walks.{LastOf, last_none, passes, past_all, last_on}
use Rattle.log_records.proofs.last_start.Goals as goal
use Rattle.log_records.proofs.last_start.Goals.{In-Some}

-- a whole record was read
passed : (c : In-Some) → (c.loop-r.at < length c.args.records.now) × (0 < c.in-Some.r.size) ×
    (c.loop-r.at + c.in-Some.r.size ≤ length c.args.records.now)
passed c = passes catalogue c.args.f c.args.records.now c.loop-r.at _ c.in-Some.ensures.same

pub loop-r-init : goal.loop-r-init
loop-r-init c = last_none catalogue c.args.f c.args.records.now

pub overflow_add-at : goal.overflow_add-at
overflow_add-at c = omega (arith, (passed (goal.at.overflow_add-at c).In-Some).2)

pub loop-r-smaller : goal.loop-r-smaller
loop-r-smaller c =
    let w = passed (goal.at.loop-r-smaller c).In-Some in
    omega (arith, w.1, w.2)

pub loop-r-preserved : goal.loop-r-preserved
loop-r-preserved c =
    let a = c.args in
    last_on catalogue a.f a.records.now c.loop-r.at _ c.in-Some.ensures.same c.loop-r.last c.loop-r.invariant

pub returns : goal.returns
returns c =
    let a = c.args in
    come_end catalogue a.f a.records.now c.loop-r.at (LastOf a.f c.loop-r.last)
    (past_all catalogue a.f a.records.now c.loop-r.at _ c.requires.listed c.loop-r.invariant c.in_default.ensures.same) c.loop-r.invariant
