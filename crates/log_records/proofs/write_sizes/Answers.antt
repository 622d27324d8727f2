use native.Mathlib.Omega.{arith}
use Prim.Native.Nat.{◌+◌, ◌≤◌, ◌<◌}
use mathlib.Core.Path.{◌≡◌}
use lib.ListN.{length, get_or, length-set}
use Rattle.repertoire.specs.Repertoire.{catalogue}
use Rattle.log_model.specs.Layout.{size_of}
use Rattle.log_model.proofs.Walk.{come_end, come_whole}
use Rattle.log_records.proofs.Records.{size_by_kind, some_kind}
use Rattle.log_records.proofs.Sizes.{written_on}
use Rattle.log_records.proofs.write_sizes.Goals as goal
use Rattle.log_records.proofs.write_sizes.Goals.{After-size-size}

-- a whole record stands there, and its size was found
passed : (c : After-size-size) → let n = c.size-size.result in (n ≡ size_of c.args.f (get_or c.args.records.now c.loop-at.at 0)) × (0 < n) ×
    (c.loop-at.at + n ≤ length c.args.records.now)
passed c =
    let e = size_by_kind c.args.f _ _ _ c.in-Some.ensures c.size-size.ensures.0 in
    let w = come_whole catalogue c.args.f c.args.records.now c.loop-at.at _ c.requires.listed c.loop-at-test.true c.loop-at.invariant.2 in
    (e, omega (arith, e, w.0), omega (arith, e, w.1))

pub bounds-sizes-at : goal.bounds-sizes-at
bounds-sizes-at c =
    let w = passed c in
    omega (arith, w.1, w.2, c.loop-at.invariant.1, c.requires.records_in_bounds)

pub loop-at-preserved : goal.loop-at-preserved
loop-at-preserved c =
    let w = passed c in (
      omega (arith, w.1, c.loop-at.invariant.0),
      simp length-set c.loop-at.invariant.1,
      written_on catalogue c.args.f c.args.records.now c.loop-at.at c.loop-at.count _ _ c.loop-at-test.true w.0
          (omega (arith, w.2, c.loop-at.invariant.1, c.requires.records_in_bounds)) c.loop-at.invariant.2,
    )

pub returns-after-loop-at : goal.returns-after-loop-at
returns-after-loop-at c = come_end catalogue c.args.f c.args.records.now c.loop-at.at _ c.loop-at-test.false c.loop-at.invariant.2

pub returns-in_default : goal.returns-in_default
returns-in_default c =
    let a = c.args in
    let w = come_whole catalogue a.f a.records.now c.loop-at.at _ c.requires.listed c.loop-at-test.true c.loop-at.invariant.2 in
    absurd (some_kind a.f a.records.now c.loop-at.at w c.in_default.ensures)
