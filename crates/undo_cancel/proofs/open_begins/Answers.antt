use mathlib.Core.Path.{◌≡◌, sym, ap, ◌∙◌}
use lib.ListN.{get_or}
use Rattle.std.specs.Prelude.{Some, is_some}
use Rattle.log_records.specs.Records.{record_at}
use native.Mathlib.Omega.{arith}
use Prim.Native.Nat.{◌-◌, ◌<◌}
use Rattle.repertoire.specs.Repertoire.{catalogue}
use Rattle.undo_cancel.proofs.Opens.{Last, down_first, down_ended, some_left, last, down_end, down_found, down_begin, down_edit}
use Rattle.undo_cancel.proofs.open_begins.Goals as goal
use Rattle.undo_cancel.proofs.open_begins.Goals.{In-loop-left, After-unwrap}

-- ---- where a record is left
bytes_left : (c : In-loop-left) → 0 < c.loop-left.at
bytes_left c = let w = c.requires.written_in.listed in
    some_left w.lays (c.loop-left.invariant.1 w.texts w.changes w.lays) c.loop-left-test.true

newest : (c : In-loop-left) → let w = c.requires.written_in.listed in
    Last c.args.f c.args.records.now (get_or c.args.sizes.now (c.loop-left.at - 1) 0) c.loop-left.at c.loop-left.left
    (c.loop-left.invariant.1 w.texts w.changes w.lays).rest
newest c = let w = c.requires.written_in.listed in last w.lays (c.loop-left.invariant.1 w.texts w.changes w.lays) (bytes_left c)

pub overflow_sub-at : goal.overflow_sub-at
overflow_sub-at c = bytes_left (goal.at.overflow_sub-at c).In-loop-left

pub loop-left-init : goal.loop-left-init
loop-left-init c =
    let a = c.args in (
      omega (arith, c.requires.records_in_bounds.1),
      down_first catalogue a.f a.records.now a.sizes.now a.mark a.count
          c.requires.written_in.written,
    )

pub bounds-sizes-at : goal.bounds-sizes-at
bounds-sizes-at c =
    let h = bytes_left (goal.at.bounds-sizes-at c).In-loop-left in
    let x = newest (goal.at.bounds-sizes-at c).In-loop-left in
    omega (arith, x.whole, c.requires.records_in_bounds.0, h)

pub overflow_sub-at-in-loop-left : goal.overflow_sub-at-in-loop-left
overflow_sub-at-in-loop-left c =
    let x = newest (goal.at.overflow_sub-at-in-loop-left c).In-loop-left in
    rw c.from-at.ensures x.within

pub unwrap-requires : goal.unwrap-requires
unwrap-requires c =
    let x = newest (goal.at.unwrap-requires c).In-loop-left in
    ap is_some (c.read_record.ensures.same ∙ (rw (sym c.from-at.ensures) at x.numbers))

-- the record that was read
read : (c : After-unwrap) → Some c.unwrap.result ≡
    record_at c.args.f c.args.records.now (c.loop-left.at - get_or c.args.sizes.now (c.loop-left.at - 1) 0)
read c = rw c.from-at.ensures at (sym c.unwrap.ensures ∙ c.read_record.ensures.same)

pub returns-then-left-mark : goal.returns-then-left-mark
returns-then-left-mark c =
    let r = read (goal.at.returns-then-left-mark c).After-unwrap in
    let h = bytes_left (goal.at.returns-then-left-mark c).In-loop-left in
    λ ts us l. down_found l (c.loop-left.invariant.1 ts us l) h r c.in-Begin.is c.if-left-mark.true

pub loop-left-preserved-else-left-mark : goal.loop-left-preserved-else-left-mark
loop-left-preserved-else-left-mark c =
    let r = read (goal.at.loop-left-preserved-else-left-mark c).After-unwrap in
    let h = bytes_left (goal.at.loop-left-preserved-else-left-mark c).In-loop-left in
    let x = newest (goal.at.loop-left-preserved-else-left-mark c).In-loop-left in (
      omega (arith, c.from-at.ensures, x.within, x.some, c.loop-left.invariant.0),
      rw c.from-at.ensures (λ ts us l. down_begin l (c.loop-left.invariant.1 ts us l) h r c.in-Begin.is c.if-left-mark.false),
    )

pub returns-in-End : goal.returns-in-End
returns-in-End c =
    let r = read (goal.at.returns-in-End c).After-unwrap in
    λ ts us l. down_end l (c.loop-left.invariant.1 ts us l) (bytes_left (goal.at.returns-in-End c).In-loop-left) r c.in-End.is

pub loop-left-preserved : goal.loop-left-preserved
loop-left-preserved c =
    let r = read (goal.at.loop-left-preserved c).After-unwrap in
    let h = bytes_left (goal.at.loop-left-preserved c).In-loop-left in
    let x = newest (goal.at.loop-left-preserved c).In-loop-left in (
      omega (arith, c.from-at.ensures, x.within, c.loop-left.invariant.0),
      rw c.from-at.ensures (λ ts us l. down_edit l (c.loop-left.invariant.1 ts us l) h r _ c.in-Edit.is),
    )

pub returns : goal.returns
returns c = λ ts us l. down_ended l (c.loop-left.invariant.1 ts us l) (omega (arith, c.loop-left-test.false))
