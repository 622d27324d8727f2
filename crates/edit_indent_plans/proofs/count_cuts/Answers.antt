use mathlib.Core.Path.{◌≡◌, ap, ◌∙◌}
use mathlib.Core.List.{List, ◌∷◌}
use native.Mathlib.Omega.{arith}
use Prim.Native.Nat.{ℕ, ◌+◌}
use Rattle.std.proofs.Common.{rules}
use Rattle.std.specs.Iterator.{AlwaysYields}
use Rattle.std.proofs.lemmas.Iterator.{YieldsList}
use Rattle.std.specs.List.{slice_split}
use Rattle.std.specs.Slice.Iter.{split_rest, split_done, split_callee}
use Rattle.std.proofs.lemmas.Iterator.Splits.{YieldsList-from_slice_split}
use Rattle.repertoire.specs.Repertoire.{catalogue}
use Rattle.motion_lines.specs.Lines.{newline}
use Rattle.edit_indent_plans.specs.Touched.{split_lines}
use Rattle.edit_indent_plans.specs.Counts.{cuts_in, bytes_in}
use Rattle.edit_indent_plans.proofs.Newlines.{lines_split}
use Rattle.edit_indent_plans.proofs.Cuts.{one_line, no_line, cut_some, cut_none, cut_bytes, cuts_most, bytes_most, none_left}
use Rattle.edit_indent_plans.proofs.count_cuts.Given as given
use Rattle.edit_indent_plans.proofs.count_cuts.Goals as goal
use Rattle.edit_indent_plans.proofs.count_cuts.Goals.{In-Some, else-d-gt0, then-d-gt0}

pub loop-line-init : goal.loop-line-init
loop-line-init c =
    let p = c.args.p.now in
    let q = c.into_iter-line-iterator.ensures.into_iter_gives in
    let gives : YieldsList given.iterator-loop-line.next_gives (λ x. x.now) c.into_iter-line-iterator.result (slice_split newline p) =
    YieldsList-from_slice_split _ newline p (ap split_rest q ∙ c.split-line-items.ensures.rest)
    (ap split_done q ∙ c.split-line-items.ensures.done) (ap split_callee q ∙ c.split-line-items.ensures.closure)
    (λ x b q k. search rules) in
    (split_lines p, rw (lines_split p) gives.runs, omega arith, omega arith)

-- the lines that follow the turn's
turned : (c : In-Some) → (zs : List (List ℕ)) × (c.loop-line.invariant.0 ≡ c.in-Some.line.now ∷ zs)
    × AlwaysYields given.iterator-loop-line.next_gives (λ x. x.now) c.next.new.self zs
turned c = one_line given.iterator-loop-line.next_gives c.loop-line.invariant.0 c.loop-line.line-iterator c.next.new.self c.next.result
    c.in-Some.line c.loop-line.invariant.1 c.next.ensures.steps c.in-Some.is

pub overflow_add-records : goal.overflow_add-records
overflow_add-records c =
    let a = c.args in
    let z = turned (goal.at.overflow_add-records c).In-Some in
    let n = cut_some catalogue a.m c.in-Some.line.now z.0 c.deleting-d.result c.deleting-d.ensures.0 c.if-d-gt0.true in
    omega (arith, c.loop-line.invariant.2, ap (cuts_in catalogue a.m) z.1, n, cuts_most catalogue a.m a.p.now)

pub overflow_add-bytes : goal.overflow_add-bytes
overflow_add-bytes c =
    let a = c.args in
    let z = turned (goal.at.overflow_add-bytes c).In-Some in
    let n = cut_bytes catalogue a.m c.in-Some.line.now z.0 c.deleting-d.result c.deleting-d.ensures.0 in
    omega (arith, c.loop-line.invariant.3, ap (bytes_in catalogue a.m) z.1, n, bytes_most catalogue a.m a.p.now)

pub loop-line-preserved : goal.loop-line-preserved
loop-line-preserved c =
    let a = c.args in
    let z = turned (goal.at.loop-line-preserved c).In-Some in
    let line = c.in-Some.line.now in
    let d = c.deleting-d.result in
    let n = cut_bytes catalogue a.m line z.0 d c.deleting-d.ensures.0 in
    let records : c.if-d-gt0.records + cuts_in catalogue a.m z.0 ≡ c.loop-line.records + cuts_in catalogue a.m (line ∷ z.0) =
    elim c.if-d-gt0.branch [
      | then-d-gt0 w ↦ omega (arith, w.records-is, cut_some catalogue a.m line z.0 d c.deleting-d.ensures.0 w.if-d-gt0.true)
      | else-d-gt0 w ↦ omega (arith, w.records-is, cut_none catalogue a.m line z.0 d c.deleting-d.ensures.0 w.if-d-gt0.false)
    ] in (
      z.0,
      z.2,
      omega (arith, records, ap (cuts_in catalogue a.m) z.1, c.loop-line.invariant.2),
      omega (arith, n, ap (bytes_in catalogue a.m) z.1, c.loop-line.invariant.3),
    )

pub returns : goal.returns
returns c =
    let i = c.loop-line.invariant in
    let e = no_line given.iterator-loop-line.next_gives i.0 c.loop-line.line-iterator c.next.new.self c.next.result i.1
    c.next.ensures.steps c.in-None.is in
    let n = none_left catalogue c.args.m e in
    (omega (arith, n.0, i.2), omega (arith, n.1, i.3))
