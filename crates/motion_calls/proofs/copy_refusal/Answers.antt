use mathlib.Core.Path.{sym, ◌∙◌}
use mathlib.Core.Bool.{false}
use Prim.Native.Nat.{ℕ}
use lib.Seq.{length-take-le}
use Rattle.repertoire.specs.Repertoire.{catalogue}
use Rattle.checks.specs.Checks.{refusal, both, own_tests}
use Rattle.motion_calls.specs.Moves.{lent}
use Rattle.motion_calls.proofs.CopyCalls.{OnlySplit, by_ok, by_split, by_other, lent-used, start-after}
use Rattle.motion_calls.proofs.CopyCalls.{start-before, start-untried}
use Rattle.motion_calls.proofs.copy_refusal.Goals as goal
use Rattle.motion_calls.proofs.copy_refusal.Goals.{Joined-tested, in-Ok, in-Err+in-Split, in-Err+in_default}
use Rattle.motion_calls.proofs.copy_refusal.Goals.{else-only_split-via-then-only_split+else-starts_after, else-only_split-via-else-only_split}

-- the number of the checks without the start
abbrev number : Joined-tested → ℕ
number k = refusal (both (lent catalogue k.args.text.now k.args.line) (own_tests false k.is_foreign.result false))

tried : (k : Joined-tested) → OnlySplit (number k) k.match-tested.tested k.match-tested.only_split
tried k =
    elim k.match-tested.branch [
      | in-Ok w ↦ by_ok _ w.in-Ok.field-0 w.in-Ok.ensures (w.tested-is ∙ w.in-Ok.is) w.only_split-is
      | in-Err+in-Split w ↦ by_split _ w.in-Err.why w.in-Err.ensures w.tested-is w.in-Split.is w.only_split-is
      | in-Err+in_default w ↦ by_other _ w.in-Err.why w.in-Err.ensures w.tested-is w.in_default.not-Split w.only_split-is
    ]

pub slice_bounds-starts_after-end : goal.slice_bounds-starts_after-end
slice_bounds-starts_after-end c =
    let a = c.args in
    let h = tried (goal.at.slice_bounds-starts_after-end c).Joined-tested in
    sym (length-take-le _ _ (lent-used catalogue a.text.now a.line a.m _ c.is_foreign.ensures _ _ h c.if-only_split.true))

pub returns-then-starts_after : goal.returns-then-starts_after
returns-then-starts_after c =
    let a = c.args in
    let h = tried (goal.at.returns-then-starts_after c).Joined-tested in
    let s = sym c.starts_after.ensures ∙ c.if-starts_after.true in
    start-after catalogue a.text.now a.line a.m _ c.is_foreign.ensures _ _ h c.if-only_split.true s

pub returns : goal.returns
returns c =
    let a = c.args in
    let h = tried (goal.at.returns c).Joined-tested in
    elim c.else-only_split.branch [
      | else-only_split-via-then-only_split+else-starts_after w ↦
          start-before catalogue a.text.now a.line a.m _ c.is_foreign.ensures _ _ h (sym w.starts_after.ensures ∙ w.if-starts_after.false)
      | else-only_split-via-else-only_split w ↦
          start-untried catalogue a.text.now a.line a.m _ c.is_foreign.ensures _ _ h w.if-only_split.false
    ]
