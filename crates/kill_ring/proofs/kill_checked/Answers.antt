use Prim.Native.Nat.{◌+◌, ◌*◌, ◌≤◌, ◌<◌}
use native.Mathlib.Omega.{arith}
use mathlib.Core.Path.{ap, ◌∙◌}
use mathlib.Core.Bool.{false}
use lib.ListN.{length}
use Rattle.repertoire.specs.Repertoire.{catalogue}
use Rattle.kill_ring.specs.Killed.{used_of}
use Rattle.kill_ring.specs.Calls.{Lent, lent}
use Rattle.kill_ring.proofs.Passed.{Ready, passed}
use Rattle.kill_ring.proofs.Value.{some_of, index_below}
use Rattle.kill_ring.proofs.Answers.{alone}
use Rattle.kill_ring.proofs.Kills.{used-most, slot_room, place-most, kill_disabled, kill_full, kill-done}
use Rattle.kill_ring.proofs.kill_checked.Goals as goal
use Rattle.kill_ring.proofs.kill_checked.Goals.{After-kill_index-i, Else-ring-eq0, Start}

-- what is lent
abbrev given : Start → Lent
given c = lent c.args.slots.now c.args.lens.now c.args.ring

-- its checks pass
ready : (c : Start) → Ready catalogue (given c)
ready c = passed catalogue (given c) false false c.requires

-- ---- there is a size: the index is below it, and what the slot holds is at most 4,096 bytes
some : (c : Else-ring-eq0) → 0 < c.args.ring.size
some c = some_of _ c.if-ring-eq0.false

index : (c : Else-ring-eq0) → let g = c.args.ring in g.index < g.size
index c = index_below catalogue (lent c.args.slots.now c.args.lens.now c.args.ring)
    (passed catalogue (lent c.args.slots.now c.args.lens.now c.args.ring) false false c.requires) (some_of _ c.if-ring-eq0.false)

most : (c : Else-ring-eq0) → let a = c.args in used_of a.lens.now a.ring ≤ 4096
most c = used-most catalogue (lent c.args.slots.now c.args.lens.now c.args.ring)
    (passed catalogue (lent c.args.slots.now c.args.lens.now c.args.ring) false false c.requires) (some_of _ c.if-ring-eq0.false)

-- ---- the slot is found: its bytes and its length are in the buffers
room : (c : After-kill_index-i)
    → let i = c.kill_index-i.result in
    let a = c.args in
    (4096 * i + 4096 ≤ length a.slots.now) × (2 * i + 2 ≤ length a.lens.now) × (i < 16)
room c = slot_room catalogue (lent c.args.slots.now c.args.lens.now c.args.ring)
    (passed catalogue (lent c.args.slots.now c.args.lens.now c.args.ring) false false c.requires) (some_of _ c.if-ring-eq0.false)
    c.kill_index-i.result c.kill_index-i.ensures

pub returns-then-ring-eq0 : goal.returns-then-ring-eq0
returns-then-ring-eq0 c =
    let here = goal.at.returns-then-ring-eq0 c in
    kill_disabled catalogue (given here.Start) (ready here.Start) c.args.m
    c.args.text.now _ c.if-ring-eq0.true
    (c.says.ensures ∙ ap (alone 0) c.with_action.ensures)

pub kill_used-used-requires : goal.kill_used-used-requires
kill_used-used-requires c = omega (arith, (ready (goal.at.kill_used-used-requires c).Start).lens, index c)

pub overflow_sub-used : goal.overflow_sub-used
overflow_sub-used c = omega (arith, c.kill_used-used.ensures, most (goal.at.overflow_sub-used c).Else-ring-eq0)

pub returns-then-used-text : goal.returns-then-used-text
returns-then-used-text c =
    let here = goal.at.returns-then-used-text c in
    kill_full catalogue (given here.Start) (ready here.Start) c.args.m
    c.args.text.now (some here.Else-ring-eq0) _ c.kill_used-used.result
    c.kill_used-used.ensures c.if-used-text.true c.turned_away.ensures

pub kill_index-i-requires : goal.kill_index-i-requires
kill_index-i-requires c =
    let here = goal.at.kill_index-i-requires c in (
      some here.Else-ring-eq0,
      omega
          (arith, (ready here.Start).size, index here.Else-ring-eq0),
    )

pub put_text-requires : goal.put_text-requires
put_text-requires c =
    let here = goal.at.put_text-requires c in
    record {
      i_in_bounds = (room here.After-kill_index-i).0;
      at_le_used = (
        place-most c.args.m c.kill_used-used.result c.place.result c.place.ensures,
        omega (arith, c.if-used-text.false, c.kill_used-used.ensures, most here.Else-ring-eq0),
      );
    }

pub overflow_mul-i : goal.overflow_mul-i
overflow_mul-i c = record { fits = omega (arith, (room (goal.at.overflow_mul-i c).After-kill_index-i).2) }

pub write_num-requires : goal.write_num-requires
write_num-requires c = (room (goal.at.write_num-requires c).After-kill_index-i).1

pub killed-requires : goal.killed-requires
killed-requires c =
    let p = ready (goal.at.killed-requires c).Start in
    omega (arith, p.count, p.size)

pub returns : goal.returns
returns c =
    let here = goal.at.returns c in
    kill-done catalogue (given here.Start) (ready here.Start) c.args.m c.args.text.now
    (some here.Else-ring-eq0) _ c.killed.result
    c.kill_used-used.result c.kill_index-i.result c.place.result c.put_text.new.slots
    c.write_num.new.s c.kill_used-used.ensures c.if-used-text.false c.kill_index-i.ensures
    c.place.ensures c.put_text.ensures c.write_num.ensures c.killed.ensures c.says-2.ensures
