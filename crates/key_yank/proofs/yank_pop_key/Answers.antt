use native.Mathlib.Omega.{arith}
use Rattle.edit.specs.Calls.{Lent, lent}
use Rattle.kill_ring.specs.Ring.{yank_pop_out}
use Rattle.kill_ring.specs.Calls as rings
use Rattle.key_yank.proofs.Given.{ring_now, Taken, pop_none, pop_taken, given-part, given-room}
use Rattle.key_yank.proofs.Puts.{pop_nothing, pop_fit, pop_does}
use Rattle.key_yank.proofs.yank_pop_key.Goals as goal
use Rattle.key_yank.proofs.yank_pop_key.Goals.{Else-answer-ne0, Start}

abbrev ring : Start → rings.Lent
ring s = rings.lent s.args.slots.now s.args.lens.now s.args.ring

abbrev lending : Start → Lent
lending s = lent s.args.text.now s.args.records.now s.args.texts.now s.args.checked.line s.args.checked.log

-- ---- where the ring gives a slot
taken : (c : Else-answer-ne0) → Taken (rings.lent c.args.slots.now c.args.lens.now c.args.ring)
    (yank_pop_out (ring_now (rings.lent c.args.slots.now c.args.lens.now c.args.ring)))
    c.yank_pop_checked-a.result
taken c = pop_taken (rings.lent c.args.slots.now c.args.lens.now c.args.ring) c.requires.ring c.yank_pop_checked-a.result
    c.yank_pop_checked-a.ensures c.if-answer-ne0.false

pub returns-then-answer-ne0 : goal.returns-then-answer-ne0
returns-then-answer-ne0 c =
    let here = goal.at.returns-then-answer-ne0 c in
    pop_nothing c.args.checked.format (lending here.Start) (ring here.Start) c.requires
    (pop_none (ring here.Start) c.requires.ring c.yank_pop_checked-a.result c.yank_pop_checked-a.ensures
    c.if-answer-ne0.true) c.says.ensures

pub overflow_mul-from : goal.overflow_mul-from
overflow_mul-from c =
    let here = goal.at.overflow_mul-from c in
    let r = given-room (ring here.Start) c.requires.ring (taken here.Else-answer-ne0) in
    omega (arith, r.0)

pub overflow_add-to : goal.overflow_add-to
overflow_add-to c =
    let here = goal.at.overflow_add-to c in
    let r = given-room (ring here.Start) c.requires.ring (taken here.Else-answer-ne0) in
    omega (arith, r.0, r.1)

pub slice_bounds-yank_pop_checked-end : goal.slice_bounds-yank_pop_checked-end
slice_bounds-yank_pop_checked-end c =
    let here = goal.at.slice_bounds-yank_pop_checked-end c in
    let r = given-room (ring here.Start) c.requires.ring
    (taken here.Else-answer-ne0) in
    omega (arith, r.2)

pub yank_pop_checked-put-requires : goal.yank_pop_checked-put-requires
yank_pop_checked-put-requires c =
    let here = goal.at.yank_pop_checked-put-requires c in
    let t = taken here.Else-answer-ne0 in
    let fit = pop_fit c.args.checked.format (lending here.Start)
    (ring here.Start) c.requires t
    (given-part (ring here.Start) c.requires.ring t) in
    record {
      ready = c.requires.ready;
      last_at = c.requires.newest;
      buf_value = fit.0;
      buf_in_bounds = fit.1;
      size_le_cursor = fit.2;
      size_value = fit.3;
    }

pub returns : goal.returns
returns c =
    let here = goal.at.returns c in
    let t = taken here.Else-answer-ne0 in
    pop_does c.args.checked.format (lending here.Start) (ring here.Start) c.requires t
    (given-part (ring here.Start) c.requires.ring t) c.yank_pop_checked-put.ensures
    c.yanked.ensures
