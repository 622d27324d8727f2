use Rattle.edit.specs.Calls.{lent}
use Rattle.kill_ring.specs.Calls as rings
use Rattle.key_yank.proofs.Given.{yank_none, yank_taken}
use Rattle.key_yank.proofs.OwnTests.{none_own, yank-own}
use Rattle.key_yank.proofs.yank_own.Goals as goal
use Rattle.key_yank.proofs.yank_own.Goals.{Start}

abbrev ring : Start → rings.Lent
ring s = rings.lent s.args.slots.now s.args.lens.now s.args.ring

pub returns-then-answer-ne0 : goal.returns-then-answer-ne0
returns-then-answer-ne0 c =
    let here = goal.at.returns-then-answer-ne0 c in
    λ F rb tb log. none_own F (lent c.args.text.now rb tb c.args.line log) c.args.foreign (ring here.Start)
    _ _ _ c.only_foreign.ensures
    (yank_none (ring here.Start) c.requires c.yank_checked-a.result c.yank_checked-a.ensures
    c.if-answer-ne0.true)

pub returns : goal.returns
returns c =
    let here = goal.at.returns c in
    λ F rb tb log. yank-own F (lent c.args.text.now rb tb c.args.line log) c.args.foreign (ring here.Start) c.requires
    (yank_taken (ring here.Start) c.requires c.yank_checked-a.result c.yank_checked-a.ensures c.if-answer-ne0.false)
