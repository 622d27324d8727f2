use native.Mathlib.Omega.{arith}
use Rattle.edit.specs.Calls.{Lent, lent}
use Rattle.edit_kill.proofs.Deleted.{not-cut, was_cut}
use Rattle.edit_kill.proofs.delete_checked.Goals as goal
use Rattle.edit_kill.proofs.delete_checked.Goals.{After-kill_checked-a}

-- ---- where the cut is made
abbrev lending : After-kill_checked-a → Lent
lending c = let a = c.args in lent a.text.now a.records.now a.texts.now a.checked.line a.checked.log

pub returns-then-a-ne0 : goal.returns-then-a-ne0
returns-then-a-ne0 c =
    not-cut c.args.checked.format (lending (goal.at.returns-then-a-ne0 c).After-kill_checked-a) c.args.n c.requires.ready c.kill_checked-a.ensures
    c.if-a-ne0.true

pub overflow_sub-result : goal.overflow_sub-result
overflow_sub-result c =
    (was_cut c.args.checked.format (lending (goal.at.overflow_sub-result c).After-kill_checked-a) c.args.n c.requires.ready c.kill_checked-a.ensures
    c.if-a-ne0.false).0

pub overflow_add-result : goal.overflow_add-result
overflow_add-result c = omega (
  arith,
  (was_cut c.args.checked.format (lending (goal.at.overflow_add-result c).After-kill_checked-a) c.args.n c.requires.ready c.kill_checked-a.ensures
      c.if-a-ne0.false).1,
  c.well_formed,
)

pub returns : goal.returns
returns c =
    (was_cut c.args.checked.format (lending (goal.at.returns c).After-kill_checked-a) c.args.n c.requires.ready c.kill_checked-a.ensures
    c.if-a-ne0.false).2
