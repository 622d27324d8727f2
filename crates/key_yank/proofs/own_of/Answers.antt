use Rattle.edit.specs.Calls.{lent}
use Rattle.kill_ring.specs.Calls as rings
use Rattle.key_yank.proofs.OwnTests.{no_own, own_as}
use Rattle.key_yank.proofs.own_of.Goals as goal
use Rattle.key_yank.proofs.own_of.Goals.{Start}

abbrev ring : Start → rings.Lent
ring s = rings.lent s.args.slots.now s.args.lens.now s.args.ring

pub returns-in-Unbound : goal.returns-in-Unbound
returns-in-Unbound c =
    λ F rb tb log. own_as F (lent c.args.text.now rb tb c.args.line log) c.args.foreign (ring (goal.at.returns-in-Unbound c).Start)
    c.in-Unbound.is
    (no_own F (lent c.args.text.now rb tb c.args.line log) c.args.foreign _ c.only_foreign.ensures)

pub returns-in-Move : goal.returns-in-Move
returns-in-Move c =
    λ F rb tb log. own_as F (lent c.args.text.now rb tb c.args.line log) c.args.foreign (ring (goal.at.returns-in-Move c).Start)
    c.in-Move.is
    (no_own F (lent c.args.text.now rb tb c.args.line log) c.args.foreign _ c.only_foreign-in-Move.ensures)

pub returns-in-Edit : goal.returns-in-Edit
returns-in-Edit c =
    λ F rb tb log. own_as F (lent c.args.text.now rb tb c.args.line log) c.args.foreign (ring (goal.at.returns-in-Edit c).Start)
    c.in-Edit.is
    (no_own F (lent c.args.text.now rb tb c.args.line log) c.args.foreign _ c.only_foreign-in-Edit.ensures)

pub returns-in-Undo : goal.returns-in-Undo
returns-in-Undo c =
    λ F rb tb log. own_as F (lent c.args.text.now rb tb c.args.line log) c.args.foreign (ring (goal.at.returns-in-Undo c).Start)
    c.in-Undo.is
    (no_own F (lent c.args.text.now rb tb c.args.line log) c.args.foreign _ c.only_foreign-in-Undo.ensures)

pub returns-in-Kill : goal.returns-in-Kill
returns-in-Kill c =
    λ F rb tb log. own_as F (lent c.args.text.now rb tb c.args.line log) c.args.foreign (ring (goal.at.returns-in-Kill c).Start)
    c.in-Kill.is
    (no_own F (lent c.args.text.now rb tb c.args.line log) c.args.foreign _ c.only_foreign-in-Kill.ensures)

pub returns-in-Yank : goal.returns-in-Yank
returns-in-Yank c =
    λ F rb tb log. own_as F (lent c.args.text.now rb tb c.args.line log) c.args.foreign (ring (goal.at.returns-in-Yank c).Start)
    c.in-Yank.is
    (c.yank_own.ensures F rb tb log)

pub returns-in-YankPop : goal.returns-in-YankPop
returns-in-YankPop c =
    λ F rb tb log. own_as F (lent c.args.text.now rb tb c.args.line log) c.args.foreign (ring (goal.at.returns-in-YankPop c).Start)
    c.in-YankPop.is
    (c.pop_own.ensures F rb tb log)
