use mathlib.Core.Path.{◌∙◌}
use Rattle.log_state.specs.Calls.{Lent, lent}
use Rattle.log_state.proofs.Groups.{new-within, finds, finds_none}
use Rattle.log_state.proofs.Log.last_insert.Goals as goal
use Rattle.log_state.proofs.Log.last_insert.Goals.{Start}

abbrev lending : Start → Lent
lending s = lent s.args.records.now s.args.texts.now s.args.self

pub overflow_sub-result : goal.overflow_sub-result
overflow_sub-result c =
    new-within c.args.f (lending (goal.at.overflow_sub-result c).Start) c.requires.ready c.args.newest c.requires.newest_at
    c.read_record.result c.read_record.ensures.same c.and_then.result c.and_then.ensures _ c.in-Some.is

pub returns-in-Some : goal.returns-in-Some
returns-in-Some c =
    finds c.args.f (lending (goal.at.returns-in-Some c).Start) c.requires.ready c.args.newest c.requires.newest_at c.read_record.result
    c.read_record.ensures.same c.and_then.result c.and_then.ensures _ c.in-Some.is

pub returns-in-None : goal.returns-in-None
returns-in-None c = c.says.ensures
    ∙ finds_none c.args.f (lending (goal.at.returns-in-None c).Start) c.requires.ready c.args.newest c.requires.newest_at
    c.read_record.result c.read_record.ensures.same c.and_then.result c.and_then.ensures c.in-None.is
