use Rattle.log_recording.proofs.Joins.{ends_yes, ends_no}
use Rattle.log_recording.proofs.ends_at.Goals as goal

pub returns-then-next-place : goal.returns-then-next-place
returns-then-next-place c = ends_no c.args.place c.args.size c.args.next c.if-next-place.true

pub returns : goal.returns
returns c = ends_yes c.args.place c.args.size c.args.next c.if-next-place.false
