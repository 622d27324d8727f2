use native.Mathlib.Omega.{arith}
use Rattle.edit.specs.Calls.{Lent, lent}
use Rattle.edit.proofs.Answers.{stays}
use Rattle.edit.proofs.Formats.{text-most}
use Rattle.edit_insert.proofs.Calls.{plan_empty, plan_some}
use Rattle.edit.proofs.Made.{plan_made}
use Rattle.edit_insert.proofs.yank_checked.Goals as goal
use Rattle.edit_insert.proofs.yank_checked.Goals.{Start}

-- ---- at the start: what is lent
abbrev lending : Start → Lent
lending s = let a = s.args in lent a.text.now a.records.now a.texts.now a.checked.line a.checked.log

pub returns-then-buf-eq0 : goal.returns-then-buf-eq0
returns-then-buf-eq0 c =
    let here = goal.at.returns-then-buf-eq0 c in
    let a = c.args in
    plan_made a.checked.format (lending here.Start) (plan_empty a.checked.line.cursor a.buf.now a.n c.if-buf-eq0.true)
    (stays a.checked.format (lending here.Start) c.requires.ready _ c.says.ensures)

pub put_copies-requires : goal.put_copies-requires
put_copies-requires c = record {
  ready = c.requires.ready;
  last_at = c.requires.last_at;
  s_value = c.requires.buf_value;
  s_len_bound = (
    omega (
      arith,
      c.requires.buf_in_bounds,
      text-most c.args.checked.format (lending (goal.at.put_copies-requires c).Start)
          c.requires.ready,
    ),
    omega arith,
  );
}

pub returns : goal.returns
returns c =
    let a = c.args in
    plan_made a.checked.format (lending (goal.at.returns c).Start) (plan_some a.checked.line.cursor a.buf.now a.n c.if-buf-eq0.false)
    (rw c.from.ensures at c.put_copies.ensures)
