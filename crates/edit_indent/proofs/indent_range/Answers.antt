use native.Mathlib.Omega.{arith}
use mathlib.Core.Bool.{false}
use Rattle.edit.specs.Calls.{lent}
use Rattle.edit_indent_plans.proofs.Rooms.{Part, asks, RoomTested, log-within, to-within}
use Rattle.edit_indent_plans.proofs.Rooms.{lines_few, indent_long, indent_tested, full, begin}
use Rattle.edit_indent.proofs.indent_range.Goals as goal
use Rattle.edit_indent.proofs.indent_range.Goals.{After-has_room, Start}

abbrev asked : Start → Part
asked s = asks (lent s.args.text.now s.args.records.now s.args.texts.now s.args.checked.line s.args.checked.log) s.requires.ready s.args.m s.args.from
    s.args.to
    s.requires.in_text

tested : (c : After-has_room) → RoomTested (asks (lent c.args.text.now c.args.records.now c.args.texts.now c.args.checked.line c.args.checked.log)
    c.requires.ready c.args.m c.args.from c.args.to c.requires.in_text)
    false c.has_room.result
tested c = indent_tested (asks (lent c.args.text.now c.args.records.now c.args.texts.now c.args.checked.line c.args.checked.log) c.requires.ready c.args.m
    c.args.from c.args.to c.requires.in_text) c.requires.m_bound c.count_lines-k.ensures c.if-text-checked.false c.has_room.ensures

pub slice_bounds-count_lines-end : goal.slice_bounds-count_lines-end
slice_bounds-count_lines-end c = (to-within (asked (goal.at.slice_bounds-count_lines-end c).Start)).1

pub overflow_mul-k : goal.overflow_mul-k
overflow_mul-k c =
    omega (arith, (lines_few (asked (goal.at.overflow_mul-k c).Start) c.requires.m_bound c.count_lines-k.ensures).1)

pub returns-then-text-checked : goal.returns-then-text-checked
returns-then-text-checked c =
    indent_long (asked (goal.at.returns-then-text-checked c).Start) c.requires.m_bound c.count_lines-k.ensures c.if-text-checked.true
    c.refused.ensures

pub overflow_mul-k-2 : goal.overflow_mul-k-2
overflow_mul-k-2 c =
    omega (arith, (lines_few (asked (goal.at.overflow_mul-k-2 c).Start) c.requires.m_bound c.count_lines-k.ensures).2)

pub has_room-requires : goal.has_room-requires
has_room-requires c =
    let x = asked (goal.at.has_room-requires c).Start in
    record {
      fit = x.ready.log.fit;
      records_in_bounds = ((log-within x).0, (log-within x).1, omega (arith, (lines_few x c.requires.m_bound c.count_lines-k.ensures).2));
    }

pub returns-then-not-has_room : goal.returns-then-not-has_room
returns-then-not-has_room c =
    full _ (tested (goal.at.returns-then-not-has_room c).After-has_room) c.if-not-has_room.true c.refused-then-not-has_room.ensures

pub indent_lines-requires : goal.indent_lines-requires
indent_lines-requires c =
    let q = begin _ (tested (goal.at.indent_lines-requires c).After-has_room) c.if-not-has_room.false in
    record {
      m_bound = c.requires.m_bound;
      ready = q.0;
      from_le_to = q.1.0;
      all_suit = q.1.1.0;
      text_value = q.1.1.1.0;
      log_value = q.1.1.1.1;
    }
