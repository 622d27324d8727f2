use mathlib.Core.Bool.{true}
use Rattle.edit.specs.Calls.{lent}
use Rattle.edit_indent_plans.proofs.Rooms.{Part, asks, RoomTested, log-within, to-within, cuts_few, dedent_tested, full, begin}
use Rattle.edit_indent.proofs.dedent_range.Goals as goal
use Rattle.edit_indent.proofs.dedent_range.Goals.{After-has_room, Start}

abbrev asked : Start → Part
asked s = asks (lent s.args.text.now s.args.records.now s.args.texts.now s.args.checked.line s.args.checked.log) s.requires.ready s.args.m s.args.from
    s.args.to
    s.requires.in_text

tested : (c : After-has_room) → RoomTested (asks (lent c.args.text.now c.args.records.now c.args.texts.now c.args.checked.line c.args.checked.log)
    c.requires.ready c.args.m c.args.from c.args.to c.requires.in_text) true
    c.has_room.result
tested c = dedent_tested (asks (lent c.args.text.now c.args.records.now c.args.texts.now c.args.checked.line c.args.checked.log) c.requires.ready c.args.m
    c.args.from c.args.to c.requires.in_text) c.requires.not_split c.count_cuts-n.ensures.0 c.count_cuts-n.ensures.1 c.has_room.ensures

pub slice_bounds-count_cuts-end : goal.slice_bounds-count_cuts-end
slice_bounds-count_cuts-end c = (to-within (asked (goal.at.slice_bounds-count_cuts-end c).Start)).1

pub has_room-requires : goal.has_room-requires
has_room-requires c =
    let x = asked (goal.at.has_room-requires c).Start in
    record {
      fit = x.ready.log.fit;
      records_in_bounds = ((log-within x).0, (log-within x).1, cuts_few x c.count_cuts-n.ensures.0);
    }

pub returns-then-not-has_room : goal.returns-then-not-has_room
returns-then-not-has_room c =
    full _ (tested (goal.at.returns-then-not-has_room c).After-has_room) c.if-not-has_room.true c.refused.ensures

pub dedent_lines-requires : goal.dedent_lines-requires
dedent_lines-requires c =
    let q = begin _ (tested (goal.at.dedent_lines-requires c).After-has_room) c.if-not-has_room.false in
    record {
      ready = q.0;
      from_le_to = q.1.0;
      all_suit = q.1.1.0;
      text_value = q.1.1.1.0;
      log_value = q.1.1.1.1;
    }
