use mathlib.Core.Path.{◌∙◌}
use Rattle.log_records.proofs.Written.{one_written, two_written}
use Rattle.log_records.proofs.write_record.Goals as goal

pub returns-in-Insert : goal.returns-in-Insert
returns-in-Insert c =
    one_written c.args.f c.args.records.now c.write_num.new.s c.args.at c.byte.result c.args.edit.place c.write_num.ensures
    c.write_num-in-Insert.new.s c.args.edit.new c.write_num-in-Insert.ensures
    ∙ rw (c.byte.ensures, c.in-Insert.is)

pub returns-in-Delete : goal.returns-in-Delete
returns-in-Delete c =
    one_written c.args.f c.args.records.now c.write_num.new.s c.args.at c.byte.result c.args.edit.place c.write_num.ensures
    c.write_num-in-Delete.new.s c.args.edit.old c.write_num-in-Delete.ensures
    ∙ rw (c.byte.ensures, c.in-Delete.is)

pub returns-in-Replace : goal.returns-in-Replace
returns-in-Replace c =
    two_written c.args.f c.args.records.now c.write_num.new.s c.args.at c.byte.result c.args.edit.place c.write_num.ensures
    c.write_num-in-Replace.new.s c.write_num-in-Replace-2.new.s c.args.edit.old c.args.edit.new c.write_num-in-Replace.ensures
    c.write_num-in-Replace-2.ensures
    ∙ rw (c.byte.ensures, c.in-Replace.is)
