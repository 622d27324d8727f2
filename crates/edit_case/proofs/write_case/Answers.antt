use Rattle.edit_case.proofs.Cased.{by_action, lower-written, upper-written}
use Rattle.edit_case.proofs.write_case.Goals as goal

pub returns-in-Capitalize : goal.returns-in-Capitalize
returns-in-Capitalize c = by_action _ _ _ _ _ c.in-Capitalize.is c.capitalize.ensures

pub returns-in-Lowercase : goal.returns-in-Lowercase
returns-in-Lowercase c = by_action _ _ _ _ _ c.in-Lowercase.is
    (lower-written c.args.s.now c.args.out.now _ _ c.requires.s_in_bounds c.case_at.ensures)

pub returns-in-Uppercase : goal.returns-in-Uppercase
returns-in-Uppercase c = by_action _ _ _ _ _ c.in-Uppercase.is
    (upper-written c.args.s.now c.args.out.now _ _ c.requires.s_in_bounds c.case_at-in-Uppercase.ensures)
