use Rattle.edit_case.proofs.Cased.{case_some, case_back}
use Rattle.edit_case.proofs.case_at.Goals as goal

pub unwrap-requires : goal.unwrap-requires
unwrap-requires c =
    let a = c.args in
    case_some a.case a.out.now a.s.now a.at _ _ c.requires c.change_case.ensures

pub returns : goal.returns
returns c =
    let a = c.args in
    case_back a.case a.out.now a.s.now a.at _ _ _ c.requires c.change_case.ensures c.unwrap.ensures
