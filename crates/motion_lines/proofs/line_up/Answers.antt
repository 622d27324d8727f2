use Rattle.repertoire.specs.Repertoire.{catalogue}
use Rattle.motion_lines.proofs.Columns.{line_up_none, line_up_some}
use Rattle.motion_lines.proofs.line_up.Goals as goal

pub returns-then-own-eq0 : goal.returns-then-own-eq0
returns-then-own-eq0 c =
    let a = c.args in
    line_up_none catalogue a.s.now a.pos a.n a.prompt _ c.start_of_line-own.ensures.0 c.if-own-eq0.true

pub returns : goal.returns
returns c =
    let a = c.args in
    line_up_some catalogue a.s.now a.pos a.n a.prompt _ c.start_of_line-own.ensures.0 _ _ _ _ _ _ _ c.if-own-eq0.false
    c.width-column.ensures.0 c.saturating_sub.ensures c.start_of_line.ensures.0
    c.line_above-line.ensures.0 c.columns_before.ensures c.saturating_sub-wanted.ensures c.nth_cluster.ensures
