use Rattle.repertoire.specs.Repertoire.{catalogue}
use Rattle.motion_lines.proofs.Columns.{line_down_none, line_down_some}
use Rattle.motion_lines.proofs.line_down.Goals as goal

pub returns-then-s-e : goal.returns-then-s-e
returns-then-s-e c =
    let a = c.args in
    line_down_none catalogue a.s.now a.pos a.n a.prompt _ c.end_of_line-e.ensures.0 c.if-s-e.true

pub returns : goal.returns
returns c =
    let a = c.args in
    line_down_some catalogue a.s.now a.pos a.n a.prompt _ c.end_of_line-e.ensures.0 _ _ _ _ _ _ _ c.if-s-e.false
    c.start_of_line-own.ensures.0 c.columns_before-before.ensures c.width.ensures.0
    c.saturating_sub.ensures c.end_of_line.ensures.0 c.line_below-line.ensures.0 c.nth_cluster.ensures
