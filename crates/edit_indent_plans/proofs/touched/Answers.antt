use native.Mathlib.Omega.{arith}
use Rattle.repertoire.specs.Repertoire.{catalogue}
use Rattle.edit_indent_plans.proofs.Spans.{touched_as, span_as}
use Rattle.edit_indent_plans.proofs.touched.Goals as goal

pub start_of_line-requires : goal.start_of_line-requires
start_of_line-requires c =
    let z = span_as catalogue c.args.s.now c.args.pos c.args.m c.span_of-r.result
    c.requires.0 c.requires.1 c.requires.2 c.span_of-r.ensures in
    let a = z.0 in
    let b = z.1 in
    omega arith

pub last_newline-requires : goal.last_newline-requires
last_newline-requires c =
    (span_as catalogue c.args.s.now c.args.pos c.args.m c.span_of-r.result c.requires.0 c.requires.1 c.requires.2
    c.span_of-r.ensures).1

pub returns : goal.returns
returns c = touched_as catalogue c.args.s.now c.args.pos c.args.m c.span_of-r.result _ _ c.span_of-r.ensures
    c.start_of_line.ensures.0 c.last_newline.ensures
