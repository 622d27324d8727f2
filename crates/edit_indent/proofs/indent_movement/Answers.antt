use mathlib.Core.Path.{refl, sym}
use Rattle.checks.proofs.Refusals.{never-passes}
use mathlib.Core.Bool.{true, false}
use lib.Seq.{length-take-le}
use Rattle.edit.specs.Calls.{lent}
use Rattle.edit_indent.proofs.Calls.{indent-refused, indent_in, indent-whole, indent-passed, ready-text}
use Rattle.edit_indent.proofs.indent_movement.Goals as goal

pub admit-requires : goal.admit-requires
admit-requires c = c.requires.fit

pub returns-in-Err : goal.returns-in-Err
returns-in-Err c =
    let a = c.args in
    indent-refused a.f (lent a.text.now a.records.now a.texts.now a.line a.log) a.m a.amount a.dedent
    c.is_foreign.result c.is_split.result c.is_foreign.ensures c.is_split.ensures
    _ c.in-Err.ensures.number (never-passes c.in-Err.why) _ c.refused.ensures

pub slice_bounds-touched-end : goal.slice_bounds-touched-end
slice_bounds-touched-end c = c.in-Ok.ensures.passes.ready.used

pub slice_bounds-touched-end-2 : goal.slice_bounds-touched-end-2
slice_bounds-touched-end-2 c = sym (length-take-le _ _ c.in-Ok.ensures.passes.ready.used)

pub touched-r-requires : goal.touched-r-requires
touched-r-requires c =
    let a = c.args in
    ready-text (lent a.text.now a.records.now a.texts.now a.line a.log) c.in-Ok.ensures.passes.ready

pub dedent_range-requires-clause-in_text : goal.dedent_range-requires-clause-in_text
dedent_range-requires-clause-in_text c =
    let a = c.args in
    let l = lent a.text.now a.records.now a.texts.now a.line a.log in
    let passes = c.in-Ok.ensures.passes in
    rw passes.same
    (indent_in a.f l a.m a.amount a.dedent c.is_foreign.result c.is_split.result c.is_foreign.ensures c.is_split.ensures
    _ c.in-Ok.ensures.number refl passes.ready c.touched-r.result c.touched-r.ensures)

pub dedent_range-requires-clause-not_split : goal.dedent_range-requires-clause-not_split
dedent_range-requires-clause-not_split c =
    let a = c.args in
    let l = lent a.text.now a.records.now a.texts.now a.line a.log in
    let passes = c.in-Ok.ensures.passes in
    rw passes.same
    (indent-whole a.f l a.m a.amount a.dedent c.is_foreign.result c.is_split.result c.is_foreign.ensures c.is_split.ensures
    _ c.in-Ok.ensures.number refl passes.ready c.touched-r.result c.touched-r.ensures c.if-dedent.true)

pub returns-then-dedent : goal.returns-then-dedent
returns-then-dedent c =
    let a = c.args in
    indent-passed a.f (lent a.text.now a.records.now a.texts.now a.line a.log) a.m a.amount a.dedent
    c.is_foreign.result c.is_split.result c.is_foreign.ensures c.is_split.ensures
    _ c.in-Ok.ensures.number refl c.in-Ok.ensures.passes.ready
    c.touched-r.result c.touched-r.ensures true c.if-dedent.true _ _ _ _ (rw c.in-Ok.ensures.passes.same at c.dedent_range.ensures)

pub indent_range-requires-clause-in_text : goal.indent_range-requires-clause-in_text
indent_range-requires-clause-in_text c =
    let a = c.args in
    let l = lent a.text.now a.records.now a.texts.now a.line a.log in
    let passes = c.in-Ok.ensures.passes in
    rw passes.same
    (indent_in a.f l a.m a.amount a.dedent c.is_foreign.result c.is_split.result c.is_foreign.ensures c.is_split.ensures
    _ c.in-Ok.ensures.number refl passes.ready c.touched-r.result c.touched-r.ensures)

pub returns : goal.returns
returns c =
    let a = c.args in
    indent-passed a.f (lent a.text.now a.records.now a.texts.now a.line a.log) a.m a.amount a.dedent
    c.is_foreign.result c.is_split.result c.is_foreign.ensures c.is_split.ensures
    _ c.in-Ok.ensures.number refl c.in-Ok.ensures.passes.ready
    c.touched-r.result c.touched-r.ensures false c.if-dedent.false _ _ _ _ (rw c.in-Ok.ensures.passes.same at c.indent_range.ensures)
