use mathlib.Core.Path.{sym, ap, ◌∙◌}
use Rattle.utf8.specs.Utf8.{tail}
use Rattle.utf8.proofs.Boundary.{start_here, start_back, start_none}
use Rattle.utf8.proofs.prev_char.Goals as goal

pub returns-then-not-is_tail : goal.returns-then-not-is_tail
returns-then-not-is_tail c = sym
    (c.loop-j.invariant
    ∙ start_here _ _ c.loop-j-test.true
    (sym (c.is_tail.ensures ∙ ap tail c.byte_at.ensures) ∙ c.if-not-is_tail.true))

pub loop-j-preserved : goal.loop-j-preserved
loop-j-preserved c = c.loop-j.invariant
    ∙ start_back _ _ c.loop-j-test.true
    (sym (c.is_tail.ensures ∙ ap tail c.byte_at.ensures) ∙ c.if-not-is_tail.false)

pub returns : goal.returns
returns c = sym (c.loop-j.invariant ∙ start_none _ _ c.loop-j-test.false)
