use mathlib.Core.Path.{sym, ◌∙◌}
use borrow.Author.Tests.{lt-ltb, le-ltb}
use Rattle.log_state.specs.Logs.{over_sizes}
use Rattle.log_state.proofs.over_sizes.Goals as goal

pub returns-then-f-records : goal.returns-then-f-records
unfolding over_sizes
returns-then-f-records c = simp (lt-ltb _ _ c.if-f-records.true)

pub returns-then-f-texts : goal.returns-then-f-texts
unfolding over_sizes
returns-then-f-texts c = simp (le-ltb _ _ c.if-f-records.false, lt-ltb _ _ c.if-f-texts.true)

pub returns-then-is_over : goal.returns-then-is_over
unfolding over_sizes
returns-then-is_over c =
    simp (le-ltb _ _ c.if-f-records.false, le-ltb _ _ c.if-f-texts.false, sym c.is_over.ensures ∙ c.if-is_over.true)

pub returns : goal.returns
unfolding over_sizes
returns c = simp (le-ltb _ _ c.if-f-records.false, le-ltb _ _ c.if-f-texts.false, sym c.is_over.ensures ∙ c.if-is_over.false)
    c.is_over-2.ensures
