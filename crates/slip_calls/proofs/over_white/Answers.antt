use mathlib.Core.Path.{sym, ap, ◌∙◌}
use mathlib.Core.Bool.{Bool}
use Rattle.lists.specs.Lists.{part}
use Rattle.slip_calls.specs.Places.{white_place}
use Rattle.slip_calls.proofs.Newlines.{newline-among}
use Rattle.slip_calls.proofs.Places.{white-between}
use Rattle.slip_calls.proofs.over_white.Goals as goal

pub returns-then-contains : goal.returns-then-contains
returns-then-contains c =
    let a = c.args in
    let e = sym (newline-among (part a.s.now a.at a.end)) ∙ sym c.contains.ensures.value ∙ c.if-contains.true in
    c.line_end.ensures ∙ sym (ap (λ (b : Bool). white_place b a.filled) e)

pub returns : goal.returns
returns c =
    let a = c.args in
    let e = sym (newline-among (part a.s.now a.at a.end)) ∙ sym c.contains.ensures.value ∙ c.if-contains.false in
    white-between a.filled _ c.spaced.ensures ∙ sym (ap (λ (b : Bool). white_place b a.filled) e)
