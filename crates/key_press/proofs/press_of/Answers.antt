use mathlib.Core.Path.{ap₂, ◌∙◌}
use mathlib.Core.List.{List}
use Prim.Native.Nat.{ℕ}
use Rattle.lists.proofs.Parts.{part-tail}
use Rattle.repertoire.specs.Repertoire.{catalogue}
use Rattle.key_press.specs.Keys.{press_by, press_of}
use Rattle.key_press.proofs.press_of.Goals as goal

pub returns : goal.returns
unfolding press_of
returns c =
    let s = c.args.key.now in
    c.press_by.ensures
    ∙ ap₂ (λ (n : ℕ) (t : List ℕ). press_by catalogue n t) c.count_of-n.ensures.count
    (part-tail s c.count_of-n.result.at ∙ c.count_of-n.ensures.key)
