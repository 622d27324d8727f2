-- `cut_bytes` meets its contract. Assumes nothing.
use mathlib.Core.Path.{ap, ◌∙◌}
use mathlib.Core.List.{List}
use Prim.Native.Nat.{ℕ, ◌-◌}
use lib.ListN.{take}
use Rattle.buffer.proofs.Shifts.{cut_law, cut_none}
use Rattle.buffer.proofs.cut_bytes.Goals as goal

pub returns-then-from-to : goal.returns-then-from-to
returns-then-from-to c = let a = c.args in
    cut_none a.s.now a.used a.from a.to c.if-from-to.true

pub returns : goal.returns
returns c = let a = c.args in
    ap (λ (l : List ℕ). take (a.used - (a.to - a.from)) l) c.copy_within.ensures.after
    ∙ cut_law a.s.now a.used a.from a.to c.requires.0 c.requires.1.0 c.requires.1.1
