use mathlib.Core.Path.{◌≡◌}
use mathlib.Core.List.{List}
use Prim.Native.Nat.{ℕ, ◌+◌}
use Rattle.std.specs.Iterator.{AlwaysYields}
use Rattle.repertoire.specs.Repertoire.{catalogue}
use Rattle.edit_indent_plans.specs.Touched.{split_lines}
use Rattle.edit_indent_plans.specs.Counts.{cuts_in, bytes_in}
use Rattle.edit_indent_plans.proofs.count_cuts.Given as goal

-- the iterator still gives the lines ys
abbrev pub invariant-loop-line : goal.invariant-loop-line
invariant-loop-line l = (ys : List (List ℕ)) × AlwaysYields goal.iterator-loop-line.next_gives (λ x. x.now) l.line-iterator ys
    × (l.records + cuts_in catalogue l.m ys ≡ cuts_in catalogue l.m (split_lines l.p))
    × (l.bytes + bytes_in catalogue l.m ys ≡ bytes_in catalogue l.m (split_lines l.p))
