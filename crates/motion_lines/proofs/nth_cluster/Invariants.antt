use Prim.Native.Nat.{◌≤◌, ◌-◌}
use mathlib.Core.Path.{◌≡◌}
use lib.ListN.{length}
use Rattle.repertoire.specs.Repertoire.{catalogue}
use Rattle.motion_lines.specs.Columns.{nth_cluster}
use Rattle.motion_lines.proofs.Columns.{nth_from}
use Rattle.motion_lines.proofs.nth_cluster.Given as goal

abbrev pub invariant-loop : goal.invariant-loop
invariant-loop l = (l.at ≤ length l.t) ×
    (nth_cluster catalogue l.s l.line.start l.line.end l.n l.other ≡ nth_from catalogue l.t l.line.start l.other l.at (l.n - l.counter))
