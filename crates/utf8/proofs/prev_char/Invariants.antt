use mathlib.Core.Path.{◌≡◌}
use Rattle.utf8.specs.Chars.{start_before}
use Rattle.utf8.proofs.prev_char.Given as goal

abbrev pub invariant-loop-j : goal.invariant-loop-j
invariant-loop-j l = start_before l.s l.i ≡ start_before l.s l.j
