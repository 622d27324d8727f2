use mathlib.Core.Path.{ap, ◌∙◌}
use lib.ListN.{drop}
use Prim.Native.Nat.{ℕ}
use Rattle.utf8.specs.Chars.{chars}
use Rattle.motion.specs.Search.{matches, nth_match, match_forward}
use Rattle.motion.proofs.match_forward.Goals as goal

pub returns : goal.returns
unfolding match_forward
returns c =
    let a = c.args in
    c.match_from.ensures ∙ ap (λ (x : ℕ). nth_match a.n (matches a.c x (chars (drop x a.s.now)))) c.after_cluster.ensures.0
