use mathlib.Core.Path.{◌≡◌}
use mathlib.Core.Bool.{true}
use Prim.Native.Nat.{◌≤◌, ◌<◌, ◌-◌}
use lib.ListN.{length}
use Rattle.utf8.specs.Chars.{boundary}
use Rattle.repertoire.specs.Repertoire.{catalogue}
use Rattle.motion_words.specs.Words.{prev_word}
use Rattle.motion_words.proofs.Walks.{rounds_back, in_round_back}
use Rattle.motion_words.proofs.prev_word.Given as goal

abbrev pub invariant-inner : goal.invariant-inner
invariant-inner l = (l.rest ≤ length l.t) × (boundary l.t l.rest ≡ true) × (0 < (l.n - l.counter)) × (l.found ≡ 0) ×
    (prev_word catalogue l.t l.word l.n ≡ (in_round_back catalogue l.t l.word (l.n - l.counter) l.j l.y l.rest).found)

abbrev pub decreases-inner : goal.decreases-inner
decreases-inner l = l.rest

abbrev pub invariant-outer : goal.invariant-outer
invariant-outer l = (l.rest ≤ length l.t) × (boundary l.t l.rest ≡ true) ×
    (prev_word catalogue l.t l.word l.n ≡ (rounds_back catalogue l.t l.word (l.n - l.counter) l.rest l.found).found)
