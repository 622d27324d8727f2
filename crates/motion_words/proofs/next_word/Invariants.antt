use mathlib.Core.Path.{◌≡◌}
use Prim.Native.Nat.{◌≤◌, ◌<◌, ◌-◌}
use lib.ListN.{length}
use Rattle.repertoire.specs.Repertoire.{catalogue}
use Rattle.motion_words.specs.Words.{next_word}
use Rattle.motion_words.proofs.Walks.{rounds, in_round}
use Rattle.motion_words.proofs.next_word.Given as goal

abbrev pub invariant-inner : goal.invariant-inner
invariant-inner l = (l.next ≤ length l.t) × (0 < (l.n - l.counter)) × (l.found ≡ 0) × (l.last ≡ 0) ×
    (next_word catalogue l.t l.at l.word l.n ≡ in_round catalogue l.t l.at l.word (l.n - l.counter) l.i l.x l.next)

abbrev pub decreases-inner : goal.decreases-inner
decreases-inner l = length l.t - l.next

abbrev pub invariant-outer : goal.invariant-outer
invariant-outer l = (l.next ≤ length l.t) × (l.last ≡ 0) × (next_word catalogue l.t l.at l.word l.n ≡ rounds catalogue l.t l.at l.word
    (l.n - l.counter) l.next l.found)
