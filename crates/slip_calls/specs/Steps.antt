-- One step over a text: what it prints, and where the text goes on.
use Rattle.std.specs.Prelude.{ℕ, ◌≤◌, ◌<◌, ◌≡◌, true, List, ◌++◌, length, drop}
use Rattle.lists.specs.Lists.{part}
use Rattle.utf8.specs.Chars.{valid}
use Rattle.repertoire.specs.Repertoire.{Repertoire}
use Rattle.cluster.specs.Clusters.{clusters_of}
use Rattle.slip_model.specs.declared.Filled.{Filled}
use Rattle.slip_calls.specs.declared.Step.{Step}
use Rattle.slip_calls.specs.Places.{filled_to, placed}
use Rattle.slip_calls.specs.Remaining.{remaining}

-- a place where characters begin, with a line of at most 60 columns begun
pub record Standing (s : List ℕ) (at : ℕ) (f : Filled) : Type 0 where
  pub within : at ≤ length s
  pub whole : valid (drop at s) ≡ true
  pub narrow : filled_to f ≤ 60

-- r goes on from at: what is printed is its place, its bytes of the text, and what remains where it ends
pub record StepAt (R : Repertoire) (s : List ℕ) (at : ℕ) (f : Filled) (r : Step) : Type 0 where
  pub forward : at < r.end
  pub ordered : r.from ≤ r.end
  pub few : r.place.spaces ≤ 60
  pub stands : Standing s r.end r.place.filled
  pub printed : remaining R f (clusters_of R (drop at s)) ≡
      placed r.place ++ (part s r.from r.end ++ remaining R r.place.filled (clusters_of R (drop r.end s)))
