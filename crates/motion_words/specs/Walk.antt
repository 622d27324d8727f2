-- Going over the clusters of a part, n times as far as the next stop: the two loops that next_word_pos and prev_word_pos of line_buffer.rs share.
-- The forward motion goes over grapheme_indices, the backward one over the same list reversed.
use Rattle.std.specs.Prelude.{ℕ, zero, suc, ◌+◌, Bool, cond, List, [], ◌∷◌}
use Rattle.repertoire.specs.Repertoire.{Repertoire}
use Rattle.cluster.specs.Clusters.{clusters_of, bytes}
use Rattle.cluster.specs.Facts.{facts}
use Rattle.cluster.specs.declared.Cluster.{Cluster}
use Rattle.motion_words.specs.declared.Landing.{Landing}

-- an element of grapheme_indices: where a cluster starts, and what the rules ask of it
pub record GraphemeIndex : Type 0 where
  pub start : ℕ
  pub is : Cluster

unfoldable pub indices_from : Repertoire → ℕ → List (List ℕ) → List GraphemeIndex
indices_from R at [] = []
indices_from R at (k ∷ ks) = record { start = at; is = facts R k } ∷ indices_from R (at + bytes k) ks

unfoldable pub grapheme_indices : Repertoire → List ℕ → List GraphemeIndex
grapheme_indices R t = indices_from R 0 (clusters_of R t)

-- what the inner loop finds: where it lands and what it has not read yet, or that the text ran out behind the cluster that starts there
pub data Scan : Type 0 where
  hit : ℕ → List GraphemeIndex → Scan
  out : ℕ → Scan

module _ (stops : GraphemeIndex → GraphemeIndex → Bool) (lands : GraphemeIndex → GraphemeIndex → ℕ) where
  -- the inner loop, with x read
  unfoldable pub scan : GraphemeIndex → List GraphemeIndex → Scan
  scan x [] = out x.start
  scan x (y ∷ gs) = cond (stops x y) (hit (lands x y) gs) (scan y gs)

  abbrev pub onward : (List GraphemeIndex → ℕ → Landing) → Scan → Landing
  onward f (hit p gs) = f gs p
  onward f (out l) = record { found = 0; last = l }

  -- the outer loop: n rounds more, each begins with a cluster not read yet; p is where the round before landed.
  -- Where the text runs out the place found is 0, and last is the start of the last cluster read
  unfoldable pub walk : ℕ → List GraphemeIndex → ℕ → Landing
  walk zero gs p = record { found = p; last = 0 }
  walk (suc n) [] p = record { found = 0; last = 0 }
  walk (suc n) (x ∷ gs) p = onward (walk n) (scan x gs)
