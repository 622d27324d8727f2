-- What is recorded: of an empty text nothing, of another its change. Assumes nothing.
use Prim.Native.Nat.{ℕ, ◌<◌}
use native.Mathlib.Omega.{arith}
use mathlib.Core.Path.{◌≡◌, refl}
use mathlib.Core.Bool.{false}
use mathlib.Core.List.{List, [], ◌∷◌}
use lib.ListN.{length}
use Rattle.repertoire.specs.Repertoire.{Repertoire}
use Rattle.cluster.specs.Clusters.{clusters_of}
use Rattle.log_model.specs.Change.{insert, delete, Change}
use Rattle.log_model.specs.Recording.{note, record_insert_str, is_single, record_delete}

module _ (p : ℕ) (u : List Change) where
  pub insert_none : (s : List ℕ) → length s ≡ 0 → u ≡ record_insert_str p s u
  unfolding record_insert_str
  insert_none [] e = refl
  insert_none (b ∷ s) e = absurd (omega arith)

  pub insert_some : (s : List ℕ) → 0 < length s → note false (insert p s) u ≡ record_insert_str p s u
  unfolding record_insert_str
  insert_some [] h = absurd (omega arith)
  insert_some (b ∷ s) h = refl

  module _ (R : Repertoire) where
    pub delete_none : (s : List ℕ) → length s ≡ 0 → u ≡ record_delete R p s u
    unfolding record_delete
    delete_none [] e = refl
    delete_none (b ∷ s) e = absurd (omega arith)

    pub delete_some : (s : List ℕ) → 0 < length s → note (is_single R (clusters_of R s)) (delete p s) u ≡ record_delete R p s u
    unfolding record_delete
    delete_some [] h = absurd (omega arith)
    delete_some (b ∷ s) h = refl
