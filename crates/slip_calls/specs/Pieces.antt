-- The piece of a word that stands at a place: clusters without white space, of at most 60 columns together.
use Rattle.std.specs.Prelude.{ℕ, ◌+◌, ◌≤◌, ◌≡◌, true, cond, List, [], ◌∷◌, leb, length, drop}
use Rattle.lists.specs.Lists.{any, concat}
use Rattle.utf8.specs.Chars.{valid}
use Rattle.repertoire.specs.Repertoire.{Repertoire}
use Rattle.cluster.specs.Clusters.{clusters_of, bytes}
use Rattle.slip_model.specs.Slip.{Word, columns}
use Rattle.slip_calls.specs.declared.Piece.{Piece}

-- where it has some columns already, and what stands behind it
unfoldable pub piece_from : Repertoire → ℕ → List (List ℕ) → Word
piece_from R col [] = []
piece_from R col (k ∷ ks) =
    let n = columns R (k ∷ []) in
    cond (any R.white k) [] (cond (leb (col + n) 60) (k ∷ piece_from R (col + n) ks) [])

unfoldable pub behind_piece : Repertoire → ℕ → List (List ℕ) → List (List ℕ)
behind_piece R col [] = []
behind_piece R col (k ∷ ks) =
    let n = columns R (k ∷ []) in
    cond (any R.white k) (k ∷ ks) (cond (leb (col + n) 60) (behind_piece R (col + n) ks) (k ∷ ks))

-- its end and its columns, and that the text goes on there with what stands behind it
pub record PieceAt (R : Repertoire) (s : List ℕ) (at : ℕ) (r : Piece) : Type 0 where
  pub measured : r.columns ≡ columns R (piece_from R 0 (clusters_of R (drop at s)))
  pub narrow : r.columns ≤ 60
  pub end : r.end ≡ at + bytes (concat (piece_from R 0 (clusters_of R (drop at s))))
  pub behind : clusters_of R (drop r.end s) ≡ behind_piece R 0 (clusters_of R (drop at s))
  pub within : r.end ≤ length s
  pub whole : valid (drop r.end s) ≡ true
