-- The scan for a piece of a word, one cluster after the other. Assumes nothing.
use Prim.Native.Nat.{ℕ, ◌+◌, ◌≤◌, ◌<◌}
use mathlib.Core.Path.{◌≡◌, refl, sym, ap, subst, ◌∙◌}
use mathlib.Core.Bool.{true, false}
use mathlib.Core.List.{List, [], ◌∷◌}
use native.Mathlib.Omega.{arith}
use lib.Dec.{leb}
use lib.ListN.{length, drop, drop_of_length-le}
use borrow.Author.Tests.{le-leb, lt-leb}
use Rattle.lists.specs.Lists.{any, concat, part}
use Rattle.utf8.specs.Chars.{chars_from, valid}
use Rattle.repertoire.specs.Repertoire.{Repertoire}
use Rattle.cluster.specs.Clusters.{clusters, clusters_of, bytes}
use Rattle.cluster.specs.declared.Cluster.{Cluster}
use Rattle.cluster.proofs.Facts.{bytes-append}
use Rattle.layout.specs.Width.{column_after, columns_after, width}
use Rattle.layout.proofs.Columns.{width-columns}
use Rattle.slip_model.specs.Slip.{Word, columns}
use Rattle.slip_model.proofs.Columns.{none_columns, piece_more}
use Rattle.slip_calls.specs.Pieces.{piece_from, behind_piece, PieceAt}
use Rattle.slip_calls.proofs.Clusters.{ClusterAt}

module _ (R : Repertoire) where
  -- a piece that ends before some clusters
  pub record Stops (col : ℕ) (ks : List (List ℕ)) : Type 0 where
    pub none : piece_from R col ks ≡ []
    pub all : behind_piece R col ks ≡ ks

  -- one that goes on over the first of them
  pub record GoesOn (col : ℕ) (k : List ℕ) (ks : List (List ℕ)) : Type 0 where
    pub one : piece_from R col (k ∷ ks) ≡ k ∷ piece_from R (col + columns R (k ∷ [])) ks
    pub others : behind_piece R col (k ∷ ks) ≡ behind_piece R (col + columns R (k ∷ [])) ks

  pub stops_end : (col : ℕ) → Stops col []
  unfolding piece_from behind_piece
  stops_end col = record { none = refl; all = refl }

  pub stops-white : (col : ℕ) (k : List ℕ) (ks : List (List ℕ)) → any R.white k ≡ true → Stops col (k ∷ ks)
  unfolding piece_from behind_piece
  stops-white col k ks w = record { none = rw w; all = rw w }

  pub stops_full : (col : ℕ) (k : List ℕ) (ks : List (List ℕ)) → any R.white k ≡ false → 60 < col + columns R (k ∷ []) → Stops col (k ∷ ks)
  unfolding piece_from behind_piece
  stops_full col k ks w h =
      let e : leb (col + columns R (k ∷ [])) 60 ≡ false = lt-leb _ _ h in
      record { none = rw (w, e); all = rw (w, e) }

  pub goes-on : (col : ℕ) (k : List ℕ) (ks : List (List ℕ)) → any R.white k ≡ false → col + columns R (k ∷ []) ≤ 60 → GoesOn col k ks
  unfolding piece_from behind_piece
  goes-on col k ks w h =
      let e : leb (col + columns R (k ∷ [])) 60 ≡ true = le-leb _ _ h in
      record { one = rw (w, e); others = rw (w, e) }

  -- a cluster's width is its columns
  pub cluster_width : (s : List ℕ) (at : ℕ) (k : List ℕ) (c : Cluster) → ClusterAt R s at k c → width R 0 (part s at (at + c.len)) ≡ columns R (k ∷ [])
  unfolding columns_after
  cluster_width s at k c z =
      let e = ap (column_after R 0) z.characters in
      omega (arith, width-columns R 0 (part s at (at + c.len)), e)

  -- where the text ends, where white space stands, and where the cluster passes 60 columns, a piece stops
  module _ (s : List ℕ) (end col : ℕ) where
    pub stops_there : length s ≤ end → Stops col (clusters_of R (drop end s))
    unfolding clusters chars_from
    stops_there h = subst (λ (t : List ℕ). Stops col (clusters_of R t)) (sym (drop_of_length-le s {i = end} h)) (stops_end col)

    module _ (k : List ℕ) (c : Cluster) where
      pub white_there : ClusterAt R s end k c → c.white ≡ true → Stops col (clusters_of R (drop end s))
      white_there x w = subst (Stops col) (sym x.clusters) (stops-white col k _ (sym x.white ∙ w))

      pub full_there : (n : ℕ) → ClusterAt R s end k c → n ≡ width R 0 (part s end (end + c.len)) → c.white ≡ false → 60 < col + n →
          Stops col (clusters_of R (drop end s))
      full_there n x e w h =
          subst (Stops col) (sym x.clusters) (stops_full col k _ (sym x.white ∙ w) (omega (arith, h, e ∙ cluster_width s end k c x)))

  -- ---- the scan from at has come to a place, with so many columns
  module _ (s : List ℕ) (at : ℕ) where
    abbrev there : ℕ → List (List ℕ)
    there i = clusters_of R (drop i s)

    pub record Scanned (end col : ℕ) : Type 0 where
      pub within : end ≤ length s
      pub narrow : col ≤ 60
      pub whole : valid (drop end s) ≡ true
      pub measured : columns R (piece_from R 0 (there at)) ≡ col + columns R (piece_from R col (there end))
      pub sized : at + bytes (concat (piece_from R 0 (there at))) ≡ end + bytes (concat (piece_from R col (there end)))
      pub rest : behind_piece R 0 (there at) ≡ behind_piece R col (there end)

    pub scan-start : at ≤ length s → valid (drop at s) ≡ true → Scanned at 0
    scan-start h v = record { within = h; narrow = omega arith; whole = v; measured = omega arith; sized = refl; rest = refl }

    module _ (end col : ℕ) (z : Scanned end col) where
      -- it stops there
      pub scan-stops : Stops col (there end) → PieceAt R s at (record { end = end; columns = col })
      scan-stops h =
          let e = ap (columns R) h.none in
          let b = ap (λ (p : Word). bytes (concat p)) h.none in
          record {
            measured = omega (arith, z.measured, e, none_columns R);
            narrow = z.narrow;
            end = omega (arith, z.sized, b);
            behind = sym (z.rest ∙ h.all);
            within = z.within;
            whole = z.whole;
          }

      -- it goes on over a cluster
      pub scan_more : (k : List ℕ) (c : Cluster) (n : ℕ) → ClusterAt R s end k c → n ≡ width R 0 (part s end (end + c.len)) → c.white ≡ false →
          col + n ≤ 60 → Scanned (end + c.len) (col + n)
      scan_more k c n x e w h =
          let m : n ≡ columns R (k ∷ []) = e ∙ cluster_width s end k c x in
          let g = goes-on col k (there (end + c.len)) (sym x.white ∙ w) (omega (arith, m, h)) in
          let col' : col + columns R (k ∷ []) ≡ col + n = omega arith in
          let p = piece_from R (col + n) (there (end + c.len)) in
          let here : piece_from R col (there end) ≡ k ∷ p =
          ap (piece_from R col) x.clusters ∙ g.one ∙ ap (λ (i : ℕ). k ∷ piece_from R i (there (end + c.len))) col' in
          let a = ap (columns R) here in
          let b = ap (λ (q : Word). bytes (concat q)) here in
          record {
            within = x.within;
            narrow = h;
            whole = x.whole;
            measured = omega (arith, z.measured, a, piece_more R k p, m);
            sized = omega (arith, z.sized, b, bytes-append k (concat p), x.sized);
            rest =
                z.rest ∙ ap (behind_piece R col) x.clusters ∙ g.others ∙
                ap (λ (i : ℕ). behind_piece R i (there (end + c.len))) col';
          }
