-- The grapheme indices of the clusters from a place on, and of those before a place from the last back: one grapheme index, then the grapheme indices of what is left.
-- r is what a call answers of the cluster there. Assumes nothing.
use mathlib.Core.Path.{◌≡◌, refl, sym, ap, subst, ◌∙◌}
use mathlib.Core.Bool.{true}
use mathlib.Core.List.{List, [], ◌∷◌, ◌++◌, map, reverse, reverse-append}
use Prim.Native.Nat.{ℕ, ◌+◌, ◌-◌, ◌<◌, ◌≤◌}
use native.Mathlib.Omega.{arith}
use lib.ListN.{length, take, drop}
use lib.Seq.{drop-drop, length-take-le}
use Rattle.lists.specs.Lists.{last_or, sum}
use Rattle.lists.proofs.Bools.{by_less}
use Rattle.utf8.specs.Chars.{chars, chars_from, boundary}
use Rattle.repertoire.specs.Repertoire.{Repertoire}
use Rattle.cluster.specs.Clusters.{clusters, clusters_of, first_cluster, last_cluster, bytes, first_size}
use Rattle.cluster.specs.Facts.{facts}
use Rattle.cluster.specs.declared.Cluster.{Cluster}
use Rattle.cluster.proofs.Clusters.{clusters-concat}
use Rattle.cluster.proofs.Facts.{sum-bytes}
use Rattle.cluster.proofs.Parts.{bytes-all}
use Rattle.cluster.proofs.Steps.{step_some, step_none, next_told, prev_some, prev_none}
use Rattle.motion_words.specs.Walk.{GraphemeIndex, indices_from, grapheme_indices}

-- the cluster that starts at a place
abbrev pub index : ℕ → Cluster → GraphemeIndex
index at k = record { start = at; is = k }

module _ (R : Repertoire) where
  -- ---- forward
  unfoldable pub indices_at : List ℕ → ℕ → List GraphemeIndex
  indices_at t at = indices_from R at (clusters_of R (drop at t))

  -- the facts of the first cluster of a part
  abbrev pub first_of : List ℕ → Cluster
  first_of t = facts R (first_cluster R t)

  -- what `next_cluster(&t[at..])` answers
  pub record Told (t : List ℕ) (at : ℕ) (r : Cluster) : Type 0 where
    pub known : r ≡ first_of (drop at t)
    pub fits : at + r.len ≤ length t

  pub told : (t : List ℕ) (at : ℕ) (r : Cluster) → at ≤ length t →
      (r ≡ first_of (take (length t - at) (drop at t))) × (r.len ≤ length (take (length t - at) (drop at t))) → Told t at r
  told t at r h e = let n = next_told R t at r h e in record { known = n.0; fits = n.1 }

  pub indices_step : (t : List ℕ) (at : ℕ) (r : Cluster) → r ≡ first_of (drop at t) → (r.len ≡ 0 → ⊥) →
      indices_at t at ≡ index at r ∷ indices_at t (at + r.len)
  unfolding indices_at indices_from
  indices_step t at r e h =
      let d = drop at t in
      let k = first_cluster R d in
      let l : r.len ≡ bytes k = ap (λ (x : Cluster). x.len) e in
      let p : 0 < r.len = omega arith in
      ap (indices_from R at) (step_some R d (subst (λ (n : ℕ). 0 < n) l p)) ∙
      ap (λ (x : List ℕ). index at (facts R k) ∷ indices_from R (at + bytes k) (clusters_of R x)) (drop-drop (bytes k) at t) ∙
      ap (λ (x : Cluster). index at x ∷ indices_from R (at + x.len) (clusters_of R (drop (at + x.len) t))) (sym e)

  pub indices_none : (t : List ℕ) (at : ℕ) (r : Cluster) → r ≡ first_of (drop at t) → r.len ≡ 0 → indices_at t at ≡ []
  unfolding indices_at indices_from
  indices_none t at r e h = ap (indices_from R at) (step_none R (drop at t) (sym (ap (λ (x : Cluster). x.len) e) ∙ h))

  pub indices_all : (t : List ℕ) → grapheme_indices R t ≡ indices_at t 0
  unfolding grapheme_indices indices_at
  indices_all t = refl

  -- those behind the first cluster, of k bytes
  pub indices_passed : (t : List ℕ) (k : ℕ) → k ≡ first_size R t → drop 1 (grapheme_indices R t) ≡ indices_at t k
  indices_passed t k e =
      let r = first_of t in
      by_less _ 0 k
      (λ h.
      let s : indices_at t 0 ≡ index 0 r ∷ indices_at t (0 + r.len) = indices_step t 0 r refl (λ z. let q : k ≡ 0 = e ∙ z in omega arith) in
      let q : 0 + r.len ≡ k = omega arith in
      ap (drop 1) (indices_all t ∙ s) ∙ ap (indices_at t) q)
      (λ h.
      let z : indices_at t 0 ≡ [] = indices_none t 0 r refl (let q : r.len ≡ 0 = omega arith in q) in
      let q : k ≡ 0 = omega arith in
      ap (drop 1) (indices_all t ∙ z) ∙ sym (ap (indices_at t) q ∙ z))

  -- ---- backward
  unfoldable pub indices_back : List ℕ → ℕ → List GraphemeIndex
  indices_back t rest = reverse (grapheme_indices R (take rest t))

  abbrev pub last_of : List ℕ → Cluster
  last_of t = facts R (last_cluster R t)

  indices_snoc : (at : ℕ) (ks : List (List ℕ)) (k : List ℕ) → indices_from R at (ks ++ (k ∷ [])) ≡ indices_from R at ks ++ (index (at + sum (map bytes ks)) (facts R k) ∷ [])
  unfolding indices_from
  indices_snoc at [] k = let z : at ≡ at + 0 = omega arith in ap (λ (x : ℕ). index x (facts R k) ∷ []) z
  indices_snoc at (l ∷ ks) k =
      let z : at + bytes l + sum (map bytes ks) ≡ at + (bytes l + sum (map bytes ks)) = omega arith in
      ap (λ (m : List GraphemeIndex). index at (facts R l) ∷ m) (indices_snoc (at + bytes l) ks k ∙
      ap (λ (x : ℕ). indices_from R (at + bytes l) ks ++ (index x (facts R k) ∷ [])) z)

  -- what `prev_cluster(&t[..rest])` answers, of a boundary rest of a text
  module _ (t : List ℕ) (rest : ℕ) (r : Cluster) (l : rest ≤ length t) (b : boundary t rest ≡ true) (e : r ≡ last_of (take rest t)) where
    pub record Behind : Type 0 where
      pub fits : r.len ≤ rest
      pub at-boundary : boundary t (rest - r.len) ≡ true
      pub step : indices_back t rest ≡ index (rest - r.len) r ∷ indices_back t (rest - r.len)

    pub back_none : r.len ≡ 0 → indices_back t rest ≡ []
    unfolding indices_back grapheme_indices indices_from chars_from clusters
    back_none z = ap (λ (x : ℕ). reverse (grapheme_indices R (take x t))) (prev_none R t rest r b l e z)

    -- where there is a cluster, rest is not 0
    some : (r.len ≡ 0 → ⊥) → 0 < rest
    unfolding chars_from clusters last_or
    some h =
        by_less _ 0 rest (λ p. p)
        (λ p.
        let z : rest ≡ 0 = omega arith in
        absurd (h (ap (λ (x : Cluster). x.len) e ∙ ap (λ (x : ℕ). bytes (last_cluster R (take x t))) z)))

    pub back_step : (r.len ≡ 0 → ⊥) → Behind
    unfolding indices_back grapheme_indices
    back_step h =
        let k = last_cluster R (take rest t) in
        let z = prev_some R t rest r b l (some h) e in
        let f = z.fits in
        let u = take (rest - r.len) t in
        let w : sum (map bytes (clusters_of R u)) ≡ rest - r.len =
        sum-bytes (clusters_of R u) ∙ ap bytes (clusters-concat R (chars u)) ∙ bytes-all u z.at-boundary ∙
        length-take-le (rest - r.len) t (omega arith)
        in
        let s : indices_from R 0 (clusters_of R (take rest t)) ≡ indices_from R 0 (clusters_of R u) ++ (index (rest - r.len) (facts R k) ∷ []) =
        ap (indices_from R 0) z.last-cluster ∙ indices_snoc 0 (clusters_of R u) k ∙
        ap (λ (x : ℕ). indices_from R 0 (clusters_of R u) ++ (index x (facts R k) ∷ [])) (let q : 0 + sum (map bytes (clusters_of R u)) ≡ rest - r.len = omega arith in q)
        in
        record {
          fits = f;
          at-boundary = z.at-boundary;
          step =
              ap reverse s ∙ reverse-append (indices_from R 0 (clusters_of R u)) (index (rest - r.len) (facts R k) ∷ []) ∙
              ap (λ (x : Cluster). index (rest - r.len) x ∷ indices_back t (rest - r.len)) (sym e);
        }
