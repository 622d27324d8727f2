-- The cluster that stands at a place of a text. Assumes nothing.
use Prim.Native.Nat.{ℕ, ◌+◌, ◌-◌, ◌≤◌, ◌<◌}
use mathlib.Core.Path.{◌≡◌, sym, ap, ◌∙◌}
use mathlib.Core.Bool.{true}
use mathlib.Core.List.{List, ◌∷◌}
use native.Mathlib.Omega.{arith}
use lib.ListN.{length, take, drop, length-drop}
use lib.Seq.{drop-drop}
use Rattle.lists.specs.Lists.{any, part}
use Rattle.utf8.specs.Chars.{chars, valid}
use Rattle.utf8.specs.Encode.{encode_all}
use Rattle.utf8.proofs.Append.{valid-cut}
use Rattle.utf8.proofs.Encode.{encode-chars}
use Rattle.repertoire.specs.Repertoire.{Repertoire}
use Rattle.cluster.specs.Clusters.{clusters_of, first_cluster, bytes, first_size}
use Rattle.cluster.specs.Facts.{facts}
use Rattle.cluster.specs.declared.Cluster.{Cluster}
use Rattle.cluster.proofs.Parts.{first-cut}
use Rattle.cluster.proofs.Steps.{step_some, next_told}

module _ (R : Repertoire) where
  -- k, as next_cluster tells of it, stands there, and the text goes on behind it
  pub record ClusterAt (s : List ℕ) (at : ℕ) (k : List ℕ) (c : Cluster) : Type 0 where
    pub white : c.white ≡ any R.white k
    pub sized : c.len ≡ bytes k
    pub some : 0 < c.len
    pub within : at + c.len ≤ length s
    pub whole : valid (drop (at + c.len) s) ≡ true
    pub clusters : clusters_of R (drop at s) ≡ k ∷ clusters_of R (drop (at + c.len) s)
    pub characters : chars (part s at (at + c.len)) ≡ k
    pub encoded : part s at (at + c.len) ≡ encode_all k

  pub cluster_at : (s : List ℕ) (at : ℕ) (c : Cluster) → at < length s → valid (drop at s) ≡ true → c ≡ facts R (first_cluster R (drop at s)) →
      ClusterAt s at (first_cluster R (drop at s)) c
  cluster_at s at c h v e =
      let t = drop at s in
      let n = first_size R t in
      let size : c.len ≡ n = ap (λ (x : Cluster). x.len) e in
      let l : length t ≡ length s - at = length-drop at s in
      let z = first-cut R t v (omega arith) in
      let behind : drop n t ≡ drop (at + c.len) s = drop-drop n at s ∙ ap (λ (x : ℕ). drop (at + x) s) (sym size) in
      let m : at + c.len - at ≡ n = omega arith in
      record {
        white = ap (λ (x : Cluster). x.white) e;
        sized = size;
        some = omega (arith, size, z.some);
        within = omega (arith, size, l, z.cut.fits);
        whole = ap valid (sym behind) ∙ sym (valid-cut t n z.cut.at-boundary) ∙ v;
        clusters = step_some R t z.some ∙ ap (λ (x : List ℕ). first_cluster R t ∷ clusters_of R x) behind;
        characters = ap (λ (x : ℕ). chars (take x t)) m ∙ z.cut.front;
        encoded = ap (λ (x : ℕ). take x t) m ∙ sym (encode-chars (take n t) z.cut.at-boundary) ∙ ap encode_all z.cut.front;
      }

  -- the same of `&s[at..]`
  pub cluster_told : (s : List ℕ) (at : ℕ) (c : Cluster) → at < length s → valid (drop at s) ≡ true →
      (c ≡ facts R (first_cluster R (take (length s - at) (drop at s)))) × (c.len ≤ length (take (length s - at) (drop at s))) →
      ClusterAt s at (first_cluster R (drop at s)) c
  cluster_told s at c h v e = cluster_at s at c h v (next_told R s at c (omega arith) e).0
