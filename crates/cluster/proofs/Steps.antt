-- One cluster after the other, by their lengths in bytes: what next_cluster and prev_cluster tell of a part. Assumes nothing.
use mathlib.Core.Path.{◌≡◌, refl, sym, ap, subst, ◌∙◌}
use mathlib.Core.Bool.{true}
use mathlib.Core.List.{List, [], ◌∷◌, ◌++◌}
use Prim.Native.Nat.{ℕ, ◌+◌, ◌-◌, ◌<◌, ◌≤◌}
use native.Mathlib.Omega.{arith}
use lib.ListN.{length, take, drop, length-take, length-drop, drop_of_length-le}
use lib.Seq.{take-take, length-take-le}
use Rattle.lists.specs.Lists.{head_or}
use Rattle.lists.proofs.Bools.{by_less}
use Rattle.lists.proofs.Parts.{part-tail}
use Rattle.utf8.specs.Utf8.{char, first}
use Rattle.utf8.specs.Chars.{chars, chars_from, valid, boundary}
use Rattle.utf8.proofs.Chars.{chars_step, size_pos}
use Rattle.utf8.proofs.Append.{by_first, valid-cut}
use Rattle.utf8.proofs.Boundary.{boundary-take}
use Rattle.repertoire.specs.Repertoire.{Repertoire}
use Rattle.cluster.specs.Clusters.{clusters, clusters_of, first_cluster, last_cluster, bytes, first_size}
use Rattle.cluster.specs.Facts.{facts}
use Rattle.cluster.specs.declared.Cluster.{Cluster}
use Rattle.cluster.proofs.Clusters.{run_of, clusters_head, clusters_step, clusters_none}
use Rattle.cluster.proofs.Parts.{first-cut, last_cut}

module _ (R : Repertoire) where
  head_pos : (t : List ℕ) (c n : ℕ) → first t ≡ char c n → 0 < first_size R t
  head_pos t c n e =
      let k : first_cluster R t ≡ c ∷ run_of R c (chars (drop n t)) =
      ap (λ (l : List ℕ). head_or [] (clusters R l)) (chars_step t c n e) ∙ clusters_head R c (chars (drop n t))
      in
      rw k (let p = size_pos c in omega arith)

  -- a cluster was found
  pub step_some : (t : List ℕ) → 0 < first_size R t → clusters_of R t ≡ first_cluster R t ∷ clusters_of R (drop (first_size R t) t)
  step_some t h =
      by_first _ t (λ c n e. clusters_step R t c n e)
      (λ e. absurd (let z : first_size R t ≡ 0 = ap (λ (l : List (List ℕ)). bytes (head_or [] l)) (clusters_none R t e) in omega arith))

  -- none was
  pub step_none : (t : List ℕ) → first_size R t ≡ 0 → clusters_of R t ≡ []
  step_none t z = by_first _ t (λ c n e. absurd (let p = head_pos t c n e in omega arith)) (λ e. clusters_none R t e)

  -- no bytes, no cluster
  no_cluster : clusters_of R [] ≡ []
  unfolding clusters chars_from
  no_cluster = refl

  -- the first cluster is the whole text
  pub step_one : (t : List ℕ) → 0 < first_size R t → length t ≤ first_size R t → clusters_of R t ≡ first_cluster R t ∷ []
  step_one t h l =
      step_some t h ∙ ap (λ (x : List ℕ). first_cluster R t ∷ clusters_of R x) (drop_of_length-le t {i = first_size R t} l) ∙
      ap (λ (ks : List (List ℕ)). first_cluster R t ∷ ks) no_cluster

  -- a text longer than its first cluster has a second one
  pub step_two : (P : Type 0) (t : List ℕ) → valid t ≡ true → first_size R t < length t →
      ((k : List ℕ) (ks : List (List ℕ)) → clusters_of R t ≡ first_cluster R t ∷ (k ∷ ks) → P) → P
  step_two P t v l f = go (clusters_of R (drop n t)) refl
    where
      n : ℕ
      n = first_size R t

      next : 0 < first_size R (drop n t)
      next =
          let c = (first-cut R t v (omega arith)).cut in
          (first-cut R (drop n t) (sym (valid-cut t n c.at-boundary) ∙ v) (simp length-drop (omega arith))).some

      go : (ks : List (List ℕ)) → clusters_of R (drop n t) ≡ ks → P
      go [] e = absurd (omega (arith, next, ap (λ (x : List (List ℕ)). bytes (head_or [] x)) e))
      go (k ∷ ks) e = f k ks (step_some t (first-cut R t v (omega arith)).some ∙ ap (λ (x : List (List ℕ)). first_cluster R t ∷ x) e)

  -- what next_cluster tells of `&s[a..]`
  pub next_told : (s : List ℕ) (a : ℕ) (k : Cluster) → a ≤ length s →
      (k ≡ facts R (first_cluster R (take (length s - a) (drop a s)))) × (k.len ≤ length (take (length s - a) (drop a s))) →
      (k ≡ facts R (first_cluster R (drop a s))) × (a + k.len ≤ length s)
  next_told s a k h e =
      let q = e.1 in
      let l = length-take (length s - a) (drop a s) in
      (subst (λ (t : List ℕ). k ≡ facts R (first_cluster R t)) (part-tail s a) e.0, omega arith)

  -- the last cluster before a boundary: k, of n bytes
  pub record Before (s : List ℕ) (at n : ℕ) (k : List ℕ) : Type 0 where
    pub some : 0 < n
    pub fits : n ≤ at
    pub at-boundary : boundary s (at - n) ≡ true
    pub last-cluster : clusters_of R (take at s) ≡ clusters_of R (take (at - n) s) ++ (k ∷ [])

  before : (s : List ℕ) (at : ℕ) → boundary s at ≡ true → at ≤ length s → 0 < at → Before s at (bytes (last_cluster R (take at s))) (last_cluster R (take at s))
  before s at b h p =
      let l : length (take at s) ≡ at = length-take-le at s h in
      let n = bytes (last_cluster R (take at s)) in
      let z = last_cut R (take at s) b (omega arith) in
      let f = z.fits in
      record {
        some = z.some;
        fits = omega arith;
        at-boundary = boundary-take s at (at - n) (omega arith) ∙ ap (λ (x : ℕ). boundary (take at s) (x - n)) (sym l) ∙ z.at-boundary;
        last-cluster =
            z.last-cluster ∙ ap (λ (x : ℕ). clusters_of R (take (x - n) (take at s)) ++ (last_cluster R (take at s) ∷ [])) l ∙
            ap (λ (x : List ℕ). clusters_of R x ++ (last_cluster R (take at s) ∷ [])) (take-take (at - n) at s (omega arith));
      }

  -- what prev_cluster tells of `&s[..at]`
  pub prev_some : (s : List ℕ) (at : ℕ) (k : Cluster) → boundary s at ≡ true → at ≤ length s → 0 < at → k ≡ facts R (last_cluster R (take at s)) →
      Before s at k.len (last_cluster R (take at s))
  prev_some s at k b h p e = subst (λ (n : ℕ). Before s at n (last_cluster R (take at s))) (sym (ap (λ (x : Cluster). x.len) e)) (before s at b h p)

  pub prev_none : (s : List ℕ) (at : ℕ) (k : Cluster) → boundary s at ≡ true → at ≤ length s → k ≡ facts R (last_cluster R (take at s)) → k.len ≡ 0 → at ≡ 0
  prev_none s at k b h e z =
      by_less _ 0 at (λ p. absurd (let q = (prev_some s at k b h p e).some in omega arith)) (λ p. omega arith)
