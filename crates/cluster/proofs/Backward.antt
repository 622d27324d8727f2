-- The scan for the last cluster, from the end of a text backward: what is known of it so far. Assumes nothing.
use mathlib.Core.Path.{◌≡◌, sym, ap, ◌∙◌}
use mathlib.Core.Bool.{true, false}
use mathlib.Core.List.{List, [], ◌∷◌, ◌++◌}
use Prim.Native.Nat.{ℕ, ◌+◌}
use native.Mathlib.Omega.{arith}
use lib.ListN.{length, take, drop}
use lib.Seq.{drop-drop, drop-length}
use Rattle.lists.specs.Lists.{last_or}
use Rattle.lists.proofs.Parts.{none_left}
use Rattle.lists.proofs.Ends.{last_snoc}
use Rattle.utf8.specs.Utf8.{char, first}
use Rattle.utf8.specs.Chars.{chars, boundary, chars_from, EndsAt}
use Rattle.utf8.proofs.Chars.{first-within, chars_step}
use Rattle.utf8.proofs.Append.{chars-cut}
use Rattle.utf8.proofs.Ends.{ends_char, chars-before}
use Rattle.repertoire.specs.Repertoire.{Repertoire}
use Rattle.cluster.specs.Clusters.{joined, clusters, clusters_of, last_cluster}
use Rattle.cluster.specs.Facts.{facts, single, extended}
use Rattle.cluster.specs.declared.Cluster.{Cluster}
use Rattle.cluster.proofs.Clusters.{Linked, clusters_break, clusters_linked}
use Rattle.cluster.proofs.Facts.{facts-single, facts_cons}

module _ (R : Repertoire) (s : List ℕ) where
  -- the characters from j on are c and those behind it, with no break between them, and k is their cluster
  pub record Backed (j c : ℕ) (k : Cluster) : Type 0 where
    pub behind : List ℕ
    pub there : chars (drop j s) ≡ c ∷ behind
    pub start : boundary s j ≡ true
    pub sized : k.len + j ≡ length s
    pub linked : Linked R (c ∷ behind)
    pub known : k ≡ facts R (c ∷ behind)

  pub back_start : (j c n : ℕ) (k : Cluster) → EndsAt s (length s) j → first (drop j s) ≡ char c n → k ≡ single R c n → Backed j c k
  unfolding chars_from
  back_start j c n k z e q =
      let w = first-within (drop j s) c n e in
      let m = ends_char s (length s) j c n z e in
      let b = z.below in
      let l : j + n ≡ length s = omega arith in
      let nothing : chars (drop n (drop j s)) ≡ [] = ap chars (drop-drop n j s ∙ ap (λ (x : ℕ). drop x s) l ∙ drop-length s) in
      record {
        behind = [];
        there = chars_step (drop j s) c n e ∙ ap (λ (l : List ℕ). c ∷ l) nothing;
        start = z.start;
        sized = let h = ap (λ (x : Cluster). x.len) q in omega arith;
        linked = tt;
        known = q ∙ ap (single R c) w.sized ∙ facts-single R c;
      }

  module _ (j c : ℕ) (k : Cluster) (z : Backed j c k) (i p n : ℕ) (f : EndsAt s j i) (e : first (drop i s) ≡ char p n) where
    -- the characters from i on
    one_more : chars (drop i s) ≡ p ∷ chars (drop j s)
    one_more =
        let m = ends_char s j i p n f e in
        let b = f.below in
        let q : i + n ≡ j = omega arith in
        chars_step (drop i s) p n e ∙ ap (λ (l : List ℕ). p ∷ chars l) (drop-drop n i s ∙ ap (λ (x : ℕ). drop x s) q)

    -- p joins
    pub back_more : (k' : Cluster) → joined R p c ≡ true → k' ≡ extended R k p n → Backed i p k'
    back_more k' g q =
        let w = first-within (drop i s) p n e in
        let m = ends_char s j i p n f e in
        let b = f.below in
        let y = z.sized in
        record {
          behind = c ∷ z.behind;
          there = one_more ∙ ap (λ (l : List ℕ). p ∷ l) z.there;
          start = f.start;
          sized = let h = ap (λ (x : Cluster). x.len) q in omega arith;
          linked = (g, z.linked);
          known =
              q ∙ ap (λ (x : Cluster). extended R x p n) z.known ∙ ap (extended R (facts R (c ∷ z.behind)) p) w.sized ∙
              facts_cons R p c z.behind;
        }

    -- p does not join
    pub back_break : joined R p c ≡ false → clusters_of R s ≡ clusters_of R (take j s) ++ ((c ∷ z.behind) ∷ [])
    back_break g =
        let us = chars (take i s) in
        ap (clusters R) (chars-cut s j z.start ∙
        ap (λ (l : List ℕ). l ++ chars (drop j s)) (chars-before s j i p n f e) ∙
        ap (λ (l : List ℕ). (us ++ (p ∷ [])) ++ l) z.there) ∙
        clusters_break R us p c z.behind g ∙
        ap (λ (l : List ℕ). clusters R l ++ clusters R (c ∷ z.behind)) (sym (chars-before s j i p n f e)) ∙
        ap (λ (l : List (List ℕ)). clusters_of R (take j s) ++ l) (clusters_linked R c z.behind z.linked)

    pub back_stop : joined R p c ≡ false → k ≡ facts R (last_cluster R s)
    back_stop g =
        z.known ∙ ap (facts R) (sym (last_snoc [] (clusters_of R (take j s)) (c ∷ z.behind))) ∙
        ap (λ (l : List (List ℕ)). facts R (last_or [] l)) (sym (back_break g))

  -- of no characters
  pub back_empty : (k : Cluster) → length s ≡ 0 → k ≡ facts R [] → k ≡ facts R (last_cluster R s)
  unfolding chars_from clusters last_or
  back_empty k h e = e ∙ ap (λ (l : List ℕ). facts R (last_cluster R l)) (sym (none_left s h))

  -- the text's start is reached
  pub back_done : (c : ℕ) (k : Cluster) → Backed 0 c k → k ≡ facts R (last_cluster R s)
  unfolding last_or
  back_done c k z =
      z.known ∙ ap (λ (l : List (List ℕ)). facts R (last_or [] l)) (sym (ap (clusters R) z.there ∙ clusters_linked R c z.behind z.linked))
