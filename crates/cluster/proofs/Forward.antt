-- The scan for the first cluster: what is known of it so far, and the characters that still join. Assumes nothing.
use mathlib.Core.Path.{◌≡◌, refl, sym, ap, ◌∙◌}
use mathlib.Core.Bool.{true, false}
use mathlib.Core.List.{List, [], ◌∷◌}
use Prim.Native.Nat.{ℕ, ◌+◌}
use lib.ListN.{drop}
use lib.Seq.{drop-drop}
use Rattle.lists.specs.Lists.{head_or}
use Rattle.utf8.specs.Utf8.{char, bad, first}
use Rattle.utf8.specs.Chars.{chars}
use Rattle.utf8.proofs.Chars.{first-within, chars_step, chars-bad}
use Rattle.repertoire.specs.Repertoire.{Repertoire}
use Rattle.cluster.specs.Clusters.{joined, clusters, first_cluster}
use Rattle.cluster.specs.Facts.{facts, single, extended}
use Rattle.cluster.specs.declared.Cluster.{Cluster}
use Rattle.cluster.proofs.Clusters.{run_of, clusters_head, clusters_none}
use Rattle.cluster.proofs.Facts.{extended_by, facts-single, facts-append}

module _ (R : Repertoire) (t : List ℕ) (p : ℕ) where
  run_in : (c n : ℕ) → first t ≡ char c n → joined R p c ≡ true → run_of R p (chars t) ≡ c ∷ run_of R c (chars (drop n t))
  run_in c n e j = rw (chars_step t c n e, j)

  run_out : (c n : ℕ) → first t ≡ char c n → joined R p c ≡ false → run_of R p (chars t) ≡ []
  run_out c n e j = rw (chars_step t c n e, j)

  run_bad : first t ≡ bad → run_of R p (chars t) ≡ []
  run_bad e = rw (chars-bad t e)

module _ (R : Repertoire) (s : List ℕ) where
  -- k, with what still joins p from i on, is the first cluster of s
  pub record Scanned (i p : ℕ) (k : Cluster) : Type 0 where
    pub sized : k.len ≡ i
    pub known : facts R (first_cluster R s) ≡ extended_by R k (run_of R p (chars (drop i s)))

  -- the scan is at the end of the cluster that it has
  pub scan_at : (i p : ℕ) (k : Cluster) → Scanned i p k → Scanned k.len p k
  scan_at i p k z = record { sized = refl; known = z.known ∙ ap (λ (n : ℕ). extended_by R k (run_of R p (chars (drop n s)))) (sym z.sized) }

  pub scan-start : (c n : ℕ) (k : Cluster) → first s ≡ char c n → k ≡ single R c n → Scanned n c k
  scan-start c n k e q =
      let w = (first-within s c n e).sized in
      let same : facts R (c ∷ []) ≡ k = sym (q ∙ ap (single R c) w ∙ facts-single R c) in
      record {
        sized = ap (λ (x : Cluster). x.len) q;
        known =
            ap (λ (l : List ℕ). facts R (head_or [] (clusters R l))) (chars_step s c n e) ∙ ap (facts R) (clusters_head R c (chars (drop n s))) ∙
            facts-append R c [] (run_of R c (chars (drop n s))) ∙ ap (λ (x : Cluster). extended_by R x (run_of R c (chars (drop n s)))) same;
      }

  pub scan_none : first s ≡ bad → facts R [] ≡ facts R (first_cluster R s)
  scan_none e = ap (λ (l : List (List ℕ)). facts R (head_or [] l)) (sym (clusters_none R s e))

  module _ (i p : ℕ) (k : Cluster) (z : Scanned i p k) where
    -- c joins
    pub scan_more : (c n : ℕ) (k' : Cluster) → first (drop i s) ≡ char c n → joined R p c ≡ true → k' ≡ extended R k c n → Scanned (i + n) c k'
    scan_more c n k' e j q =
        let w = (first-within (drop i s) c n e).sized in
        let x = z.sized in
        record {
          sized = ap (λ (x : Cluster). x.len) q ∙ ap (λ (x : ℕ). x + n) z.sized;
          known =
              z.known ∙ ap (extended_by R k) (run_in R (drop i s) p c n e j) ∙
              ap (λ (x : Cluster). extended_by R x (run_of R c (chars (drop n (drop i s))))) (sym (q ∙ ap (extended R k c) w)) ∙
              ap (λ (l : List ℕ). extended_by R k' (run_of R c (chars l))) (drop-drop n i s);
        }

    -- c does not, or no character is left
    pub scan_break : (c n : ℕ) → first (drop i s) ≡ char c n → joined R p c ≡ false → k ≡ facts R (first_cluster R s)
    scan_break c n e j = sym (z.known ∙ ap (extended_by R k) (run_out R (drop i s) p c n e j))

    pub scan-end : first (drop i s) ≡ bad → k ≡ facts R (first_cluster R s)
    scan-end e = sym (z.known ∙ ap (extended_by R k) (run_bad R (drop i s) p e))
