-- A text of one cluster, all alphanumeric. Assumes nothing.
use Prim.Native.Nat.{ℕ, ◌≤◌, ◌<◌}
use native.Mathlib.Omega.{arith}
use mathlib.Core.Path.{◌≡◌, sym, ap, ap₂, ◌∙◌}
use mathlib.Core.Bool.{Bool, true, false, ◌&&◌}
use mathlib.Core.List.{List}
use lib.Dec.{ltb, eqb}
use lib.ListN.{length}
use borrow.Author.Tests.{lt-ltb, le-ltb, eq-eqb, ne_eqb}
use Rattle.lists.specs.Lists.{all}
use Rattle.lists.proofs.Bools.{by_less}
use Rattle.repertoire.specs.Repertoire.{Repertoire}
use Rattle.repertoire.specs.Text.{is_text}
use Rattle.repertoire.proofs.Text.{text-valid}
use Rattle.cluster.specs.Clusters.{clusters_of, first_cluster, first_size}
use Rattle.cluster.specs.Facts.{facts}
use Rattle.cluster.specs.declared.Cluster.{Cluster}
use Rattle.cluster.proofs.Steps.{step_none, step_one, step_two}
use Rattle.log_model.specs.Recording.{is_single}

module _ (R : Repertoire) (t : List ℕ) where
  abbrev m : ℕ
  m = first_size R t

  abbrev told : Bool
  told = (ltb 0 (length t) && eqb m (length t)) && all R.alnum (first_cluster R t)

  -- no cluster
  none_single : m ≡ 0 → told ≡ is_single R (clusters_of R t)
  none_single z =
      by_less (told ≡ is_single R (clusters_of R t)) 0 (length t)
      (λ h. ap₂ (λ (x y : Bool). (x && y) && all R.alnum (first_cluster R t)) (lt-ltb 0 (length t) h) (ne_eqb m (length t) (λ e. omega arith))
      ∙ sym (ap (is_single R) (step_none R t z)))
      (λ h. ap (λ (x : Bool). (x && eqb m (length t)) && all R.alnum (first_cluster R t)) (le-ltb 0 (length t) h) ∙ sym (ap (is_single R) (step_none R t z)))

  -- one
  one_single : 0 < m → m ≡ length t → told ≡ is_single R (clusters_of R t)
  one_single h e =
      let a : ltb 0 (length t) ≡ true = lt-ltb 0 (length t) (omega arith) in
      let b : eqb m (length t) ≡ true = eq-eqb m (length t) e in
      ap₂ (λ (x y : Bool). (x && y) && all R.alnum (first_cluster R t)) a b ∙ sym (ap (is_single R) (step_one R t h (omega arith)))

  -- more
  two-single : is_text R t ≡ true → m < length t → told ≡ is_single R (clusters_of R t)
  two-single v l =
      step_two R (told ≡ is_single R (clusters_of R t)) t (text-valid R t v) l
      (λ k ks s.
      let a : ltb 0 (length t) ≡ true = lt-ltb 0 (length t) (omega arith) in
      let b : eqb m (length t) ≡ false = ne_eqb m (length t) (λ f. omega arith) in
      ap₂ (λ (x y : Bool). (x && y) && all R.alnum (first_cluster R t)) a b ∙ sym (ap (is_single R) s))

  pub single : is_text R t ≡ true → (k : Cluster) → k ≡ facts R (first_cluster R t) → k.len ≤ length t
      → ((ltb 0 (length t) && eqb k.len (length t)) && k.alnum) ≡ is_single R (clusters_of R t)
  single v k e h =
      ap (λ (x : Cluster). (ltb 0 (length t) && eqb x.len (length t)) && x.alnum) e
      ∙ by_less (told ≡ is_single R (clusters_of R t)) 0 m
      (λ a. by_less (told ≡ is_single R (clusters_of R t)) m (length t) (λ b. two-single v b) (λ b. one_single a (omega (arith, ap (λ (x : Cluster). x.len) e))))
      (λ a. none_single (omega arith))
