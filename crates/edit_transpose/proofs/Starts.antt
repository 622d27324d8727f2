-- Where transpose_chars begins, and whether there are two clusters. Assumes nothing.
use Prim.Native.Nat.{ℕ, ◌≤◌, ◌<◌}
use native.Mathlib.Omega.{arith}
use mathlib.Core.Path.{◌≡◌, sym, ap, ◌∙◌}
use mathlib.Core.Bool.{Bool, true, false, cond, ◌||◌}
use mathlib.Core.List.{List, ◌∷◌}
use lib.Dec.{eqb, ltb, leb}
use lib.ListN.{length}
use borrow.Author.Tests.{lt-leb, le-leb, le-ltb}
use Rattle.std.specs.Prelude.{None, Some}
use Rattle.lists.proofs.Bools.{by_less}
use Rattle.utf8.specs.Chars.{valid}
use Rattle.repertoire.specs.Repertoire.{Repertoire}
use Rattle.cluster.specs.Clusters.{clusters_of, first_cluster, first_size}
use Rattle.cluster.specs.Facts.{facts}
use Rattle.cluster.specs.declared.Cluster.{Cluster}
use Rattle.cluster.proofs.Steps.{step_none, step_one, step_two}
use Rattle.motion_words.specs.Places.{back_from}
use Rattle.edit_transpose.specs.TransposeChars.{starts_at}

-- ---- fewer than two clusters: the first one is the whole text
module _ (R : Repertoire) (t : List ℕ) where
  abbrev m : ℕ
  m = first_size R t

  none_two : m ≡ 0 → length t ≤ m → leb (length t) m ≡ ltb (length (clusters_of R t)) 2
  none_two z l = le-leb (length t) m l ∙ sym (ap (λ (ks : List (List ℕ)). ltb (length ks) 2) (step_none R t z))

  one-two : 0 < m → length t ≤ m → leb (length t) m ≡ ltb (length (clusters_of R t)) 2
  one-two h l =
      le-leb (length t) m l ∙ sym (ap (λ (ks : List (List ℕ)). ltb (length ks) 2) (step_one R t h l))

  more_two : valid t ≡ true → m < length t → leb (length t) m ≡ ltb (length (clusters_of R t)) 2
  more_two v l =
      step_two R (leb (length t) m ≡ ltb (length (clusters_of R t)) 2) t v l
      (λ k ks s.
      let n : 2 ≤ length (first_cluster R t ∷ (k ∷ ks)) = omega arith in
      lt-leb (length t) m l ∙ sym (ap (λ (x : List (List ℕ)). ltb (length x) 2) s ∙ le-ltb (length (first_cluster R t ∷ (k ∷ ks))) 2 n))

  pub under-two : valid t ≡ true → (k : Cluster) → k ≡ facts R (first_cluster R t) → leb (length t) k.len ≡ ltb (length (clusters_of R t)) 2
  under-two v k e =
      ap (λ (x : Cluster). leb (length t) x.len) e
      ∙ by_less (leb (length t) m ≡ ltb (length (clusters_of R t)) 2) m (length t) (λ l. more_two v l)
      (λ l. by_less (leb (length t) m ≡ ltb (length (clusters_of R t)) 2) 0 m (λ h. one-two h l) (λ h. none_two (omega arith) l))

-- ---- where transpose_chars begins
module _ (R : Repertoire) (t : List ℕ) (pos : ℕ) where
  pub starts_nowhere : (x : Bool) → x ≡ ltb (length (clusters_of R t)) 2 → (eqb pos 0 || x) ≡ true → None ≡ starts_at R t pos
  unfolding starts_at
  starts_nowhere x e h = sym (ap (λ (y : Bool). cond (eqb pos 0 || y) None (Some (cond (eqb pos (length t)) (back_from R t pos) pos))) (sym e) ∙ rw h)

  module _ (x : Bool) (e : x ≡ ltb (length (clusters_of R t)) 2) (h : (eqb pos 0 || x) ≡ false) where
    rest : starts_at R t pos ≡ Some (cond (eqb pos (length t)) (back_from R t pos) pos)
    unfolding starts_at
    rest = ap (λ (y : Bool). cond (eqb pos 0 || y) None (Some (cond (eqb pos (length t)) (back_from R t pos) pos))) (sym e) ∙ rw h

    pub starts-back : eqb pos (length t) ≡ true → (p : ℕ) → p ≡ back_from R t pos → Some p ≡ starts_at R t pos
    starts-back f p g = sym (rest ∙ rw (f, g))

    pub starts_here : eqb pos (length t) ≡ false → Some pos ≡ starts_at R t pos
    starts_here f = sym (rest ∙ rw f)
