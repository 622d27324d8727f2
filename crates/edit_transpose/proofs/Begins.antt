-- The place from which transpose_chars cuts. Assumes nothing.
use Prim.Native.Nat.{ℕ}
use native.Mathlib.Omega.{arith}
use mathlib.Core.Path.{◌≡◌, sym, ap, subst, ◌∙◌}
use mathlib.Core.Bool.{true, ◌||◌}
use mathlib.Core.List.{List}
use lib.Dec.{eqb, ltb}
use lib.ListN.{length}
use Rattle.std.specs.Prelude.{Option, None, Some}
use Rattle.lists.proofs.Bools.{by_test}
use Rattle.utf8.specs.Chars.{valid, In}
use Rattle.repertoire.specs.Repertoire.{Repertoire}
use Rattle.cluster.specs.Clusters.{clusters_of}
use Rattle.motion.specs.Steps.{or_stay}
use Rattle.edit.specs.Plan.{nothing}
use Rattle.motion_words.specs.Places.{back_from}
use Rattle.edit_transpose.specs.TransposeChars.{starts_at, exchange, exchange_at}
use Rattle.motion_words.proofs.Stays.{back_place}

module _ (R : Repertoire) (t : List ℕ) (v : valid t ≡ true) (pos : ℕ) (i : In t pos pos) where
  start_in : In t (or_stay pos (starts_at R t pos)) (or_stay pos (starts_at R t pos))
  unfolding starts_at
  start_in =
      by_test (In t (or_stay pos (starts_at R t pos)) (or_stay pos (starts_at R t pos))) (eqb pos 0 || ltb (length (clusters_of R t)) 2) (λ e. rw e i)
      (λ e. by_test (In t (or_stay pos (starts_at R t pos)) (or_stay pos (starts_at R t pos))) (eqb pos (length t)) (λ f. rw (e, f) back) (λ f. rw (e, f) i))
    where
      back : In t (back_from R t pos) (back_from R t pos)
      back = let b = back_place R t v pos i.2 i.1 in let c = b.0 in let d = i.1 in (omega arith, omega arith, b.1, b.1)

  pub starts_in : (f : Option ℕ) (p : ℕ) → f ≡ starts_at R t pos → f ≡ Some p → In t p p
  starts_in f p e g = subst (λ (x : Option ℕ). In t (or_stay pos x) (or_stay pos x)) (sym e ∙ g) start_in

-- the plan by what was found
module _ (R : Repertoire) (t : List ℕ) (pos : ℕ) (f : Option ℕ) (e : f ≡ starts_at R t pos) where
  pub plan_at : (p : ℕ) → f ≡ Some p → exchange R t p ≡ exchange_at R t pos (starts_at R t pos)
  plan_at p g = sym (ap (exchange_at R t pos) (sym e ∙ g))

  pub plan_none : f ≡ None → nothing pos ≡ exchange_at R t pos (starts_at R t pos)
  plan_none g = sym (ap (exchange_at R t pos) (sym e ∙ g))
