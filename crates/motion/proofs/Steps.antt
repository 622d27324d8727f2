-- Steps over clusters, forward and backward, one at a time. Assumes nothing.
use mathlib.Core.Path.{◌≡◌, sym, ap, subst, ◌∙◌}
use mathlib.Core.Bool.{true, or-true}
use mathlib.Core.List.{List, [], ◌∷◌, ◌++◌, map, map-append}
use Prim.Native.Nat.{ℕ, zero, suc, ◌+◌, ◌-◌, ◌<◌, ◌≤◌}
use native.Mathlib.Omega.{arith}
use borrow.Author.Tests.{le-leb, lt-leb, eq-eqb, ne_eqb}
use lib.ListN.{length, take, drop, length-append}
use lib.Seq.{drop-drop, take-nil, take-append-le, take_all, length-take-le}
use Rattle.std.specs.Prelude.{None, Some}
use Rattle.lists.specs.Lists.{sum}
use Rattle.utf8.specs.Chars.{chars, chars_from, boundary}
use Rattle.repertoire.specs.Repertoire.{Repertoire}
use Rattle.cluster.specs.Clusters.{clusters_of, clusters, first_cluster, bytes, first_size}
use Rattle.cluster.proofs.Clusters.{clusters-concat}
use Rattle.cluster.proofs.Facts.{sum-bytes}
use Rattle.cluster.proofs.Parts.{bytes-all}
use Rattle.cluster.proofs.Steps.{step_some, step_none, Before}
use Rattle.motion.specs.Steps.{sizes, next_pos, prev_pos}

module _ (R : Repertoire) (s : List ℕ) where
  -- ---- forward: n is the length of the first cluster from at on
  pub forward_more : (at n left : ℕ) → n ≡ first_size R (drop at s) → 0 < n → 0 < left →
      at + sum (take left (sizes R (drop at s))) ≡ at + n + sum (take (left - 1) (sizes R (drop (at + n) s)))
  unfolding sizes
  forward_more at n zero e p h = absurd (omega arith)
  forward_more at n (suc m) e p h =
      let q : suc m - 1 ≡ m = omega arith in
      let f : 0 < first_size R (drop at s) = subst (λ (x : ℕ). 0 < x) e p in
      let z : clusters_of R (drop at s) ≡ first_cluster R (drop at s) ∷ clusters_of R (drop (at + n) s) =
      step_some R (drop at s) f ∙ ap (λ (x : ℕ). first_cluster R (drop at s) ∷ clusters_of R (drop x (drop at s))) (sym e) ∙
      ap (λ (l : List ℕ). first_cluster R (drop at s) ∷ clusters_of R l) (drop-drop n at s)
      in
      let t : sum (take (suc m) (map bytes (clusters_of R (drop at s)))) ≡ n + sum (take m (map bytes (clusters_of R (drop (at + n) s)))) =
      ap (λ (l : List (List ℕ)). sum (take (suc m) (map bytes l))) z ∙ ap (λ (x : ℕ). x + sum (take m (map bytes (clusters_of R (drop (at + n) s))))) (sym e)
      in
      rw q (omega arith)

  pub forward-end : (at n left : ℕ) → n ≡ first_size R (drop at s) → n ≡ 0 → at + sum (take left (sizes R (drop at s))) ≡ at
  unfolding sizes
  forward-end at n left e z =
      let q : clusters_of R (drop at s) ≡ [] = step_none R (drop at s) (sym e ∙ z) in
      let t : sum (take left (map bytes (clusters_of R (drop at s)))) ≡ 0 = ap (λ (l : List (List ℕ)). sum (take left (map bytes l))) q ∙ ap sum (take-nil left) in
      omega arith

  pub next_found : (pos n p : ℕ) → pos < length s → (n ≡ 0 → ⊥) → p ≡ pos + sum (take n (sizes R (drop pos s))) → Some p ≡ next_pos R s pos n
  unfolding next_pos
  next_found pos n p h z e = rw (lt-leb (length s) pos h, ne_eqb n 0 z, e)

  pub next-end : (pos n : ℕ) → length s ≤ pos → None ≡ next_pos R s pos n
  unfolding next_pos
  next-end pos n h = rw (le-leb (length s) pos h)

  pub next-zero : (pos n : ℕ) → n ≡ 0 → None ≡ next_pos R s pos n
  unfolding next_pos
  next-zero pos n z = simp (eq-eqb n 0 z, or-true)

  -- ---- backward: the clusters of the text before at
  abbrev back : ℕ → List ℕ
  back at = sizes R (take at s)

  back_last : (at n : ℕ) (k : List ℕ) → Before R s at n k → back at ≡ back (at - n) ++ (bytes k ∷ [])
  unfolding sizes
  back_last at n k z = ap (map bytes) z.last-cluster ∙ map-append bytes (clusters_of R (take (at - n) s)) (k ∷ [])

  pub backward_more : (at n left : ℕ) (k : List ℕ) → Before R s at n k → 0 < left →
      sum (take (length (back at) - left) (back at)) ≡ sum (take (length (back (at - n)) - (left - 1)) (back (at - n)))
  backward_more at n left k z h =
      let e = back_last at n k z in
      let l : length (back at) ≡ length (back (at - n)) + 1 = ap length e ∙ length-append (back (at - n)) (bytes k ∷ []) in
      let m : length (back at) - left ≡ length (back (at - n)) - (left - 1) = omega arith in
      ap (λ (x : ℕ). sum (take x (back at))) m ∙ ap (λ (x : List ℕ). sum (take (length (back (at - n)) - (left - 1)) x)) e ∙
      ap sum (take-append-le (length (back (at - n)) - (left - 1)) (back (at - n)) (bytes k ∷ []) (omega arith))

  pub backward_done : (at : ℕ) → boundary s at ≡ true → at ≤ length s → sum (take (length (back at) - 0) (back at)) ≡ at
  unfolding sizes
  backward_done at b h =
      let l : length (back at) - 0 ≡ length (back at) = omega arith in
      ap (λ (x : ℕ). sum (take x (back at))) l ∙ ap sum (take_all (length (back at)) (back at) (omega arith)) ∙
      sum-bytes (clusters_of R (take at s)) ∙ ap bytes (clusters-concat R (chars (take at s))) ∙ bytes-all (take at s) b ∙ length-take-le at s h

  pub backward_start : (left : ℕ) → sum (take (length (back 0) - left) (back 0)) ≡ 0
  unfolding sizes clusters chars_from
  backward_start left = ap sum (take-nil (0 - left))

  pub prev_found : (pos n p : ℕ) → (pos ≡ 0 → ⊥) → (n ≡ 0 → ⊥) → p ≡ sum (take (length (back pos) - n) (back pos)) → Some p ≡ prev_pos R s pos n
  unfolding prev_pos
  prev_found pos n p h z e = rw (ne_eqb pos 0 h, ne_eqb n 0 z, e)

  pub prev_start : (pos n : ℕ) → pos ≡ 0 → None ≡ prev_pos R s pos n
  unfolding prev_pos
  prev_start pos n h = rw (eq-eqb pos 0 h)

  pub prev_zero : (pos n : ℕ) → n ≡ 0 → None ≡ prev_pos R s pos n
  unfolding prev_pos
  prev_zero pos n z = simp (eq-eqb n 0 z, or-true)
