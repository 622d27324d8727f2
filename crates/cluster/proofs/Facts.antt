-- The facts of a cluster, character by character. Assumes nothing.
use mathlib.Core.Path.{◌≡◌, refl, sym, ap, ◌∙◌}
use mathlib.Core.Bool.{Bool, false, ◌&&◌, ◌||◌, and-true, or-false, and_comm, or_comm}
use mathlib.Core.List.{List, [], ◌∷◌, ◌++◌, map, append_assoc, append-nil}
use Prim.Native.Nat.{ℕ, ◌+◌}
use native.Mathlib.Omega.{arith}
use Rattle.lists.specs.Lists.{all, any, sum, concat}
use Rattle.lists.proofs.Alls.{all_append, any_append}
use Rattle.utf8.specs.Encode.{size}
use Rattle.repertoire.specs.Repertoire.{Repertoire}
use Rattle.cluster.specs.Clusters.{bytes}
use Rattle.cluster.specs.Facts.{is_underscore, facts, single, extended}
use Rattle.cluster.specs.declared.Cluster.{Cluster}

pub bytes-append : (a b : List ℕ) → bytes (a ++ b) ≡ bytes a + bytes b
bytes-append [] b = omega arith
bytes-append (c ∷ a) b = let h = bytes-append a b in omega arith

-- the bytes of some clusters
pub sum-bytes : (ks : List (List ℕ)) → sum (map bytes ks) ≡ bytes (concat ks)
sum-bytes [] = refl
sum-bytes (k ∷ ks) = let h = sum-bytes ks in let b = bytes-append k (concat ks) in omega arith

same : {l m : ℕ} {a b c d e f : Bool} → l ≡ m → a ≡ b → c ≡ d → e ≡ f →
    ◌≡◌ {A = Cluster} (record { len = l; alnum = a; white = c; underscore = e }) (record { len = m; alnum = b; white = d; underscore = f })
same p q r s = cc

module _ (R : Repertoire) where
  pub facts-single : (c : ℕ) → single R c (size c) ≡ facts R (c ∷ [])
  facts-single c = same (omega arith) (sym (and-true (R.alnum c))) (sym (or-false (R.white c))) refl

  -- one character more in front
  pub facts_cons : (c d : ℕ) (cs : List ℕ) → extended R (facts R (d ∷ cs)) c (size c) ≡ facts R (c ∷ (d ∷ cs))
  facts_cons c d cs =
      same (omega arith) (and_comm (all R.alnum (d ∷ cs)) (R.alnum c)) (or_comm (any R.white (d ∷ cs)) (R.white c)) refl

  no_underscore : (c : ℕ) (cs : List ℕ) (d : ℕ) → ◌≡◌ {A = Bool} false (is_underscore ((c ∷ cs) ++ (d ∷ [])))
  no_underscore c [] d = refl
  no_underscore c (e ∷ cs) d = refl

  -- one character more behind
  pub facts_snoc : (c : ℕ) (cs : List ℕ) (d : ℕ) → extended R (facts R (c ∷ cs)) d (size d) ≡ facts R ((c ∷ cs) ++ (d ∷ []))
  facts_snoc c cs d =
      same (let h = bytes-append (c ∷ cs) (d ∷ []) in omega arith)
      (sym (all_append R.alnum (c ∷ cs) (d ∷ []) ∙ ap (λ (b : Bool). all R.alnum (c ∷ cs) && b) (and-true (R.alnum d))))
      (sym (any_append R.white (c ∷ cs) (d ∷ []) ∙ ap (λ (b : Bool). any R.white (c ∷ cs) || b) (or-false (R.white d))))
      (no_underscore c cs d)

  -- some characters more behind
  abbrev pub extended_by : Cluster → List ℕ → Cluster
  extended_by k [] = k
  extended_by k (c ∷ cs) = extended_by (extended R k c (size c)) cs

  pub facts-append : (c : ℕ) (cs ds : List ℕ) → facts R ((c ∷ cs) ++ ds) ≡ extended_by (facts R (c ∷ cs)) ds
  facts-append c cs [] = ap (facts R) (append-nil (c ∷ cs))
  facts-append c cs (d ∷ ds) =
      ap (facts R) (sym (append_assoc (c ∷ cs) (d ∷ []) ds)) ∙ facts-append c (cs ++ (d ∷ [])) ds ∙ ap (λ (k : Cluster). extended_by k ds) (sym (facts_snoc c cs d))
