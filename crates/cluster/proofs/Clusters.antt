-- Laws of clusters, over any repertoire: the first cluster and the clusters of the rest, a break, the last cluster. Assumes nothing.
use mathlib.Core.Path.{◌≡◌, refl, sym, ap, ◌∙◌}
use mathlib.Core.Bool.{Bool, true, false, cond}
use mathlib.Core.List.{List, [], ◌∷◌, ◌++◌}
use Prim.Native.Nat.{ℕ, ◌<◌}
use native.Mathlib.Omega.{arith}
use lib.ListN.{length, drop}
use lib.Seq.{drop-drop}
use Rattle.lists.specs.Lists.{concat, head_or}
use Rattle.lists.proofs.Bools.{by_test}
use Rattle.utf8.specs.Utf8.{char, bad, first}
use Rattle.utf8.specs.Chars.{chars}
use Rattle.utf8.specs.Encode.{size}
use Rattle.utf8.proofs.Chars.{chars_step, chars-bad, chars_cons}
use Rattle.repertoire.specs.Repertoire.{Repertoire}
use Rattle.cluster.specs.Clusters.{joined, attach, clusters, clusters_of, first_cluster, bytes, first_size}

concat-attach : (b : Bool) (c : ℕ) (ks : List (List ℕ)) → concat (attach b c ks) ≡ c ∷ concat ks
concat-attach true c [] = refl
concat-attach true c (k ∷ ks) = refl
concat-attach false c ks = refl

attach_some : (b : Bool) (c : ℕ) (ks : List (List ℕ)) → 0 < length (attach b c ks)
attach_some true c [] = omega arith
attach_some true c (k ∷ ks) = omega arith
attach_some false c ks = omega arith

attach-append : (b : Bool) (c : ℕ) (ks ls : List (List ℕ)) → 0 < length ks → attach b c (ks ++ ls) ≡ attach b c ks ++ ls
attach-append true c [] ls h = absurd (omega arith)
attach-append true c (k ∷ ks) ls h = refl
attach-append false c ks ls h = refl

-- the characters after some of them
pub chars-drop : (us vs t : List ℕ) → chars t ≡ us ++ vs → chars (drop (bytes us) t) ≡ vs
chars-drop [] vs t e = e
chars-drop (c ∷ us) vs t e =
    let p = chars_cons t c (us ++ vs) e in
    ap chars (sym (drop-drop (bytes us) (size c) t)) ∙ chars-drop us vs (drop (size c) t) p.1

module _ (R : Repertoire) where
  -- the characters that join p, one after the other
  abbrev pub run_of : ℕ → List ℕ → List ℕ
  run_of p [] = []
  run_of p (c ∷ cs) = cond (joined R p c) (c ∷ run_of c cs) []

  -- no break anywhere between these characters
  abbrev pub Linked : List ℕ → Type 0
  Linked [] = Unit {0}
  Linked (c ∷ []) = Unit {0}
  Linked (c ∷ (d ∷ cs)) = (joined R c d ≡ true) × Linked (d ∷ cs)

  pub clusters_some : (c : ℕ) (cs : List ℕ) → 0 < length (clusters R (c ∷ cs))
  unfolding clusters
  clusters_some c [] = omega arith
  clusters_some c (d ∷ cs) = attach_some (joined R c d) c (clusters R (d ∷ cs))

  -- the clusters, one behind the other, are the characters
  pub clusters-concat : (cs : List ℕ) → concat (clusters R cs) ≡ cs
  unfolding clusters
  clusters-concat [] = refl
  clusters-concat (c ∷ []) = refl
  clusters-concat (c ∷ (d ∷ cs)) =
      concat-attach (joined R c d) c (clusters R (d ∷ cs)) ∙ ap (λ (l : List ℕ). c ∷ l) (clusters-concat (d ∷ cs))

  -- ---- the first cluster
  head_attach : (b : Bool) (c : ℕ) (ks : List (List ℕ)) → head_or [] (attach b c ks) ≡ c ∷ cond b (head_or [] ks) []
  head_attach true c [] = refl
  head_attach true c (k ∷ ks) = refl
  head_attach false c ks = refl

  pub clusters_head : (c : ℕ) (cs : List ℕ) → head_or [] (clusters R (c ∷ cs)) ≡ c ∷ run_of c cs
  unfolding clusters
  clusters_head c [] = refl
  clusters_head c (d ∷ cs) =
      head_attach (joined R c d) c (clusters R (d ∷ cs)) ∙ ap (λ (l : List ℕ). c ∷ cond (joined R c d) l []) (clusters_head d cs)

  -- the clusters of what follows the first cluster are the clusters that follow it
  abbrev Rest : List (List ℕ) → Type 0
  Rest [] = Unit {0}
  Rest (k ∷ ks) = clusters R (concat ks) ≡ ks

  rest-attach : (b : Bool) (c : ℕ) (ks : List (List ℕ)) → clusters R (concat ks) ≡ ks → Rest ks → Rest (attach b c ks)
  rest-attach true c [] e r = e
  rest-attach true c (k ∷ ks) e r = r
  rest-attach false c ks e r = e

  rest : (cs : List ℕ) → Rest (clusters R cs)
  unfolding clusters
  rest [] = tt
  rest (c ∷ []) = refl
  rest (c ∷ (d ∷ cs)) = rest-attach (joined R c d) c (clusters R (d ∷ cs)) (ap (clusters R) (clusters-concat (d ∷ cs))) (rest (d ∷ cs))

  split_at : (ks : List (List ℕ)) (t : List ℕ) → chars t ≡ concat ks → clusters_of R t ≡ ks → Rest ks → 0 < length ks →
      clusters_of R t ≡ head_or [] ks ∷ clusters_of R (drop (bytes (head_or [] ks)) t)
  split_at [] t f e r h = absurd (omega arith)
  split_at (k ∷ ks) t f e r h = e ∙ ap (λ (l : List (List ℕ)). k ∷ l) (sym (ap (clusters R) (chars-drop k (concat ks) t f) ∙ r))

  -- the first cluster of a part, then the clusters of what is left of it
  pub clusters_step : (t : List ℕ) (c n : ℕ) → first t ≡ char c n →
      clusters_of R t ≡ first_cluster R t ∷ clusters_of R (drop (first_size R t) t)
  clusters_step t c n e =
      split_at (clusters_of R t) t (sym (clusters-concat (chars t))) refl (rest (chars t)) (rw (chars_step t c n e) (clusters_some c (chars (drop n t))))

  pub clusters_none : (t : List ℕ) → first t ≡ bad → clusters_of R t ≡ []
  unfolding clusters
  clusters_none t e = rw (chars-bad t e)

  -- ---- a break between two characters breaks the clusters
  pub clusters_break : (us : List ℕ) (p c : ℕ) (cs : List ℕ) → joined R p c ≡ false →
      clusters R ((us ++ (p ∷ [])) ++ (c ∷ cs)) ≡ clusters R (us ++ (p ∷ [])) ++ clusters R (c ∷ cs)
  unfolding clusters
  clusters_break [] p c cs e = rw e
  clusters_break (u ∷ []) p c cs e =
      ap (attach (joined R u p) u) (clusters_break [] p c cs e) ∙ attach-append (joined R u p) u (clusters R (p ∷ [])) (clusters R (c ∷ cs)) (omega arith)
  clusters_break (u ∷ (v ∷ us)) p c cs e =
      ap (attach (joined R u v) u) (clusters_break (v ∷ us) p c cs e) ∙
      attach-append (joined R u v) u (clusters R (v ∷ (us ++ (p ∷ [])))) (clusters R (c ∷ cs)) (clusters_some v (us ++ (p ∷ [])))

  pub clusters_linked : (c : ℕ) (cs : List ℕ) → Linked (c ∷ cs) → clusters R (c ∷ cs) ≡ (c ∷ cs) ∷ []
  unfolding clusters
  clusters_linked c [] l = refl
  clusters_linked c (d ∷ cs) l = rw (l.0, clusters_linked d cs l.1)

  -- ---- the last cluster: what stands before it has the clusters before it
  pub record Last (cs : List ℕ) : Type 0 where
    pub front : List ℕ
    pub final : List ℕ
    pub parts : cs ≡ front ++ final
    pub some : 0 < length final
    pub last-cluster : clusters R cs ≡ clusters R front ++ (final ∷ [])

  last_attach : (c d : ℕ) (cs front final : List ℕ) → (d ∷ cs) ≡ front ++ final → 0 < length final → clusters R (d ∷ cs) ≡ clusters R front ++ (final ∷ []) →
      Last (c ∷ (d ∷ cs))
  unfolding clusters
  last_attach c d cs [] final p n e =
      by_test _ (joined R c d)
      (λ j. record { front = []; final = c ∷ final; parts = ap (λ (l : List ℕ). c ∷ l) p; some = omega arith; last-cluster = rw (j, e) })
      (λ j. record { front = c ∷ []; final = final; parts = ap (λ (l : List ℕ). c ∷ l) p; some = n; last-cluster = rw (j, e) })
  last_attach c d cs (u ∷ us) final p n e =
      let q : d ≡ u = cc in
      record {
        front = c ∷ (u ∷ us);
        final = final;
        parts = ap (λ (l : List ℕ). c ∷ l) p;
        some = n;
        last-cluster =
            ap (attach (joined R c d) c) e ∙ attach-append (joined R c d) c (clusters R (u ∷ us)) (final ∷ []) (clusters_some u us) ∙
            ap (λ (x : ℕ). attach (joined R c x) c (clusters R (u ∷ us)) ++ (final ∷ [])) q;
      }

  pub clusters_last : (c : ℕ) (cs : List ℕ) → Last (c ∷ cs)
  unfolding clusters
  clusters_last c [] = record { front = []; final = c ∷ []; parts = refl; some = omega arith; last-cluster = refl }
  clusters_last c (d ∷ cs) =
      let l = clusters_last d cs in
      last_attach c d cs l.front l.final l.parts l.some l.last-cluster
