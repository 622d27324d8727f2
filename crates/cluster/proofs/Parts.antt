-- A text cut between two of its clusters: both parts are texts with the clusters that lie in them. Assumes nothing.
use mathlib.Core.Path.{◌≡◌, refl, sym, ap, subst, ◌∙◌}
use mathlib.Core.Bool.{true}
use mathlib.Core.List.{List, [], ◌∷◌, ◌++◌}
use Prim.Native.Nat.{ℕ, ◌+◌, ◌-◌, ◌<◌, ◌≤◌}
use native.Mathlib.Omega.{arith}
use lib.ListN.{length, take, drop, length-append}
use lib.Seq.{take_at, drop_at}
use Rattle.lists.specs.Lists.{all, concat, head_or, last_or}
use Rattle.lists.proofs.Alls.{all_append}
use Rattle.lists.proofs.Bools.{and_both, never}
use Rattle.lists.proofs.Ends.{last_snoc}
use Rattle.utf8.specs.Chars.{chars, valid, boundary}
use Rattle.utf8.specs.Encode.{scalar, encode, encode_all}
use Rattle.utf8.proofs.Chars.{chars_step, valid-bad, size_pos}
use Rattle.utf8.proofs.Append.{by_first}
use Rattle.utf8.proofs.Encode.{size-encode, encode_all-append, chars-encode, valid-encode, encode-chars, chars-scalar}
use Rattle.repertoire.specs.Repertoire.{Repertoire}
use Rattle.cluster.specs.Clusters.{clusters, clusters_of, first_cluster, last_cluster, bytes, first_size}
use Rattle.cluster.proofs.Clusters.{run_of, chars-drop, clusters_some, clusters_head, clusters-concat, clusters_last}
use Rattle.cluster.proofs.Facts.{bytes-append}

pub bytes-length : (cs : List ℕ) → length (encode_all cs) ≡ bytes cs
unfolding encode_all
bytes-length [] = refl
bytes-length (c ∷ cs) = let h = bytes-length cs in let l = length-append (encode c) (encode_all cs) in omega (arith, size-encode c)

-- the bytes of a text's characters are all of it
pub bytes-all : (t : List ℕ) → valid t ≡ true → bytes (chars t) ≡ length t
bytes-all t v = sym (bytes-length (chars t)) ∙ ap length (encode-chars t v)

-- a text cut behind some of its characters
pub record Cut (t us vs : List ℕ) : Type 0 where
  pub fits : bytes us ≤ length t
  pub at-boundary : boundary t (bytes us) ≡ true
  pub front : chars (take (bytes us) t) ≡ us
  pub back : chars (drop (bytes us) t) ≡ vs
  pub whole : length t ≡ bytes us + bytes vs

pub cut_chars : (t us vs : List ℕ) → valid t ≡ true → chars t ≡ us ++ vs → Cut t us vs
cut_chars t us vs v e =
    let b : length (encode_all us) ≡ bytes us = bytes-length us in
    let s : t ≡ encode_all us ++ encode_all vs = sym (encode-chars t v) ∙ ap encode_all e ∙ encode_all-append us vs in
    let f : take (bytes us) t ≡ encode_all us = ap (take (bytes us)) s ∙ take_at (encode_all us) (encode_all vs) (bytes us) b in
    let g : drop (bytes us) t ≡ encode_all vs = ap (drop (bytes us)) s ∙ drop_at (encode_all us) (encode_all vs) (bytes us) b in
    let l : length t ≡ bytes us + bytes vs = sym (bytes-all t v) ∙ ap bytes e ∙ bytes-append us vs in
    let p = and_both (all scalar us) (all scalar vs) (sym (all_append scalar us vs) ∙ ap (all scalar) (sym e) ∙ chars-scalar t) in
    record {
      fits = omega arith;
      at-boundary = ap valid f ∙ valid-encode us p.0;
      front = ap chars f ∙ chars-encode us p.0;
      back = ap chars g ∙ chars-encode vs p.1;
      whole = l;
    }

bytes_some : (cs : List ℕ) → 0 < length cs → 0 < bytes cs
bytes_some [] h = absurd (omega arith)
bytes_some (c ∷ cs) h = let p = size_pos c in omega arith

-- a text that is not empty has a first character
some_char : (P : Type 0) (t : List ℕ) → valid t ≡ true → 0 < length t → ((c : ℕ) (cs : List ℕ) → chars t ≡ c ∷ cs → P) → P
some_char P t v h f = by_first P t (λ c n e. f c (chars (drop n t)) (chars_step t c n e)) (λ e. never P (valid t) v (valid-bad t e h))

head_concat : (ks : List (List ℕ)) → 0 < length ks → concat ks ≡ head_or [] ks ++ concat (drop 1 ks)
head_concat [] h = absurd (omega arith)
head_concat (k ∷ ks) h = refl

module _ (R : Repertoire) (t : List ℕ) (v : valid t ≡ true) (h : 0 < length t) where
  -- the first cluster of a text that is not empty
  pub record FirstCut : Type 0 where
    pub some : 0 < first_size R t
    pub cut : Cut t (first_cluster R t) (chars (drop (first_size R t) t))

  pub first-cut : FirstCut
  first-cut =
      some_char _ t v h
      (λ c cs e.
      let ks = clusters_of R t in
      let s : chars t ≡ head_or [] ks ++ concat (drop 1 ks) =
      sym (clusters-concat R (chars t)) ∙ head_concat ks (subst (λ (l : List ℕ). 0 < length (clusters R l)) (sym e) (clusters_some R c cs))
      in
      let d : chars (drop (bytes (head_or [] ks)) t) ≡ concat (drop 1 ks) = chars-drop (head_or [] ks) (concat (drop 1 ks)) t s in
      let k : head_or [] ks ≡ c ∷ run_of R c cs = ap (λ (l : List ℕ). head_or [] (clusters R l)) e ∙ clusters_head R c cs in
      record {
        some = rw k (let p = size_pos c in omega arith);
        cut = cut_chars t (head_or [] ks) _ v (s ∙ ap (λ (l : List ℕ). head_or [] ks ++ l) (sym d));
      })

  -- k is the last cluster
  pub record LastCut (k : List ℕ) : Type 0 where
    pub some : 0 < bytes k
    pub fits : bytes k ≤ length t
    pub at-boundary : boundary t (length t - bytes k) ≡ true
    pub last-cluster : clusters_of R t ≡ clusters_of R (take (length t - bytes k) t) ++ (k ∷ [])

  pub last_cut : LastCut (last_cluster R t)
  last_cut =
      some_char _ t v h
      (λ c cs e.
      let l = clusters_last R c cs in
      let s : clusters_of R t ≡ clusters R l.front ++ (l.final ∷ []) = ap (clusters R) e ∙ l.last-cluster in
      let f : last_cluster R t ≡ l.final = ap (last_or []) s ∙ last_snoc [] (clusters R l.front) l.final in
      let z = cut_chars t l.front l.final v (e ∙ l.parts) in
      let w = z.whole in
      let n : length t - bytes l.final ≡ bytes l.front = omega arith in
      subst LastCut (sym f)
      (record {
        some = bytes_some l.final l.some;
        fits = omega arith;
        at-boundary = rw n z.at-boundary;
        last-cluster = s ∙ ap (λ (x : List ℕ). clusters R x ++ (l.final ∷ [])) (sym (ap (λ (x : ℕ). chars (take x t)) n ∙ z.front));
      }))
