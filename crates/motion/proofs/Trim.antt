-- White space at the end of a text, from its end backward, and the first alphanumeric cluster. Assumes nothing.
use mathlib.Core.Path.{◌≡◌, refl, sym, ap, subst, ◌∙◌}
use mathlib.Core.Bool.{true, false, cond, ◌&&◌}
use mathlib.Core.List.{List, [], ◌∷◌, ◌++◌}
use Prim.Native.Nat.{ℕ, ◌+◌, ◌<◌, ◌≤◌}
use native.Mathlib.Omega.{arith}
use borrow.Author.Tests.{ne_eqb}
use lib.Dec.{eqb}
use lib.ListN.{length, take, drop}
use lib.Seq.{drop-drop, length-take-le}
use Rattle.std.specs.Prelude.{Option, None, Some}
use Rattle.utf8.specs.Utf8.{char, first}
use Rattle.utf8.specs.Chars.{chars_from, chars, boundary, EndsAt}
use Rattle.utf8.specs.Encode.{size}
use Rattle.utf8.proofs.Chars.{size_pos}
use Rattle.utf8.proofs.Forms.{first-end}
use Rattle.utf8.proofs.Ends.{chars-before}
use Rattle.repertoire.specs.Repertoire.{Repertoire}
use Rattle.cluster.specs.Clusters.{clusters_of, first_cluster, bytes, first_size}
use Rattle.cluster.specs.Facts.{facts}
use Rattle.cluster.specs.declared.Cluster.{Cluster}
use Rattle.cluster.proofs.Parts.{bytes-all}
use Rattle.cluster.proofs.Facts.{bytes-append}
use Rattle.cluster.proofs.Clusters.{clusters_none}
use Rattle.cluster.proofs.Steps.{step_some, step_none}
use Rattle.motion.specs.Trim.{trimmed, trim_end, first_alnum}

module _ (R : Repertoire) where
  trimmed-white : (cs : List ℕ) (c : ℕ) → R.white c ≡ true → trimmed R (cs ++ (c ∷ [])) ≡ trimmed R cs
  unfolding trimmed
  trimmed-white [] c w = rw w
  trimmed-white (d ∷ cs) c w = ap (λ (x : ℕ). cond (eqb x 0 && R.white d) 0 (size d + x)) (trimmed-white cs c w)

  trimmed_other : (cs : List ℕ) (c : ℕ) → R.white c ≡ false → trimmed R (cs ++ (c ∷ [])) ≡ bytes (cs ++ (c ∷ []))
  unfolding trimmed
  trimmed_other [] c w = rw w
  trimmed_other (d ∷ cs) c w =
      let h = trimmed_other cs c w in
      let p : 0 < trimmed R (cs ++ (c ∷ [])) = (let b = bytes-append cs (c ∷ []) in let q = size_pos c in omega arith) in
      let z : trimmed R (cs ++ (c ∷ [])) ≡ 0 → ⊥ = λ e. omega arith in
      rw (ne_eqb _ 0 z) (ap (λ (x : ℕ). size d + x) h)

  module _ (s : List ℕ) where
    -- the character before at is white space
    pub trim_more : (at i c n : ℕ) → EndsAt s at i → first (drop i s) ≡ char c n → R.white c ≡ true → trim_end R (take at s) ≡ trim_end R (take i s)
    trim_more at i c n z e w = ap (trimmed R) (chars-before s at i c n z e) ∙ trimmed-white (chars (take i s)) c w

    -- it is not
    pub trim_stop : (at i c n : ℕ) → boundary s at ≡ true → at ≤ length s → EndsAt s at i → first (drop i s) ≡ char c n → R.white c ≡ false →
        trim_end R (take at s) ≡ at
    trim_stop at i c n b h z e w =
        let q = chars-before s at i c n z e in
        ap (trimmed R) q ∙ trimmed_other (chars (take i s)) c w ∙ ap bytes (sym q) ∙ bytes-all (take at s) b ∙ length-take-le at s h

    pub trim_start : trim_end R (take 0 s) ≡ 0
    unfolding chars_from trimmed
    trim_start = refl

    -- ---- the first alphanumeric cluster from at on
    abbrev pub alnum_from : ℕ → Option ℕ
    alnum_from at = first_alnum R at (clusters_of R (drop at s))

    module _ (at : ℕ) (k : Cluster) (e : k ≡ facts R (first_cluster R (drop at s))) where
      step : 0 < k.len → clusters_of R (drop at s) ≡ first_cluster R (drop at s) ∷ clusters_of R (drop (at + k.len) s)
      step h =
          let l : k.len ≡ first_size R (drop at s) = ap (λ (x : Cluster). x.len) e in
          let f : 0 < first_size R (drop at s) = subst (λ (x : ℕ). 0 < x) l h in
          step_some R (drop at s) f ∙ ap (λ (x : ℕ). first_cluster R (drop at s) ∷ clusters_of R (drop x (drop at s))) (sym l) ∙
          ap (λ (x : List ℕ). first_cluster R (drop at s) ∷ clusters_of R x) (drop-drop k.len at s)

      pub alnum_here : 0 < k.len → k.alnum ≡ true → alnum_from at ≡ Some at
      unfolding first_alnum
      alnum_here h w =
          let a = ap (λ (x : Cluster). x.alnum) e in
          ap (first_alnum R at) (step h) ∙ rw (sym a ∙ w)

      pub alnum-later : 0 < k.len → k.alnum ≡ false → alnum_from at ≡ alnum_from (at + k.len)
      unfolding first_alnum
      alnum-later h w =
          let a = ap (λ (x : Cluster). x.alnum) e in
          let l : k.len ≡ first_size R (drop at s) = ap (λ (x : Cluster). x.len) e in
          ap (first_alnum R at) (step h) ∙ rw (sym a ∙ w) (ap (λ (x : ℕ). first_alnum R (at + x) (clusters_of R (drop (at + k.len) s))) (sym l))

      pub alnum_none : k.len ≡ 0 → alnum_from at ≡ None
      unfolding first_alnum
      alnum_none z = ap (first_alnum R at) (step_none R (drop at s) (sym (ap (λ (x : Cluster). x.len) e) ∙ z))

    pub alnum-end : (at : ℕ) → length s ≤ at → alnum_from at ≡ None
    unfolding first_alnum
    alnum-end at h = ap (first_alnum R at) (clusters_none R (drop at s) (first-end s at h))
