-- Places that steps and searches reach: of a text and a boundary in it, they lie in the text and are boundaries. Assumes nothing.
use mathlib.Core.Path.{◌≡◌, refl, sym, ap, subst, ◌∙◌}
use mathlib.Core.Bool.{Bool, true, false, cond, ◌||◌}
use mathlib.Core.List.{List, [], ◌∷◌, ◌++◌, map, append_assoc}
use Prim.Native.Nat.{ℕ, zero, suc, ◌+◌, ◌-◌, ◌≤◌}
use native.Mathlib.Omega.{arith}
use lib.Dec.{eqb, leb}
use lib.ListN.{length, take, drop, length-drop}
use lib.Seq.{length-take-le}
use Rattle.std.specs.Prelude.{Option, None, Some}
use Rattle.std.specs.Option.{option_map}
use Rattle.lists.specs.Lists.{all, sum, concat}
use Rattle.lists.proofs.Bools.{by_less, by_test}
use Rattle.utf8.specs.Chars.{chars, valid, boundary, start_before}
use Rattle.utf8.specs.Encode.{size}
use Rattle.utf8.proofs.Append.{valid-cut}
use Rattle.utf8.proofs.Boundary.{boundary-zero, boundary-drop, boundary-take, start_none, start-le, start-before}
use Rattle.repertoire.specs.Repertoire.{Repertoire}
use Rattle.cluster.specs.Clusters.{clusters_of, bytes}
use Rattle.cluster.proofs.Clusters.{clusters-concat}
use Rattle.cluster.proofs.Facts.{bytes-append}
use Rattle.cluster.proofs.Parts.{cut_chars}
use Rattle.keymap.specs.declared.CharSearch.{CharSearch}
use Rattle.keymap.specs.declared.CharSearch.TheVariants.{Forward, ForwardBefore, Backward, BackwardAfter}
use Rattle.motion.specs.Steps.{sizes, next_pos, prev_pos}
use Rattle.motion.specs.Trim.{first_alnum, skip_whitespace}
use Rattle.motion.specs.Search.{match_forward, match_backward, search_char_pos}
use Rattle.motion.proofs.Matches.{forward-stands, backward_stands}

-- ---- a text cut between two of its clusters
concat-cut : (n : ℕ) (ks : List (List ℕ)) → concat ks ≡ concat (take n ks) ++ concat (drop n ks)
concat-cut zero ks = refl
concat-cut (suc n) [] = refl
concat-cut (suc n) (k ∷ ks) =
    ap (λ (l : List ℕ). k ++ l) (concat-cut n ks) ∙ sym (append_assoc k (concat (take n ks)) (concat (drop n ks)))

sum_first : (n : ℕ) (ks : List (List ℕ)) → sum (take n (map bytes ks)) ≡ bytes (concat (take n ks))
sum_first zero ks = refl
sum_first (suc n) [] = refl
sum_first (suc n) (k ∷ ks) = let r = sum_first n ks in let b = bytes-append k (concat (take n ks)) in omega arith

pub sizes-place : (R : Repertoire) (t : List ℕ) (n : ℕ) → valid t ≡ true → (sum (take n (sizes R t)) ≤ length t) × (boundary t (sum (take n (sizes R t))) ≡ true)
unfolding sizes
sizes-place R t n v =
    let ks = clusters_of R t in
    let c = cut_chars t (concat (take n ks)) (concat (drop n ks)) v (sym (clusters-concat R (chars t)) ∙ concat-cut n ks) in
    rw (sum_first n ks) (c.fits, c.at-boundary)

-- ---- steps
pub second_at : (t : Bool) (x p : ℕ) → cond t None (Some x) ≡ Some p → (t ≡ false) × (x ≡ p)
second_at true x p e = let z : ◌≡◌ {A = ℕ} 0 1 = cc in absurd (omega arith)
second_at false x p e = (refl, cc)

pub next_pos_place : (R : Repertoire) (s : List ℕ) (pos n p : ℕ) → valid s ≡ true → boundary s pos ≡ true → pos ≤ length s → next_pos R s pos n ≡ Some p →
    (pos ≤ p) × (p ≤ length s) × (boundary s p ≡ true)
unfolding next_pos
next_pos_place R s pos n p v b h e =
    let j = sum (take n (sizes R (drop pos s))) in
    let q : pos + j ≡ p = (second_at (leb (length s) pos || eqb n 0) (pos + j) p e).1 in
    let c = sizes-place R (drop pos s) n (sym (valid-cut s pos b) ∙ v) in
    let l : j ≤ length s - pos = rw length-drop at c.0 in
    (omega arith, omega arith, ap (boundary s) (sym q) ∙ boundary-drop s pos j b ∙ c.1)

pub prev_pos_place : (R : Repertoire) (s : List ℕ) (pos n p : ℕ) → valid s ≡ true → boundary s pos ≡ true → pos ≤ length s → prev_pos R s pos n ≡ Some p →
    (p ≤ pos) × (boundary s p ≡ true)
unfolding prev_pos
prev_pos_place R s pos n p v b h e =
    let t = take pos s in
    let k = length (sizes R t) - n in
    let q : sum (take k (sizes R t)) ≡ p = (second_at (eqb pos 0 || eqb n 0) (sum (take k (sizes R t))) p e).1 in
    let c : (p ≤ length t) × (boundary t p ≡ true) = subst (λ (i : ℕ). (i ≤ length t) × (boundary t i ≡ true)) q (sizes-place R t k b) in
    let l : p ≤ pos = rw (length-take-le pos s h) at c.0 in
    (l, boundary-take s pos p l ∙ c.1)

-- ---- searches
at_moved : (P : ℕ → Type 0) (g : ℕ → ℕ) (f : Option ℕ) (p : ℕ) → option_map g f ≡ Some p → ((q : ℕ) → f ≡ Some q → P (g q)) → P p
at_moved P g (Some q) p e k = let z : g q ≡ p = cc in subst P z (k q refl)
at_moved P g None p e k = let z : ◌≡◌ {A = ℕ} 0 1 = cc in absurd (omega arith)

-- where the character before a boundary starts; 0 where there is none
start-place : (s : List ℕ) (i : ℕ) → valid s ≡ true → boundary s i ≡ true → i ≤ length s →
    (start_before s i ≤ length s) × (boundary s (start_before s i) ≡ true)
start-place s i v b h =
    let l = start-le s i in
    by_less _ 0 i (λ g. (omega arith, (start-before s i v b g h).start))
    (λ g. (omega arith, ap (boundary s) (start_none s i g) ∙ boundary-zero s))

forward-place : (R : Repertoire) (s : List ℕ) (pos c n p : ℕ) → valid s ≡ true → boundary s pos ≡ true → pos ≤ length s → match_forward R s pos c n ≡ Some p →
    (p ≤ length s) × (boundary s p ≡ true)
forward-place R s pos c n p v b h e = let z = (forward-stands R s pos c n p v b h e).1 in let f = z.fits in (omega arith, z.at-boundary)

pub search-place : (R : Repertoire) (s : List ℕ) (pos : ℕ) (cs : CharSearch) (n p : ℕ) → valid s ≡ true → boundary s pos ≡ true → pos ≤ length s →
    search_char_pos R s pos cs n ≡ Some p → (p ≤ length s) × (boundary s p ≡ true)
search-place R s pos (Forward c) n p v b h e = forward-place R s pos c n p v b h e
search-place R s pos (ForwardBefore c) n p v b h e =
    at_moved (λ i. (i ≤ length s) × (boundary s i ≡ true)) (start_before s) (match_forward R s pos c n) p e
    (λ q f. let z = forward-place R s pos c n q v b h f in start-place s q v z.1 z.0)
search-place R s pos (Backward c) n p v b h e =
    let z = (backward_stands s pos c n p b h e).1 in
    let f = z.fits in
    (omega arith, z.at-boundary)
search-place R s pos (BackwardAfter c) n p v b h e =
    at_moved (λ i. (i ≤ length s) × (boundary s i ≡ true)) (λ q. q + size c) (match_backward s pos c n) p e
    (λ q f. let z = (backward_stands s pos c n q b h f).1 in (z.fits, z.behind))

-- the cluster that is found starts behind some of the clusters
alnum-sum : (R : Repertoire) (at p : ℕ) (ks : List (List ℕ)) → first_alnum R at ks ≡ Some p → (n : ℕ) × (p ≡ at + sum (take n (map bytes ks)))
unfolding first_alnum
alnum-sum R at p [] e = let o : ◌≡◌ {A = ℕ} 0 1 = cc in absurd (omega arith)
alnum-sum R at p (k ∷ ks) e =
    by_test _ (all R.alnum k)
    (λ a.
    let f : Some at ≡ Some p = sym (rw a) ∙ e in
    let q : at ≡ p = cc in
    (0, omega arith))
    (λ a.
    let f : first_alnum R (at + bytes k) ks ≡ Some p = sym (rw a) ∙ e in
    let r = alnum-sum R (at + bytes k) p ks f in
    let q = r.1 in
    (suc r.0, omega arith))

pub skip_place : (R : Repertoire) (s : List ℕ) (pos p : ℕ) → valid s ≡ true → boundary s pos ≡ true → pos ≤ length s → skip_whitespace R s pos ≡ Some p →
    (pos ≤ p) × (p ≤ length s) × (boundary s p ≡ true)
unfolding skip_whitespace sizes
skip_place R s pos p v b h e =
    let w : valid (drop pos s) ≡ true = sym (valid-cut s pos b) ∙ v in
    let r = alnum-sum R pos p (clusters_of R (drop pos s)) e in
    let z = sizes-place R (drop pos s) r.0 w in
    let q = r.1 in
    let f = z.0 in
    let l = length-drop pos s in
    (omega arith, omega arith, ap (boundary s) q ∙ boundary-drop s pos (sum (take r.0 (sizes R (drop pos s)))) b ∙ z.1)
