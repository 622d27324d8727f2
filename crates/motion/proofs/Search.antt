-- Searches, one character at a time. Assumes nothing.
use mathlib.Core.Path.{◌≡◌, refl, sym, ap, ◌∙◌}
use mathlib.Core.Bool.{Bool, true, false, cond}
use mathlib.Core.List.{List, [], ◌∷◌, ◌++◌, reverse, reverse-append}
use Prim.Native.Nat.{ℕ, zero, suc, ◌+◌, ◌-◌, ◌<◌, ◌≤◌}
use native.Mathlib.Omega.{arith}
use borrow.Author.Tests.{eq-eqb, ne_eqb}
use lib.Dec.{eqb}
use lib.ListN.{length, take, drop}
use lib.Seq.{drop-drop, length-take-le}
use Rattle.std.specs.Prelude.{Option, Some}
use Rattle.utf8.specs.Utf8.{char, bad, first}
use Rattle.utf8.specs.Chars.{chars_from, chars, EndsAt}
use Rattle.utf8.specs.Encode.{size}
use Rattle.utf8.proofs.Chars.{first-within, chars_step, chars-bad}
use Rattle.utf8.proofs.Ends.{chars-before}
use Rattle.cluster.specs.Clusters.{bytes}
use Rattle.cluster.proofs.Parts.{bytes-all}
use Rattle.motion.specs.Search.{matches, last_found}

-- nothing is left to find
pub found_zero : (f : Option ℕ) (ps : List ℕ) (left : ℕ) → left ≡ 0 → last_found f (take left ps) ≡ f
found_zero f ps left z = rw z

found_none : (f : Option ℕ) (left : ℕ) → last_found f (take left []) ≡ f
found_none f zero = refl
found_none f (suc n) = refl

found_more : (f : Option ℕ) (p : ℕ) (ps : List ℕ) (left : ℕ) → 0 < left → last_found f (take left (p ∷ ps)) ≡ last_found (Some p) (take (left - 1) ps)
found_more f p ps zero h = absurd (omega arith)
found_more f p ps (suc m) h = let q : suc m - 1 ≡ m = omega arith in rw q

pub found_same : (f g : Option ℕ) (l m : ℕ) (ps : List ℕ) → g ≡ f → m ≡ l → last_found f (take l ps) ≡ last_found g (take m ps)
found_same f g l m ps p q = cc

-- ---- forward
module _ (s : List ℕ) (c : ℕ) where
  abbrev pub ahead : ℕ → List ℕ
  ahead i = matches c i (chars (drop i s))

  module _ (at d n : ℕ) (e : first (drop at s) ≡ char d n) where
    ahead_step : ahead at ≡ cond (eqb d c) (at ∷ ahead (at + n)) (ahead (at + n))
    unfolding matches
    ahead_step =
        let w = (first-within (drop at s) d n e).sized in
        ap (matches c at) (chars_step (drop at s) d n e) ∙
        ap (λ (x : ℕ). cond (eqb d c) (at ∷ matches c (at + x) (chars (drop n (drop at s)))) (matches c (at + x) (chars (drop n (drop at s))))) (sym w) ∙
        ap (λ (l : List ℕ). cond (eqb d c) (at ∷ matches c (at + n) (chars l)) (matches c (at + n) (chars l))) (drop-drop n at s)

    pub ahead_in : (f : Option ℕ) (left : ℕ) → d ≡ c → 0 < left → last_found f (take left (ahead at)) ≡ last_found (Some at) (take (left - 1) (ahead (at + n)))
    ahead_in f left q h = ap (λ (l : List ℕ). last_found f (take left l)) (ahead_step ∙ rw (eq-eqb d c q)) ∙ found_more f at (ahead (at + n)) left h

    pub ahead_out : (f : Option ℕ) (left : ℕ) → (d ≡ c → ⊥) → last_found f (take left (ahead at)) ≡ last_found f (take left (ahead (at + n)))
    ahead_out f left q = ap (λ (l : List ℕ). last_found f (take left l)) (ahead_step ∙ rw (ne_eqb d c q))

  pub ahead_end : (at : ℕ) (f : Option ℕ) (left : ℕ) → first (drop at s) ≡ bad → last_found f (take left (ahead at)) ≡ f
  unfolding matches
  ahead_end at f left e = ap (λ (l : List ℕ). last_found f (take left (matches c at l))) (chars-bad (drop at s) e) ∙ found_none f left

-- ---- backward
one_match : ℕ → ℕ → ℕ → List ℕ
one_match c at d = cond (eqb d c) (at ∷ []) []

cond-append : (b : Bool) (x : ℕ) (l m : List ℕ) → cond b (x ∷ (l ++ m)) (l ++ m) ≡ cond b (x ∷ l) l ++ m
cond-append true x l m = refl
cond-append false x l m = refl

matches_snoc : (c at d : ℕ) (us : List ℕ) → matches c at (us ++ (d ∷ [])) ≡ matches c at us ++ one_match c (at + bytes us) d
unfolding matches one_match
matches_snoc c at d [] = ap (λ (x : ℕ). cond (eqb d c) (x ∷ []) []) (let q : at ≡ at + 0 = omega arith in q)
matches_snoc c at d (u ∷ us) =
    let q : at + size u + bytes us ≡ at + (size u + bytes us) = omega arith in
    ap (λ (l : List ℕ). cond (eqb u c) (at ∷ l) l) (matches_snoc c (at + size u) d us) ∙
    cond-append (eqb u c) at (matches c (at + size u) us) (one_match c (at + size u + bytes us) d) ∙
    ap (λ (x : ℕ). cond (eqb u c) (at ∷ matches c (at + size u) us) (matches c (at + size u) us) ++ one_match c x d) q

module _ (s : List ℕ) (c : ℕ) where
  abbrev pub behind : ℕ → List ℕ
  behind i = reverse (matches c 0 (chars (take i s)))

  module _ (at i d n : ℕ) (z : EndsAt s at i) (e : first (drop i s) ≡ char d n) (l : i ≤ length s) where
    behind_step : behind at ≡ reverse (one_match c i d) ++ behind i
    behind_step =
        let b : 0 + bytes (chars (take i s)) ≡ i = (let h = bytes-all (take i s) z.start in let m = length-take-le i s l in omega arith) in
        ap (λ (x : List ℕ). reverse (matches c 0 x)) (chars-before s at i d n z e) ∙ ap reverse (matches_snoc c 0 d (chars (take i s))) ∙
        ap (λ (x : ℕ). reverse (matches c 0 (chars (take i s)) ++ one_match c x d)) b ∙
        reverse-append (matches c 0 (chars (take i s))) (one_match c i d)

    pub behind_in : (f : Option ℕ) (left : ℕ) → d ≡ c → 0 < left → last_found f (take left (behind at)) ≡ last_found (Some i) (take (left - 1) (behind i))
    unfolding one_match
    behind_in f left q h =
        ap (λ (x : List ℕ). last_found f (take left x)) (behind_step ∙ rw (eq-eqb d c q)) ∙ found_more f i (behind i) left h

    pub behind-out : (f : Option ℕ) (left : ℕ) → (d ≡ c → ⊥) → last_found f (take left (behind at)) ≡ last_found f (take left (behind i))
    unfolding one_match
    behind-out f left q = ap (λ (x : List ℕ). last_found f (take left x)) (behind_step ∙ rw (ne_eqb d c q))

  pub behind-end : (f : Option ℕ) (left : ℕ) → last_found f (take left (behind 0)) ≡ f
  unfolding matches chars_from
  behind-end f left = found_none f left
