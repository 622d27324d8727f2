-- Where word motions land: in the text, at boundaries of it. Every grapheme index of a part starts at a place of it behind some of its characters,
-- and a landing is such a place, or 0. Assumes nothing.
use mathlib.Core.Path.{◌≡◌, refl, sym, ap, subst, ◌∙◌}
use mathlib.Core.Bool.{Bool, true, false, cond}
use mathlib.Core.List.{List, [], ◌∷◌, ◌++◌, reverse, append_assoc}
use Prim.Native.Nat.{ℕ, zero, suc, ◌+◌, ◌-◌, ◌≤◌}
use native.Mathlib.Omega.{arith}
use lib.Dec.{eqb}
use lib.ListN.{length, take, drop, length-drop}
use lib.Seq.{length-take-le}
use Rattle.std.specs.Prelude.{Option, None, Some}
use Rattle.lists.specs.Lists.{concat}
use Rattle.lists.proofs.Bools.{by_test}
use Rattle.lists.proofs.Parts.{part-tail}
use Rattle.lists.proofs.Every.{Every, every_drop, every_reverse}
use Rattle.utf8.specs.Chars.{chars, valid, boundary}
use Rattle.utf8.specs.Encode.{size}
use Rattle.utf8.proofs.Chars.{first-within, chars_cons}
use Rattle.utf8.proofs.Append.{valid-cut}
use Rattle.utf8.proofs.Boundary.{boundary_end, boundary-drop, boundary-take}
use Rattle.repertoire.specs.Repertoire.{Repertoire}
use Rattle.cluster.specs.Clusters.{clusters_of, bytes}
use Rattle.cluster.proofs.Clusters.{clusters-concat}
use Rattle.cluster.proofs.Facts.{bytes-append}
use Rattle.cluster.proofs.Parts.{cut_chars}
use Rattle.keymap.specs.declared.Word.{Word}
use Rattle.keymap.specs.declared.At.{At}
use Rattle.motion_words.specs.declared.Landing.{Landing}
use Rattle.motion_words.specs.Rules.{lands_behind}
use Rattle.motion_words.specs.Walk.{GraphemeIndex, indices_from, grapheme_indices, Scan, hit, out, scan, onward, walk}
use Rattle.motion_words.specs.Words.{stops, is_start, lands_on, lands, passed, next_word, no_word, landed, next_word_pos, starts_back}
use Rattle.motion_words.specs.Words.{lands_back, prev_word, prev_word_pos}

-- ---- what holds at the start of each grapheme index holds of a landing
module _ (P : ℕ → Type 0) where
  abbrev Start : GraphemeIndex → Type 0
  Start m = P m.start

  -- of both places of a landing
  abbrev Both : Landing → Type 0
  Both l = P l.found × P l.last

  module _ (stops : GraphemeIndex → GraphemeIndex → Bool) (lands : GraphemeIndex → GraphemeIndex → ℕ) (h : (x y : GraphemeIndex) → P x.start → P
      y.start → P (lands x y)) (z : P 0) where
    abbrev Scanned : Scan → Type 0
    Scanned (hit p ms) = P p × Every Start ms
    Scanned (out l) = P l

    scan_each : (x : GraphemeIndex) (ms : List GraphemeIndex) → P x.start → Every Start ms → Scanned (scan stops lands x ms)
    unfolding scan
    scan_each x [] p e = p
    scan_each x (y ∷ ms) p e =
        by_test _ (stops x y) (λ t. rw t (h x y p e.0, e.1)) (λ t. rw t (scan_each y ms e.0 e.1))

    onward_each : (f : List GraphemeIndex → ℕ → Landing) → ((ms : List GraphemeIndex) (p : ℕ) → Every Start ms → P p → Both (f ms p)) →
        (s : Scan) → Scanned s → Both (onward stops lands f s)
    onward_each f g (hit p ms) e = g ms p e.1 e.0
    onward_each f g (out l) e = (z, e)

    walk_each : (n : ℕ) (ms : List GraphemeIndex) (p : ℕ) → Every Start ms → P p → Both (walk stops lands n ms p)
    unfolding walk
    walk_each zero ms p e q = (q, z)
    walk_each (suc n) [] p e q = (z, z)
    walk_each (suc n) (x ∷ ms) p e q = onward_each (walk stops lands n) (λ gs k f g. walk_each n gs k f g) (scan stops lands x ms) (scan_each x ms e.0 e.1)

  -- what holds behind any of the first characters of a part holds at each of its grapheme indices
  module _ (R : Repertoire) (t : List ℕ) (h : (us vs : List ℕ) → chars t ≡ us ++ vs → P (bytes us)) where
    from_each : (us : List ℕ) (ks : List (List ℕ)) → chars t ≡ us ++ concat ks → Every Start (indices_from R (bytes us) ks)
    unfolding indices_from
    from_each us [] e = tt
    from_each us (k ∷ ks) e = (
      h us (k ++ concat ks) e,
      subst (λ (i : ℕ). Every Start (indices_from R i ks)) (bytes-append us k) (from_each (us ++ k) ks (e ∙ sym (append_assoc us k (concat ks)))),
    )

    indices_each : Every Start (grapheme_indices R t)
    unfolding grapheme_indices
    indices_each = from_each [] (clusters_of R t) (sym (clusters-concat R (chars t)))

    lands_each : (at : At) (w : Word) (x y : GraphemeIndex) → P x.start → P y.start → P (lands at w x y)
    unfolding lands_on
    lands_each at w x y p q =
        by_test _ (is_start at) (λ a. rw a q) (λ a. by_test _ (lands_behind at w) (λ b. rw (a, b) q) (λ b. rw (a, b) p))

    next_each : (at : At) (w : Word) (n : ℕ) → Both (next_word R t at w n)
    unfolding next_word
    next_each at w n =
        let z = h [] (chars t) refl in
        walk_each (stops at w) (lands at w) (lands_each at w) z n (drop (passed at) (grapheme_indices R t)) 0
        (every_drop Start (passed at) (grapheme_indices R t) indices_each) z

    prev_each : (w : Word) (n : ℕ) → P (prev_word R t w n)
    unfolding prev_word
    prev_each w n =
        let z = h [] (chars t) refl in
        (walk_each (starts_back w) lands_back (λ x y p q. p) z n (reverse (grapheme_indices R t)) 0
        (every_reverse Start (grapheme_indices R t) indices_each) z).0

-- ---- of any part, a landing lies in it
bytes_fit : (us vs t : List ℕ) → chars t ≡ us ++ vs → bytes us ≤ length t
bytes_fit [] vs t e = omega arith
bytes_fit (c ∷ us) vs t e =
    let p = chars_cons t c (us ++ vs) e in
    let w = (first-within t c (size c) p.0).fits in
    let h = bytes_fit us vs (drop (size c) t) p.1 in
    omega (arith, length-drop (size c) t)

pub landing_fits : (R : Repertoire) (s : List ℕ) (pos : ℕ) (at : At) (w : Word) (n : ℕ) (r : Landing) → pos ≤ length s →
    r ≡ next_word R (take (length s - pos) (drop pos s)) at w n → (r.found + pos ≤ length s) × (r.last + pos ≤ length s)
landing_fits R s pos at w n r h e =
    let t = drop pos s in
    let q : r ≡ next_word R t at w n = e ∙ ap (λ (l : List ℕ). next_word R l at w n) (part-tail s pos) in
    let b = next_each (λ (i : ℕ). i ≤ length t) R t (λ us vs f. bytes_fit us vs t f) at w n in
    let f : r.found ≤ length t = subst (λ (l : Landing). l.found ≤ length t) (sym q) b.0 in
    let l : r.last ≤ length t = subst (λ (l : Landing). l.last ≤ length t) (sym q) b.1 in
    (omega (arith, length-drop pos s), omega (arith, length-drop pos s))

-- ---- of a text, it is a boundary
abbrev AtBoundary : List ℕ → ℕ → Type 0
AtBoundary t i = (i ≤ length t) × (boundary t i ≡ true)

boundary-chars : (t : List ℕ) → valid t ≡ true → (us vs : List ℕ) → chars t ≡ us ++ vs → AtBoundary t (bytes us)
boundary-chars t v us vs e = let c = cut_chars t us vs v e in (c.fits, c.at-boundary)

by_cond : (P : Type 0) (b : Bool) (x y z : Option ℕ) → cond b x y ≡ z → (x ≡ z → P) → (y ≡ z → P) → P
by_cond P true x y z e f g = f e
by_cond P false x y z e f g = g e

at_same : (i p : ℕ) → Some i ≡ Some p → i ≡ p
at_same i p e = cc

at_never : (P : Type 0) (p : ℕ) → None ≡ Some p → P
at_never P p e = let z : ◌≡◌ {A = ℕ} 0 1 = cc in absurd (omega arith)

-- from pos on
abbrev Ahead : List ℕ → ℕ → ℕ → Type 0
Ahead s pos p = (pos ≤ p) × (p ≤ length s) × (boundary s p ≡ true)

ahead : (s : List ℕ) (pos i p : ℕ) → boundary s pos ≡ true → pos ≤ length s → AtBoundary (drop pos s) i → Some (i + pos) ≡ Some p → Ahead s pos p
ahead s pos i p b h e q =
    let l : i ≤ length s - pos = rw length-drop at e.0 in
    let z : i + pos ≡ p = at_same (i + pos) p q in
    let y : pos + i ≡ p = omega arith in
    (omega arith, omega arith, ap (boundary s) (sym y) ∙ boundary-drop s pos i b ∙ e.1)

at-end : (s : List ℕ) (pos p : ℕ) → valid s ≡ true → pos ≤ length s → Some (length s) ≡ Some p → Ahead s pos p
at-end s pos p v h q =
    let z : length s ≡ p = at_same (length s) p q in
    (omega arith, omega arith, ap (boundary s) (sym z) ∙ boundary_end s v)

pub next-word-place : (R : Repertoire) (s : List ℕ) (pos : ℕ) (at : At) (w : Word) (n p : ℕ) → valid s ≡ true → boundary s pos ≡ true → pos ≤ length s →
    next_word_pos R s pos at w n ≡ Some p → (pos ≤ p) × (p ≤ length s) × (boundary s p ≡ true)
unfolding next_word_pos landed no_word
next-word-place R s pos at w n p v b h e =
    let t = drop pos s in
    let l = next_word R t at w n in
    let k = next_each (AtBoundary t) R t (boundary-chars t (sym (valid-cut s pos b) ∙ v)) at w n in
    by_cond _ (eqb pos (length s)) _ _ _ e (at_never _ p)
    (λ f.
    by_cond _ (eqb l.found 0) _ _ _ f
    (λ g.
    by_cond _ (lands_behind at w) _ _ _ g (at-end s pos p v h)
    (λ d. by_cond _ (eqb l.last 0) _ _ _ d (at_never _ p) (ahead s pos l.last p b h k.1)))
    (ahead s pos l.found p b h k.0))

pub prev_word-place : (R : Repertoire) (s : List ℕ) (pos : ℕ) (w : Word) (n p : ℕ) → valid s ≡ true → boundary s pos ≡ true → pos ≤ length s →
    prev_word_pos R s pos w n ≡ Some p → (p ≤ pos) × (boundary s p ≡ true)
unfolding prev_word_pos
prev_word-place R s pos w n p v b h e =
    let t = take pos s in
    let k = prev_each (AtBoundary t) R t (boundary-chars t b) w n in
    by_cond _ (eqb pos 0) _ _ _ e (at_never _ p)
    (λ f.
    let j : AtBoundary t p = subst (AtBoundary t) (at_same (prev_word R t w n) p f) k in
    let l : p ≤ pos = rw (length-take-le pos s h) at j.0 in
    (l, boundary-take s pos p l ∙ j.1))
