-- A place of a text is a character boundary exactly where no continuation byte stands. Assumes nothing.
use mathlib.Core.Path.{◌≡◌, refl, sym, ap, subst, ◌∙◌}
use mathlib.Core.Bool.{true, false, ◌&&◌, not}
use mathlib.Core.List.{List, [], ◌∷◌}
use mathlib.Core.Logic.{⊎_elim}
use Prim.Native.Nat.{ℕ, zero, suc, ◌+◌, ◌-◌, ◌<◌, ◌≤◌}
use native.Mathlib.Omega.{arith}
use Rattle.lists.proofs.Bools.{and_both, by_less, by_test}
use Rattle.lists.proofs.Parts.{drop-take}
use lib.Dec.{T, leb}
use lib.ListN.{length, get_or, take, drop, take-append-drop, length-take, length-drop}
use lib.Seq.{get_or-take, get_or-drop, take-nil, take-length, take-take, take-add}
use borrow.Author.Tests.{leb-true}
use Rattle.utf8.specs.Utf8.{char, bad, within, tail, one, two, lead3, three, lead4, four, or_else, first_of, first}
use Rattle.utf8.specs.Chars.{valid_from, valid, boundary, start_before, EndsAt}
use Rattle.utf8.proofs.Forms.{within_in, within-below, within-above}
use Rattle.utf8.proofs.Chars.{or_split, first-within, lead3_in, lead4_in, within_true, cond-char, valid_step, valid-bad}
use Rattle.utf8.proofs.Append.{by_first, same_first, first-append, valid-append, valid-cut}

-- the first byte of a character is no continuation byte, and each later one is
record Bytes (t : List ℕ) (n : ℕ) : Type 0 where
  lead : tail (get_or t 0 256) ≡ false
  later : (j : ℕ) → 0 < j → j < n → tail (get_or t j 256) ≡ true

no_later : (t : List ℕ) (n : ℕ) → n ≡ 1 → (j : ℕ) → 0 < j → j < n → tail (get_or t j 256) ≡ true
no_later t n e j l h = absurd (omega arith)

later-to : (t : List ℕ) (n : ℕ) → n ≤ 4 →
    (1 < n → tail (get_or t 1 256) ≡ true) → (2 < n → tail (get_or t 2 256) ≡ true) → (3 < n → tail (get_or t 3 256) ≡ true) →
    (j : ℕ) → 0 < j → j < n → tail (get_or t j 256) ≡ true
later-to t n e a b c zero l h = absurd (omega arith)
later-to t n e a b c (suc zero) l h = a h
later-to t n e a b c (suc (suc zero)) l h = b h
later-to t n e a b c (suc (suc (suc zero))) l h = c h
later-to t n e a b c (suc (suc (suc (suc j)))) l h = absurd (omega arith)

first-bytes : (t : List ℕ) (cp n : ℕ) → first t ≡ char cp n → Bytes t n
unfolding first first_of one two three four
first-bytes t cp n e =
    let a = get_or t 0 256 in
    let b = get_or t 1 256 in
    let c = get_or t 2 256 in
    let d = get_or t 3 256 in
    ⊎_elim
    (λ p. let q = cond-char (leb a 0x7F) a 1 cp n p in
    let h = leb-true a 0x7F q.0 in
    let w = q.2 in
    record { lead = within-below 0x80 0xBF a (omega arith); later = no_later t n (omega arith) })
    (λ r. ⊎_elim
    (λ p. let q = cond-char _ _ 2 cp n p in
    let x = and_both (within 0xC2 0xDF a) (tail b) q.0 in
    let h = within_true 0xC2 0xDF a x.0 in
    let w = q.2 in
    record { lead = within-above 0x80 0xBF a (omega arith); later = later-to t n (omega arith) (λ l. x.1) (λ l. absurd (omega arith)) (λ l. absurd (omega arith)) })
    (λ r2. ⊎_elim
    (λ p. let q = cond-char _ _ 3 cp n p in
    let x = and_both (lead3 a b) (tail c) q.0 in
    let h = lead3_in a b x.0 in
    let w = q.2 in
    record {
      lead = within-above 0x80 0xBF a (omega arith);
      later = later-to t n (omega arith) (λ l. within_in 0x80 0xBF b h.2 h.3) (λ l. x.1) (λ l. absurd (omega arith));
    })
    (λ r3. let q = cond-char _ _ 4 cp n r3.1 in
    let x = and_both (lead4 a b) (tail c && tail d) q.0 in
    let y = and_both (tail c) (tail d) x.1 in
    let h = lead4_in a b x.0 in
    let w = q.2 in
    record { lead = within-above 0x80 0xBF a (omega arith); later = later-to t n (omega arith) (λ l. within_in 0x80 0xBF b h.2 h.3) (λ l. y.0) (λ l. y.1) })
    (or_split (three a b c) (four a b c d) cp n r2.1))
    (or_split (two a b) (or_else (three a b c) (four a b c d)) cp n r.1))
    (or_split (one a) (or_else (two a b) (or_else (three a b c) (four a b c d))) cp n e)

-- a character that is cut short is none
cut-bad : (t : List ℕ) (cp n i : ℕ) → first t ≡ char cp n → i < n → first (take i t) ≡ bad
cut-bad t cp n i e h =
    by_first _ (take i t)
    (λ c m p.
    let q : first t ≡ char c m = rw take-append-drop at (first-append (take i t) (drop i t) c m p) in
    let same : m ≡ n = cc in
    let w = (first-within (take i t) c m p).fits in
    absurd (omega (arith, length-take i t)))
    (λ p. p)

never : (P : Type 0) (t : List ℕ) → valid t ≡ true → 0 < length t → first t ≡ bad → P
never P t v h e = absurd (subst T (sym v ∙ valid-bad t e h) tt)

boundary-at : (m : ℕ) (s : List ℕ) (i : ℕ) → length s ≤ m → valid s ≡ true → valid (take i s) ≡ not (tail (get_or s i 256))
unfolding valid_from within
boundary-at zero [] i l v = rw (take-nil i)
boundary-at (suc m) [] i l v = rw (take-nil i)
boundary-at zero (x ∷ s) i l v = absurd (omega arith)
boundary-at (suc m) (x ∷ s) zero l v =
    by_first _ (x ∷ s) (λ c n e. sym (ap not (first-bytes (x ∷ s) c n e).lead)) (never _ (x ∷ s) v (omega arith))
boundary-at (suc m) (x ∷ s) (suc i) l v =
    let t = x ∷ s in
    by_first _ t
    (λ c n e.
    let w = first-within t c n e in
    let w1 = w.some in
    let w2 = w.fits in
    by_less _ (suc i) n
    (λ h.
    valid-bad (take (suc i) t) (cut-bad t c n (suc i) e h) (omega arith) ∙ sym (ap not ((first-bytes t c n e).later (suc i) (omega arith) h)))
    (λ h.
    let f : first (take (suc i) t) ≡ char c n = same_first t (take (suc i) t) c n e (λ k q. get_or-take (suc i) t k 256 (omega arith)) in
    let r = boundary-at m (drop n t) (suc i - n) (omega (arith, length-drop n t)) (sym (valid_step t c n e) ∙ v) in
    let g : n + (suc i - n) ≡ suc i = omega arith in
    valid_step (take (suc i) t) c n f ∙ ap valid (drop-take n (suc i) t) ∙ r ∙
    ap (λ (y : ℕ). not (tail y)) (get_or-drop n t (suc i - n) 256 ∙ ap (λ (k : ℕ). get_or t k 256) g)))
    (never _ t v (omega arith))

-- a place of a text is a boundary exactly where no continuation byte stands
pub boundary_test : (s : List ℕ) (i : ℕ) → valid s ≡ true → boundary s i ≡ not (tail (get_or s i 256))
boundary_test s i v = boundary-at (length s) s i (omega arith) v

-- a character's end is a boundary
end_of : (t : List ℕ) (c n : ℕ) → first t ≡ char c n → boundary t n ≡ true
unfolding valid_from
end_of t c n e =
    let f : first (take n t) ≡ char c n = same_first t (take n t) c n e (λ k q. get_or-take n t k 256 q) in
    let z : n - n ≡ 0 = omega arith in
    let y : take (n - n) (drop n t) ≡ [] = rw z in
    valid_step (take n t) c n f ∙ ap valid (drop-take n n t ∙ y)

-- behind a boundary r, no boundary before the boundary i: one character
ends_at : (s : List ℕ) (i r : ℕ) → valid s ≡ true → boundary s i ≡ true → i ≤ length s → r < i → tail (get_or s r 256) ≡ false →
    ((k : ℕ) → r < k → k < i → tail (get_or s k 256) ≡ true) → EndsAt s i r
ends_at s i r v b l h t all =
    let start : boundary s r ≡ true = boundary_test s r v ∙ ap not t in
    let w : valid (drop r s) ≡ true = sym (valid-cut s r start) ∙ v in
    let d = drop r s in
    let ld = length-drop r s in
    by_first _ d
    (λ c n e.
    let f = first-within d c n e in
    let f1 = f.some in
    let f2 = f.fits in
    let cut : valid (take (i - r) d) ≡ true =
    boundary_test d (i - r) w ∙
    sym (ap (λ (y : ℕ). not (tail y)) (sym (get_or-drop r s (i - r) 256 ∙
    ap (λ (k : ℕ). get_or s k 256) (let g : r + (i - r) ≡ i = omega arith in g)))) ∙
    sym (boundary_test s i v) ∙ b
    in
    by_less _ n (i - r)
    (λ q. absurd (let z : tail (get_or s (r + n) 256) ≡ true = all (r + n) (omega arith) (omega arith) in
    let y : boundary d n ≡ true = end_of d c n e in
    let x : tail (get_or d n 256) ≡ true = ap tail (get_or-drop r s n 256) ∙ z in
    subst T (sym y ∙ boundary_test d n w ∙ ap not x) tt))
    (λ q. by_less _ (i - r) n
    (λ q2. absurd (subst T (sym cut ∙ valid-bad (take (i - r) d) (cut-bad d c n (i - r) e q2) (omega (arith, length-take (i - r) d))) tt))
    (λ q2. record { below = h; start = start; code = c; char_there = let g : n ≡ i - r = omega arith in rw g at e })))
    (never _ d w (omega arith))

-- ---- the last place before i where no continuation byte stands
pub start_none : (s : List ℕ) (i : ℕ) → i ≤ 0 → start_before s i ≡ 0
unfolding start_before
start_none s zero l = refl
start_none s (suc i) l = absurd (omega arith)

pub start_here : (s : List ℕ) (i : ℕ) → 0 < i → tail (get_or s (i - 1) 256) ≡ false → start_before s i ≡ i - 1
unfolding start_before
start_here s zero l t = absurd (omega arith)
start_here s (suc i) l t = let e : suc i - 1 ≡ i = omega arith in let u : tail (get_or s i 256) ≡ false = rw e at t in rw (u, e)

pub start_back : (s : List ℕ) (i : ℕ) → 0 < i → tail (get_or s (i - 1) 256) ≡ true → start_before s i ≡ start_before s (i - 1)
unfolding start_before
start_back s zero l t = absurd (omega arith)
start_back s (suc i) l t = let e : suc i - 1 ≡ i = omega arith in let u : tail (get_or s i 256) ≡ true = rw e at t in rw (u, e)

pub start-le : (s : List ℕ) (i : ℕ) → start_before s i ≤ i
unfolding start_before
start-le s zero = omega arith
start-le s (suc i) =
    by_test _ (tail (get_or s i 256)) (λ t. let r = start-le s i in rw t (omega arith)) (λ t. rw t (omega arith))

starts : (s : List ℕ) (i j : ℕ) → valid s ≡ true → boundary s i ≡ true → i ≤ length s → j ≤ i →
    ((k : ℕ) → j ≤ k → k < i → tail (get_or s k 256) ≡ true) → 0 < i → EndsAt s i (start_before s j)
unfolding start_before valid_from
starts s i zero v b l h all p = absurd (subst T (boundary_test s 0 v ∙ ap not (all 0 (omega arith) p)) tt)
starts s i (suc j) v b l h all p =
    by_test _ (tail (get_or s j 256))
    (λ t. rw t (starts s i j v b l (omega arith) (λ k a z. by_less _ j k (λ q. all k q z) (λ q. let e : j ≡ k = omega arith in rw e at t)) p))
    (λ t. rw t (ends_at s i j v b l (omega arith) t (λ k a z. all k a z)))

-- of a text, the character that ends at the boundary i starts there
pub start-before : (s : List ℕ) (i : ℕ) → valid s ≡ true → boundary s i ≡ true → 0 < i → i ≤ length s → EndsAt s i (start_before s i)
start-before s i v b p l = starts s i i v b l (omega arith) (λ k a z. absurd (omega arith)) p

-- ---- boundaries of a text and of its parts
pub boundary-zero : (s : List ℕ) → boundary s 0 ≡ true
unfolding valid_from
boundary-zero s = refl

pub boundary_end : (s : List ℕ) → valid s ≡ true → boundary s (length s) ≡ true
boundary_end s v = ap valid (take-length s) ∙ v

pub boundary-drop : (s : List ℕ) (i j : ℕ) → boundary s i ≡ true → boundary s (i + j) ≡ boundary (drop i s) j
boundary-drop s i j b = ap valid (take-add i j s) ∙ valid-append (take i s) (take j (drop i s)) b

pub boundary-take : (s : List ℕ) (i j : ℕ) → j ≤ i → boundary s j ≡ boundary (take i s) j
boundary-take s i j h = ap valid (sym (take-take j i s h))

pub boundary-next : (s : List ℕ) (i c n : ℕ) → boundary s i ≡ true → first (drop i s) ≡ char c n → boundary s (i + n) ≡ true
boundary-next s i c n b e = boundary-drop s i n b ∙ end_of (drop i s) c n e
