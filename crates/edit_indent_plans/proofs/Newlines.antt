-- The \n of a text: the last one at or after a place, and the lines that they split a text into. Assumes nothing.
use mathlib.Core.Path.{◌≡◌, refl, sym, ap, ◌∙◌}
use mathlib.Core.Bool.{true, false, cond}
use mathlib.Core.List.{List, [], ◌∷◌}
use Prim.Native.Nat.{ℕ, zero, suc, ◌+◌, ◌-◌, ◌<◌, ◌≤◌}
use native.Mathlib.Omega.{arith}
use native.Mathlib.Numerals.{add-one}
use lib.Dec.{eqb}
use lib.ListN.{length, get_or, take, drop, length-drop, drop_of_length-le}
use lib.Seq.{drop-cons, drop-drop, get_or-drop, take_all}
use borrow.Author.Tests.{eq-eqb, ne_eqb, eqb-true, eqb-false}
use Rattle.std.specs.List.{slice_split, onto_first}
use Rattle.lists.specs.Lists.{any}
use Rattle.lists.proofs.Bools.{by_test}
use Rattle.utf8.specs.Chars.{valid, boundary}
use Rattle.motion_lines.specs.Lines.{newline, before_newline, end_of_line}
use Rattle.motion_lines.proofs.Places.{end-place}
use Rattle.edit_indent_plans.specs.Touched.{before_last, last_newline, on_first, split_lines}

-- ---- the last \n
none_last : (x : List ℕ) → any newline x ≡ false → before_last x ≡ length x
unfolding before_last
none_last [] e = refl
none_last (b ∷ s) e =
    by_test _ (newline b)
    (λ t. absurd (let z : ◌≡◌ {A = ℕ} 0 1 = (let y : true ≡ false = rw t at e in cc) in omega arith))
    (λ t. rw t (ap suc (none_last s (rw t at e))))

last_le : (x : List ℕ) → before_last x ≤ length x
unfolding before_last
last_le [] = omega arith
last_le (b ∷ s) =
    let r = last_le s in
    by_test _ (newline b)
    (λ t. by_test _ (any newline s) (λ u. rw (t, u) (omega arith)) (λ u. rw (t, u) (omega arith)))
    (λ t. rw t (omega arith))

last_there : (x : List ℕ) → before_last x < length x → get_or x (before_last x) 256 ≡ 0x0A
unfolding before_last
last_there [] h = absurd (omega arith)
last_there (b ∷ s) h =
    by_test _ (newline b)
    (λ t. by_test _ (any newline s)
    (λ u. let g : suc (before_last s) < suc (length s) = rw (t, u) at h in rw (t, u) (last_there s (omega arith)))
    (λ u. rw (t, u) (eqb-true b 0x0A t)))
    (λ t. let g : suc (before_last s) < suc (length s) = rw t at h in rw t (last_there s (omega arith)))

module _ (s : List ℕ) where
  -- the last \n from i on, another place where there is none
  abbrev pub last_from : ℕ → ℕ → ℕ
  last_from i last = cond (any newline (drop i s)) (i + before_last (drop i s)) last

  pub last_all : (pos : ℕ) → pos ≤ length s → last_newline s pos ≡ last_from pos (length s)
  last_all pos h =
      by_test _ (any newline (drop pos s)) (λ t. rw t) (λ t. rw t (let b = none_last (drop pos s) t in omega (arith, length-drop pos s)))

  here : (i last : ℕ) → i < length s → get_or s i 256 ≡ 0x0A → last_from i last ≡ last_from (i + 1) i
  unfolding before_last
  here i last h e =
      ap (λ (x : List ℕ). cond (any newline x) (i + before_last x) last) (drop-cons s i 256 h)
      ∙ rw (eq-eqb (get_or s i 256) 0x0A e, add-one i)
      (by_test _ (any newline (drop (suc i) s)) (λ t. rw t (omega arith)) (λ t. rw t (omega arith)))

  on : (i last : ℕ) → i < length s → (get_or s i 256 ≡ 0x0A → ⊥) → last_from i last ≡ last_from (i + 1) last
  unfolding before_last
  on i last h e =
      ap (λ (x : List ℕ). cond (any newline x) (i + before_last x) last) (drop-cons s i 256 h)
      ∙ rw (ne_eqb (get_or s i 256) 0x0A e, add-one i)
      (by_test _ (any newline (drop (suc i) s)) (λ t. rw t (omega arith)) (λ t. rw t))

  -- the last one stands k places further
  last_further : (k i last : ℕ) → i + k < length s → get_or s (i + k) 256 ≡ 0x0A → any newline (drop (i + k + 1) s) ≡ false
      → last_from i last ≡ i + k
  last_further zero i last h e n =
      let z : i + 0 ≡ i = omega arith in
      let q : get_or s i 256 ≡ 0x0A = rw z at e in
      let m : any newline (drop (i + 1) s) ≡ false = rw z at n in
      here i last (omega arith) q ∙ rw m (omega arith)
  last_further (suc k) i last h e n =
      let z : i + suc k ≡ i + 1 + k = omega arith in
      let q : get_or s (i + 1 + k) 256 ≡ 0x0A = rw z at e in
      let m : any newline (drop (i + 1 + k + 1) s) ≡ false = rw z at n in
      by_test _ (eqb (get_or s i 256) 0x0A)
      (λ t. here i last (omega arith) (eqb-true _ _ t) ∙ last_further k (i + 1) i (omega arith) q m ∙ sym z)
      (λ t. on i last (omega arith) (eqb-false _ _ t) ∙ last_further k (i + 1) last (omega arith) q m ∙ sym z)

  pub last_at : (pos i : ℕ) → pos ≤ i → i < length s → get_or s i 256 ≡ 0x0A → any newline (drop (i + 1) s) ≡ false → i ≡ last_newline s pos
  last_at pos i p h e n =
      let z : pos + (i - pos) ≡ i = omega arith in
      let q : get_or s (pos + (i - pos)) 256 ≡ 0x0A = rw z e in
      let m : any newline (drop (pos + (i - pos) + 1) s) ≡ false = rw z n in
      sym (last_all pos (omega arith) ∙ last_further (i - pos) pos (length s) (omega arith) q m ∙ z)

  pub last_none : (pos : ℕ) → pos ≤ length s → any newline (drop pos s) ≡ false → length s ≡ last_newline s pos
  last_none pos h n = sym (last_all pos h ∙ rw n)

  pub none_end : (i : ℕ) → length s ≤ i → any newline (drop i s) ≡ false
  none_end i h = ap (any newline) (drop_of_length-le s h)

  pub none_back : (i : ℕ) → i < length s → (get_or s i 256 ≡ 0x0A → ⊥) → any newline (drop (i + 1) s) ≡ false
      → any newline (drop i s) ≡ false
  none_back i h e n =
      ap (any newline) (drop-cons s i 256 h)
      ∙ rw (ne_eqb (get_or s i 256) 0x0A e) (ap (λ (k : ℕ). any newline (drop k s)) (sym (add-one i)) ∙ n)

  pub last_in : (pos : ℕ) → pos ≤ length s → (pos ≤ last_newline s pos) × (last_newline s pos ≤ length s)
  last_in pos h = let b = last_le (drop pos s) in omega (arith, length-drop pos s)

  last-newline : (pos : ℕ) → pos ≤ length s → last_newline s pos < length s → get_or s (last_newline s pos) 256 ≡ 0x0A
  last-newline pos h l = sym (get_or-drop pos s (before_last (drop pos s)) 256) ∙ last_there (drop pos s) (omega (arith, length-drop pos s))

  -- a boundary
  pub last_place : (pos : ℕ) → valid s ≡ true → pos ≤ length s → boundary s (last_newline s pos) ≡ true
  last_place pos v h = end-place s (last_newline s pos) v (last_in pos h).1 (last-newline pos h)

-- ---- the lines of a text
lines_last : (x : List ℕ) → length x ≤ before_newline x → split_lines x ≡ x ∷ []
unfolding split_lines before_newline
lines_last [] h = refl
lines_last (b ∷ s) h =
    by_test _ (newline b)
    (λ t. absurd (let g : suc (length s) ≤ 0 = rw t at h in omega arith))
    (λ t. let g : suc (length s) ≤ suc (before_newline s) = rw t at h in rw (t, lines_last s (omega arith)))

lines_more : (x : List ℕ) → before_newline x < length x → split_lines x ≡ take (before_newline x) x ∷ split_lines (drop (suc (before_newline x)) x)
unfolding split_lines before_newline
lines_more [] h = absurd (omega arith)
lines_more (b ∷ s) h =
    by_test _ (newline b)
    (λ t. rw t)
    (λ t. let g : suc (before_newline s) < suc (length s) = rw t at h in rw (t, lines_more s (omega arith)))

-- there is always one
pub lines_some : (x : List ℕ) → 0 < length (split_lines x)
unfolding split_lines
lines_some [] = omega arith
lines_some (b ∷ s) = by_test _ (newline b) (λ t. rw t (omega arith)) (λ t. rw t (first_some b (split_lines s)))
  where
    first_some : (b : ℕ) (xs : List (List ℕ)) → 0 < length (on_first b xs)
    first_some b [] = omega arith
    first_some b (x ∷ xs) = omega arith

-- they are what the library's `split` gives
pub lines_split : (x : List ℕ) → split_lines x ≡ slice_split newline x
unfolding split_lines
lines_split [] = refl
lines_split (b ∷ s) =
    by_test _ (newline b) (λ t. rw t (ap (λ (l : List (List ℕ)). [] ∷ l) (lines_split s)))
    (λ t. rw t (ap (on_first b) (lines_split s) ∙ onto (slice_split newline s)))
  where
    onto : (xs : List (List ℕ)) → on_first b xs ≡ onto_first b xs
    onto [] = refl
    onto (x ∷ xs) = refl

-- the line that begins at i ends at e
module _ (s : List ℕ) (i e : ℕ) (h : i ≤ length s) (q : e ≡ end_of_line s i) where
  width : e ≡ i + before_newline (drop i s)
  unfolding end_of_line
  width = q

  pub line_last : e ≡ length s → split_lines (drop i s) ≡ take (e - i) (drop i s) ∷ []
  line_last z =
      let w = width in
      let l = length-drop i s in
      let t : take (e - i) (drop i s) ≡ drop i s = take_all (e - i) (drop i s) (omega arith) in
      lines_last (drop i s) (omega arith) ∙ ap (λ (y : List ℕ). y ∷ []) (sym t)

  pub line_more : e < length s → split_lines (drop i s) ≡ take (e - i) (drop i s) ∷ split_lines (drop (e + 1) s)
  line_more z =
      let w = width in
      let l = length-drop i s in
      let k : before_newline (drop i s) ≡ e - i = omega arith in
      let d : i + suc (before_newline (drop i s)) ≡ e + 1 = omega arith in
      lines_more (drop i s) (omega arith)
      ∙ ap (λ (y : List ℕ). take (before_newline (drop i s)) (drop i s) ∷ split_lines y) (drop-drop (suc (before_newline (drop i s))) i s ∙ ap (λ (n : ℕ). drop n s) d)
      ∙ ap (λ (n : ℕ). take n (drop i s) ∷ split_lines (drop (e + 1) s)) k

-- ---- how many
pub first-length : (b : ℕ) (xs : List (List ℕ)) → 0 < length xs → length (on_first b xs) ≡ length xs
first-length b [] h = absurd (omega arith)
first-length b (x ∷ xs) h = refl
