-- The lines of a part, one at a time: the line that begins at i ends at e, and d of its bytes are cut. Assumes nothing.
use mathlib.Core.Path.{◌≡◌, refl, sym, ap, subst, ◌∙◌}
use mathlib.Core.Bool.{Bool, true, false, not, ◌||◌}
use mathlib.Core.List.{List, [], ◌∷◌}
use Prim.Native.Nat.{ℕ, zero, suc, ◌+◌, ◌-◌, ◌<◌, ◌≤◌}
use native.Mathlib.Omega.{arith}
use native.Mathlib.Numerals.{add-one}
use lib.ListN.{length, get_or, take, drop, length-drop}
use lib.Seq.{drop-drop, get_or-drop, take_all, length-take-le}
use Rattle.std.specs.List.{list_any}
use Rattle.lists.proofs.Bools.{by_less}
use Rattle.utf8.specs.Utf8.{first, first_of, one as one_byte}
use Rattle.utf8.specs.Chars.{valid_from, valid, boundary, no_tail}
use Rattle.utf8.proofs.Append.{valid-cut}
use Rattle.utf8.proofs.Boundary.{boundary_test}
use Rattle.repertoire.specs.Repertoire.{Repertoire}
use Rattle.motion_lines.specs.Lines.{end_of_line}
use Rattle.motion_lines.proofs.Places.{newline-place}
use Rattle.motion_lines.proofs.Lines.{end-le, end-newline}
use Rattle.edit_indent_plans.specs.Touched.{split_lines, deleting, splits}
use Rattle.edit_indent_plans.proofs.Newlines.{line_last, line_more}

pub newline-valid : valid (0x0A ∷ []) ≡ true
unfolding valid_from first first_of one_byte
newline-valid = refl

-- a text cut before a \n, and behind it
newline-cut : (x : List ℕ) (k : ℕ) → valid x ≡ true → get_or x k 256 ≡ 0x0A → (boundary x k ≡ true) × (valid (drop (suc k) x) ≡ true)
newline-cut x k v e =
    let p = newline-place x k v e in
    (p.0, subst (λ (n : ℕ). valid (drop n x) ≡ true) (add-one k) (sym (valid-cut x (k + 1) p.1) ∙ v))

module _ (p : List ℕ) (i e : ℕ) (h : i ≤ length p) (q : e ≡ end_of_line p i) where
  pub line_in : (i ≤ e) × (e ≤ length p)
  line_in = let z = end-le p i h in omega arith

  pub line-width : length (take (e - i) (drop i p)) ≡ e - i
  line-width = let z = line_in in length-take-le (e - i) (drop i p) (omega (arith, length-drop i p))

  there : e < length p → get_or (drop i p) (e - i) 256 ≡ 0x0A
  there l =
      let z = line_in in
      let j : i + (e - i) ≡ end_of_line p i = omega arith in
      get_or-drop i p (e - i) 256 ∙ ap (λ (k : ℕ). get_or p k 256) j ∙ end-newline p i h (omega arith)

  pub line-valid : valid (drop i p) ≡ true → valid (take (e - i) (drop i p)) ≡ true
  line-valid v =
      let z = line_in in
      by_less _ e (length p)
      (λ l. (newline-cut (drop i p) (e - i) v (there l)).0)
      (λ l. ap valid (take_all (e - i) (drop i p) (omega (arith, length-drop i p))) ∙ v)

  pub rest-valid : valid (drop i p) ≡ true → e < length p → valid (drop (e + 1) p) ≡ true
  rest-valid v l =
      let z = line_in in
      let j : i + suc (e - i) ≡ e + 1 = omega arith in
      ap valid (sym (drop-drop (suc (e - i)) i p ∙ ap (λ (k : ℕ). drop k p) j)) ∙ (newline-cut (drop i p) (e - i) v (there l)).1

-- ---- check 6
module _ (R : Repertoire) (m : ℕ) where
  -- does the cut of a line end inside a character?
  abbrev pub inside : List ℕ → Bool
  inside x = not (no_tail x (deleting R m x))

  module _ (p : List ℕ) where
    -- the line that begins at i is the last one, or there is one more
    module _ (i : ℕ) (h : i ≤ length p) (v : valid (drop i p) ≡ true) where
      abbrev here : List ℕ
      here = take (end_of_line p i - i) (drop i p)

      same_test : boundary here (deleting R m here) ≡ no_tail here (deleting R m here)
      same_test = boundary_test here (deleting R m here) (line-valid p i (end_of_line p i) h refl v)

      at_last : end_of_line p i ≡ length p → splits R m (split_lines (drop i p)) ≡ list_any inside (split_lines (drop i p))
      unfolding splits
      at_last l = rw (line_last p i (end_of_line p i) h refl l) (ap (λ (b : Bool). not b || false) same_test)

      at_more : end_of_line p i < length p
          → splits R m (split_lines (drop (end_of_line p i + 1) p)) ≡ list_any inside (split_lines (drop (end_of_line p i + 1) p))
          → splits R m (split_lines (drop i p)) ≡ list_any inside (split_lines (drop i p))
      unfolding splits
      at_more l r =
          let rest = split_lines (drop (end_of_line p i + 1) p) in
          rw (line_more p i (end_of_line p i) h refl l)
          (ap (λ (b : Bool). not b || splits R m rest) same_test ∙ ap (λ (b : Bool). inside here || b) r)

    walk : (n i : ℕ) → length p ≤ i + n → i ≤ length p → valid (drop i p) ≡ true
        → splits R m (split_lines (drop i p)) ≡ list_any inside (split_lines (drop i p))
    walk zero i k h v = let z = line_in p i (end_of_line p i) h refl in at_last i h v (omega arith)
    walk (suc n) i k h v =
        let z = line_in p i (end_of_line p i) h refl in
        by_less _ (end_of_line p i) (length p)
        (λ l. at_more i h v l
        (walk n (end_of_line p i + 1) (omega arith) (omega arith) (rest-valid p i (end_of_line p i) h refl v l)))
        (λ l. at_last i h v (omega arith))

    pub splits_any : valid p ≡ true → splits R m (split_lines p) ≡ list_any inside (split_lines p)
    splits_any v = walk (length p) 0 (omega arith) (omega arith) v
