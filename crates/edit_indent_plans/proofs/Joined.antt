-- A part's lines, and the part put together again from them. Assumes nothing.
use mathlib.Core.Path.{◌≡◌, refl, sym, ap, ◌∙◌}
use mathlib.Core.Bool.{true}
use mathlib.Core.List.{List, [], ◌∷◌, ◌++◌, append_assoc}
use Prim.Native.Nat.{ℕ, zero, suc, ◌+◌, ◌-◌, ◌<◌, ◌≤◌}
use native.Mathlib.Omega.{arith}
use lib.ListN.{length, take, drop, length-append, length-drop}
use lib.Seq.{take_at, drop_at, take-append-add, drop-append-add, drop-append-le, take-append-le}
use Rattle.lists.proofs.Bools.{by_less, by_test}
use Rattle.lists.proofs.Every.{Every}
use Rattle.utf8.specs.Chars.{valid, boundary}
use Rattle.utf8.proofs.Append.{valid-append}
use Rattle.motion_lines.specs.Lines.{newline, end_of_line}
use Rattle.edit.specs.Plan.{splice}
use Rattle.edit_indent_plans.specs.Touched.{on_first, split_lines}
use borrow.Author.Tests.{eqb-true}
use Rattle.edit_indent_plans.proofs.Newlines.{line_last, line_more, lines_some, first-length}
use Rattle.edit_indent_plans.proofs.Walks.{line_in, line-valid, rest-valid}

-- ---- the lines behind the first one, each behind its \n
abbrev pub behind : List (List ℕ) → List ℕ
behind [] = []
behind (x ∷ xs) = 0x0A ∷ (x ++ behind xs)

abbrev pub joined : List (List ℕ) → List ℕ
joined [] = []
joined (x ∷ xs) = x ++ behind xs

behind-joined : (xs : List (List ℕ)) → 0 < length xs → behind xs ≡ 0x0A ∷ joined xs
behind-joined [] h = absurd (omega arith)
behind-joined (x ∷ xs) h = refl

first-joined : (b : ℕ) (xs : List (List ℕ)) → 0 < length xs → joined (on_first b xs) ≡ b ∷ joined xs
first-joined b [] h = absurd (omega arith)
first-joined b (x ∷ xs) h = refl

pub split-joined : (p : List ℕ) → joined (split_lines p) ≡ p
unfolding split_lines
split-joined [] = refl
split-joined (b ∷ s) =
    by_test _ (newline b)
    (λ t. rw t (behind-joined (split_lines s) (lines_some s) ∙ ap (λ (c : ℕ). c ∷ joined (split_lines s)) (sym (eqb-true b 0x0A t)) ∙ ap (λ (l : List ℕ). b ∷ l) (split-joined s)))
    (λ t. rw t (first-joined b (split_lines s) (lines_some s) ∙ ap (λ (l : List ℕ). b ∷ l) (split-joined s)))

-- there are no more lines than bytes, and one
pub few_lines : (p : List ℕ) → length (split_lines p) ≤ length p + 1
unfolding split_lines
few_lines [] = omega arith
few_lines (b ∷ s) =
    let r = few_lines s in
    by_test _ (newline b) (λ t. rw t (omega arith)) (λ t. rw t (omega (arith, first-length b (split_lines s) (lines_some s))))

-- ---- each line of a text is one
abbrev pub Valid : List ℕ → Type 0
Valid x = valid x ≡ true

split_one : (n : ℕ) (p : List ℕ) → length p ≤ n → valid p ≡ true → (e : ℕ) → e ≡ end_of_line p 0
    → ((q : List ℕ) → length q < length p → valid q ≡ true → Every Valid (split_lines (drop 0 q))) → Every Valid (split_lines (drop 0 p))
split_one n p h v e q go =
    let w = line_in p 0 e (omega arith) q in
    let x = line-valid p 0 e (omega arith) q v in
    by_less _ e (length p)
    (λ l. rw (line_more p 0 e (omega arith) q l) (x, go (drop (e + 1) p) (omega (arith, length-drop (e + 1) p)) (rest-valid p 0 e (omega arith) q v l)))
    (λ l. rw (line_last p 0 e (omega arith) q (omega arith)) (x, tt))

lines_valid : (n : ℕ) (p : List ℕ) → length p ≤ n → valid p ≡ true → Every Valid (split_lines (drop 0 p))
lines_valid zero p h v = split_one zero p h v (end_of_line p 0) refl (λ q l w. absurd (omega arith))
lines_valid (suc n) p h v = split_one (suc n) p h v (end_of_line p 0) refl (λ q l w. lines_valid n q (omega arith) w)

pub split-valid : (p : List ℕ) → valid p ≡ true → Every Valid (split_lines p)
split-valid p v = lines_valid (length p) p (omega arith) v

-- ---- a text a ++ (x ++ b), at the end of a
module _ (a x b t : List ℕ) (e : t ≡ a ++ (x ++ b)) (at : ℕ) (f : at ≡ length a) where
  pub at-boundary : valid a ≡ true → boundary t at ≡ true
  at-boundary v = ap valid (ap (take at) e ∙ take_at a (x ++ b) at (sym f)) ∙ v

  module _ (d : ℕ) (h : d ≤ length x) where
    pub front-is : take (at + d) t ≡ a ++ take d x
    front-is = ap (take (at + d)) e ∙ ap (λ (n : ℕ). take (n + d) (a ++ (x ++ b))) f ∙ take-append-add a (x ++ b) d ∙ ap (λ (l : List ℕ). a ++ l) (take-append-le d x b h)

    pub back_is : drop (at + d) t ≡ drop d x ++ b
    back_is = ap (drop (at + d)) e ∙ ap (λ (n : ℕ). drop (n + d) (a ++ (x ++ b))) f ∙ drop-append-add a (x ++ b) d ∙ drop-append-le d x b h

    pub within : at + d ≤ length t
    within = omega (arith, ap length e, length-append a (x ++ b), length-append x b)

    pub end-boundary : valid a ≡ true → boundary x d ≡ true → boundary t (at + d) ≡ true
    end-boundary v w = ap valid front-is ∙ valid-append a (take d x) v ∙ w

    -- bytes at its front cut out
    pub cut-is : splice t at (at + d) [] ≡ a ++ (drop d x ++ b)
    unfolding splice
    cut-is =
        ap (λ (l : List ℕ). l ++ drop (at + d) t) (ap (take at) e ∙ take_at a (x ++ b) at (sym f)) ∙ ap (λ (l : List ℕ). a ++ l) back_is

    pub part-is : take (at + d - at) (drop at t) ≡ take d x
    part-is =
        let z : at + d - at ≡ d = omega arith in
        ap (λ (n : ℕ). take n (drop at t)) z ∙ ap (take d) (ap (drop at) e ∙ drop_at a (x ++ b) at (sym f)) ∙ take-append-le d x b h

  -- a text put in before it
  pub put_is : (s : List ℕ) → splice t at at s ≡ a ++ (s ++ (x ++ b))
  unfolding splice
  put_is s =
      ap (λ (l : List ℕ). l ++ (s ++ drop at t)) (ap (take at) e ∙ take_at a (x ++ b) at (sym f))
      ∙ ap (λ (l : List ℕ). a ++ (s ++ l)) (ap (drop at) e ∙ drop_at a (x ++ b) at (sym f))

-- the next line: what is before it goes up to the \n
pub next-line : (a x y b : List ℕ) (ys : List (List ℕ)) → a ++ (x ++ (behind (y ∷ ys) ++ b)) ≡ (a ++ (x ++ (0x0A ∷ []))) ++ (y ++ (behind ys ++ b))
next-line a x y b ys = simp append_assoc
