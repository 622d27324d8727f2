-- What a dedent of a part's lines records, a line at a time, and at most how much that is. Assumes nothing.
use mathlib.Core.Path.{◌≡◌, refl, sym, ap, ◌∙◌}
use mathlib.Core.Bool.{cond}
use mathlib.Core.List.{List, [], ◌∷◌, map}
use Prim.Native.Nat.{ℕ, ◌+◌, ◌<◌, ◌≤◌}
use native.Mathlib.Omega.{arith}
use lib.Dec.{ltb}
use lib.ListN.{length}
use borrow.Author.Tests.{lt-ltb, le-ltb}
use Rattle.std.proofs.Common.{Bor}
use Rattle.std.specs.Prelude.{Option, None, Some}
use Rattle.std.specs.Iterator.{AlwaysYields}
use Rattle.lists.specs.Lists.{sum}
use Rattle.lists.proofs.Bools.{by_test}
use Rattle.repertoire.specs.Repertoire.{Repertoire}
use Rattle.motion_lines.specs.Lines.{newline}
use Rattle.edit_indent_plans.specs.Touched.{on_first, split_lines, deleting}
use Rattle.edit_indent_plans.specs.Counts.{cuts_in, bytes_in}
use Rattle.edit_indent_plans.proofs.Newlines.{lines_some, first-length}
use Rattle.edit_indent_plans.proofs.White.{deleting_in}

-- ---- a turn of a loop over the lines that an iterator gives
module _ {S : Type 0} (steps : S → Option (Bor (List ℕ)) → S → Type 0) where
  pub one_line : (ys : List (List ℕ)) (s t : S) (r : Option (Bor (List ℕ))) (x : Bor (List ℕ))
      → AlwaysYields steps (λ y. y.now) s ys → steps s r t → r ≡ Some x
      → (zs : List (List ℕ)) × (ys ≡ x.now ∷ zs) × AlwaysYields steps (λ y. y.now) t zs
  one_line [] s t r x a e q = absurd (a x t (rw q at e))
  one_line (y ∷ ys) s t r x a e q = let z = a.1 x t (rw q at e) in (ys, ap (λ (l : List ℕ). l ∷ ys) (sym z.0), z.1)

  pub no_line : (ys : List (List ℕ)) (s t : S) (r : Option (Bor (List ℕ)))
      → AlwaysYields steps (λ y. y.now) s ys → steps s r t → r ≡ None → ys ≡ []
  no_line [] s t r a e q = refl
  no_line (y ∷ ys) s t r a e q = absurd (a.0 t (rw q at e))

-- ---- at most a record for each line, and all the bytes
lines_most : (p : List ℕ) → length (split_lines p) ≤ length p + 1
unfolding split_lines
lines_most [] = omega arith
lines_most (b ∷ s) =
    let r = lines_most s in
    by_test _ (newline b) (λ t. rw t (omega arith)) (λ t. rw t (omega (arith, first-length b (split_lines s) (lines_some s))))

abbrev total : List (List ℕ) → ℕ
total xs = sum (map length xs)

first-total : (b : ℕ) (xs : List (List ℕ)) → total (on_first b xs) ≡ total xs + 1
first-total b [] = refl
first-total b (x ∷ xs) = omega arith

total_most : (p : List ℕ) → total (split_lines p) ≤ length p
unfolding split_lines
total_most [] = omega arith
total_most (b ∷ s) =
    let r = total_most s in
    by_test _ (newline b) (λ t. rw t (omega arith)) (λ t. rw t (omega (arith, first-total b (split_lines s))))

module _ (R : Repertoire) (m : ℕ) where
  -- a line of which d bytes are cut, with the lines behind it
  module _ (x : List ℕ) (xs : List (List ℕ)) (d : ℕ) (f : d ≡ deleting R m x) where
    pub cut_some : 0 < d → cuts_in R m (x ∷ xs) ≡ 1 + cuts_in R m xs
    unfolding cuts_in
    cut_some l = ap (λ (k : ℕ). cond (ltb 0 k) 1 0 + cuts_in R m xs) (sym f) ∙ rw (lt-ltb 0 d l)

    pub cut_none : d ≤ 0 → cuts_in R m (x ∷ xs) ≡ cuts_in R m xs
    unfolding cuts_in
    cut_none l = ap (λ (k : ℕ). cond (ltb 0 k) 1 0 + cuts_in R m xs) (sym f) ∙ rw (le-ltb 0 d l) (omega arith)

    pub cut_bytes : bytes_in R m (x ∷ xs) ≡ d + bytes_in R m xs
    unfolding bytes_in
    cut_bytes = ap (λ (k : ℕ). k + bytes_in R m xs) (sym f)

  pub cuts_le : (xs : List (List ℕ)) → cuts_in R m xs ≤ length xs
  unfolding cuts_in
  cuts_le [] = omega arith
  cuts_le (x ∷ xs) =
      let r = cuts_le xs in
      by_test _ (ltb 0 (deleting R m x)) (λ t. rw t (omega arith)) (λ t. rw t (omega arith))

  bytes_le : (xs : List (List ℕ)) → bytes_in R m xs ≤ total xs
  unfolding bytes_in
  bytes_le [] = omega arith
  bytes_le (x ∷ xs) = let r = bytes_le xs in omega (arith, deleting_in R m x)

  pub cuts_most : (p : List ℕ) → cuts_in R m (split_lines p) ≤ length p + 1
  cuts_most p = omega (arith, cuts_le (split_lines p), lines_most p)

  pub bytes_most : (p : List ℕ) → bytes_in R m (split_lines p) ≤ length p
  bytes_most p = omega (arith, bytes_le (split_lines p), total_most p)

  pub none_left : {ys : List (List ℕ)} → ys ≡ [] → (cuts_in R m ys ≡ 0) × (bytes_in R m ys ≡ 0)
  unfolding cuts_in bytes_in
  none_left e = (ap (cuts_in R m) e, ap (bytes_in R m) e)
