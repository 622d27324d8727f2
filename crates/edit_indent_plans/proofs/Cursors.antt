-- The cursor that indenting and dedenting leave lies in the text that they leave, between two characters; over any repertoire. Assumes nothing.
use mathlib.Core.Path.{◌≡◌, refl, subst}
use mathlib.Core.Bool.{Bool, true, false}
use mathlib.Core.List.{List, [], ◌∷◌, ◌++◌}
use Prim.Native.Nat.{ℕ, ◌+◌, ◌-◌, ◌≤◌}
use native.Mathlib.Omega.{arith}
use lib.Dec.{ltb}
use lib.ListN.{length, length-replicate}
use borrow.Author.Tests.{lt-ltb, le-ltb}
use Rattle.lists.proofs.Bools.{by_less, by_test}
use Rattle.utf8.specs.Chars.{valid_from, valid, boundary, In}
use Rattle.repertoire.specs.Repertoire.{Repertoire}
use Rattle.repertoire.specs.Text.{is_text}
use Rattle.keymap.specs.declared.Movement.{Movement}
use Rattle.edit.specs.Plan.{PlannedChange, splice, AllSuit, text_after}
use Rattle.edit.proofs.Splice.{splice_stays, splice_moves, splice-start}
use Rattle.edit_indent_plans.specs.Touched.{deleting, splits, touched}
use Rattle.edit_indent_plans.specs.IndentPlans.{spaces, indent_line, indent_lines, indent_cursor, dedent_lines, dedented, dedent_cursor}
use Rattle.edit_indent_plans.specs.IndentPlans.{lines_in, indent_plan, piece_of, indented}
use Rattle.edit_indent_plans.proofs.Suits.{spaces-valid, piece_in, by_pieces, indent_suits}

-- a place of a text
abbrev pub At : List ℕ → ℕ → Type 0
At t p = In t p p

none_valid : valid [] ≡ true
unfolding valid_from
none_valid = refl

-- ---- dedenting
cut-place : (t : List ℕ) (at d pos : ℕ) → In t at (at + d) → At t pos → At (splice t at (at + d) []) (dedented at d pos)
cut-place t at d pos i j =
    by_less _ pos at
    (λ h. rw (lt-ltb pos at h) (splice_stays t at (at + d) [] i pos (omega arith) j.2))
    (λ h. by_less _ (pos - at) d
    (λ k. rw (le-ltb pos at h, lt-ltb (pos - at) d k) (splice-start t at (at + d) [] i))
    (λ k. rw (le-ltb pos at h, le-ltb (pos - at) d k) (splice_moves t at (at + d) [] i none_valid pos (pos - d) (omega arith) j.1 j.2 (omega arith))))

module _ (R : Repertoire) (m : ℕ) where
  pub dedent-cursor : (xs : List (List ℕ)) (at : ℕ) (t : List ℕ) (pos : ℕ) → AllSuit R (dedent_lines R m at xs) t → At t pos
      → At (text_after (dedent_lines R m at xs) t) (dedent_cursor R m at xs pos)
  unfolding AllSuit text_after dedent_lines dedent_cursor
  dedent-cursor [] at t pos s j = j
  dedent-cursor (x ∷ xs) at t pos s j =
      dedent-cursor xs (at + (length x - deleting R m x) + 1) (splice t at (at + deleting R m x) []) (dedented at (deleting R m x) pos) s.1
      (cut-place t at (deleting R m x) pos s.0 j)

-- ---- indenting
put-place : (t : List ℕ) (at n pos : ℕ) → In t at at → At t pos → At (splice t at at (spaces n)) (indented at n pos)
put-place t at n pos i j =
    by_less _ pos at
    (λ h. rw (lt-ltb pos at h) (splice_stays t at at (spaces n) i pos (omega arith) j.2))
    (λ h. rw (le-ltb pos at h) (splice_moves t at at (spaces n) i (spaces-valid n) pos (pos + n) h j.1 j.2 (omega (arith, length-replicate {A = ℕ} n 0x20))))

none_indented : (at pos : ℕ) → pos ≡ indented at 0 pos
none_indented at pos = by_test _ (ltb pos at) (λ z. rw z) (λ z. rw z (omega arith))

more_indented : (at m pos : ℕ) → (m ≡ 0 → ⊥) → indented at (m - 32) (indented at (piece_of m) pos) ≡ indented at m pos
more_indented at m pos h =
    let w = piece_in m h in
    by_less _ pos at (λ l. rw (lt-ltb pos at l, lt-ltb pos at l))
    (λ l. rw (le-ltb pos at l, le-ltb (pos + piece_of m) at (omega arith)) (omega (arith, w.2)))

none_after : (t : List ℕ) (pos : ℕ) → At t pos → At (text_after [] t) pos
unfolding text_after
none_after t pos j = j

module _ (R : Repertoire) where
  -- what holds of what comes behind a line's changes, from where they leave text and cursor
  pieces-cursor : (at m : ℕ) (t : List ℕ) (pos : ℕ) (ys : List PlannedChange) → AllSuit R (indent_line at m ++ ys) t → At t pos
      → (C : List ℕ → Type 0) → ((u : List ℕ) → AllSuit R ys u → At u (indented at m pos) → C (text_after ys u)) → C (text_after (indent_line at m ++ ys) t)
  unfolding AllSuit text_after
  pieces-cursor at m t pos ys s j C g =
      by_pieces (λ (n : ℕ) (xs : List PlannedChange). (t : List ℕ) (pos : ℕ) → AllSuit R (xs ++ ys) t → At t pos
      → ((u : List ℕ) → AllSuit R ys u → At u (indented at n pos) → C (text_after ys u)) → C (text_after (xs ++ ys) t)) at
      (λ t pos s j g. g t s (subst (At t) (none_indented at pos) j))
      (λ n xs h r t pos s j g.
      r (splice t at at (spaces (piece_of n))) (indented at (piece_of n) pos) s.1 (put-place t at (piece_of n) pos s.0.0 j)
      (λ u x y. g u x (subst (At u) (more_indented at n pos h) y))) m t pos s j g

  module _ (m : ℕ) where
    pub indent-cursor : (xs : List (List ℕ)) (at : ℕ) (t : List ℕ) (pos : ℕ) → AllSuit R (indent_lines m at xs) t → At t pos
        → At (text_after (indent_lines m at xs) t) (indent_cursor m at xs pos)
    unfolding indent_lines indent_cursor
    indent-cursor [] at t pos s j = none_after t pos j
    indent-cursor (x ∷ xs) at t pos s j =
        pieces-cursor at m t pos (indent_lines m (at + m + length x + 1) xs) s j (λ u. At u (indent_cursor m (at + m + length x + 1) xs (indented at m pos)))
        (λ u y z. indent-cursor xs (at + m + length x + 1) u (indented at m pos) y z)

-- ---- the call's plan
module _ (R : Repertoire) (mem : R.member 0x20 ≡ true) (m : ℕ) (t : List ℕ) (pos : ℕ) (v : is_text R t ≡ true) (k : boundary t pos ≡ true)
    (h : pos ≤ length t) (mvt : Movement) where
  abbrev lines : List (List ℕ)
  lines = lines_in t (touched R t pos mvt)

  pub plan_cursor : (dedent : Bool) → (dedent ≡ true → splits R m lines ≡ false)
      → At (text_after (indent_plan R m dedent pos (touched R t pos mvt).start lines).changes t) (indent_plan R m dedent pos (touched R t pos mvt).start lines).cursor
  plan_cursor true s = dedent-cursor R m lines (touched R t pos mvt).start t pos (indent_suits R mem m t pos v k h mvt true s) (omega arith, h, k, k)
  plan_cursor false s = indent-cursor R m lines (touched R t pos mvt).start t pos (indent_suits R mem m t pos v k h mvt false s) (omega arith, h, k, k)
