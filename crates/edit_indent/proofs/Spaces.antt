-- The lines indented one after the other, each by pieces of at most 32 spaces. Assumes nothing.
use native.Mathlib.Omega.{arith}
use mathlib.Core.Path.{◌≡◌, refl, sym, ap, ap₂, ◌∙◌}
use mathlib.Core.Bool.{true, false}
use mathlib.Core.List.{List, [], ◌∷◌, ◌++◌}
use Prim.Native.Nat.{ℕ, zero, suc, ◌+◌, ◌-◌, ◌*◌, ◌<◌, ◌≤◌}
use lib.Dec.{eqb, ltb}
use lib.ListN.{length, take}
use lib.Seq.{length-take-le}
use borrow.Author.Tests.{eq-eqb, ne_eqb}
use Rattle.lists.specs.Lists.{part}
use Rattle.lists.proofs.Bools.{by_test}
use Rattle.utf8.specs.Chars.{In}
use Rattle.repertoire.specs.Repertoire.{catalogue}
use Rattle.repertoire.specs.Text.{is_text}
use Rattle.motion_lines.specs.Lines.{end_of_line}
use Rattle.formats.specs.declared.Format.{Format}
use Rattle.formats.specs.Formats.{text_max}
use Rattle.edit.specs.declared.EditAnswer.{EditAnswer}
use Rattle.edit.specs.Plan.{PlannedChange, pasted, once, Plan, edited}
use Rattle.edit.specs.Calls.{Lent, lent, text_of, sizes_of, state_of, Edited}
use Rattle.edit.proofs.Underway.{rest}
use Rattle.edit_indent_plans.specs.Touched.{split_lines}
use Rattle.edit_indent_plans.proofs.Newlines.{lines_some}
use Rattle.edit_indent_plans.specs.IndentPlans.{spaces, indent_pieces, indent_lines, indent_cursor, piece_of, indented}
use Rattle.edit_indent_plans.proofs.Suits.{piece_in}
use Rattle.edit_indent_plans.proofs.Lines.{Way, way, none, ahead, Lines, end_in, seen, line_in, last_line, more_lines, line-width, suits}
use Rattle.edit_indent_plans.proofs.Lines.{turn}

-- ---- spaces
pub take-spaces : (n k : ℕ) → n ≤ k → take n (spaces k) ≡ spaces n
take-spaces zero k h = refl
take-spaces (suc n) zero h = absurd (omega arith)
take-spaces (suc n) (suc k) h = ap (λ (l : List ℕ). 0x20 ∷ l) (take-spaces n k (omega arith))

-- ---- a line's changes
-- as many as are enough
enough : (k j at m : ℕ) → m ≤ 32 * k → m ≤ 32 * j → indent_pieces k at m ≡ indent_pieces j at m
unfolding indent_pieces
enough zero zero at m h g = refl
enough zero (suc j) at m h g = rw (eq-eqb m 0 (omega arith))
enough (suc k) zero at m h g = rw (eq-eqb m 0 (omega arith))
enough (suc k) (suc j) at m h g = by_test _ (eqb m 0) (λ z. rw z) (λ z. rw z
    (ap (λ (l : List PlannedChange). pasted at (spaces (piece_of m)) ∷ l) (enough k j at (m - 32) (omega arith) (omega arith))))

first_piece : (at m : ℕ) → 0 < m → indent_pieces m at m ≡ pasted at (spaces (piece_of m)) ∷ indent_pieces (m - 32) at (m - 32)
unfolding indent_pieces
first_piece at zero h = absurd (omega arith)
first_piece at (suc m) h =
    rw (ne_eqb (suc m) 0 (λ e. omega arith))
    (ap (λ (l : List PlannedChange). pasted at (spaces (piece_of (suc m))) ∷ l) (enough m (suc m - 32) at (suc m - 32) (omega arith) (omega arith)))

-- ---- the lines behind the first, once it is indented
abbrev pub behind : ℕ → ℕ → Way
behind m at [] pos = none [] pos
behind m at (x ∷ xs) pos = way m false (at + m + length x + 1) xs pos

-- of the first some spaces are left to put in
abbrev pub spacing : ℕ → ℕ → ℕ → Way
spacing m left at xs pos = rest (behind m at xs pos) (indent_pieces left at left ++ (behind m at xs pos).changes)

opened : (m at : ℕ) (xs : List (List ℕ)) (pos : ℕ) → 0 < length xs → way m false at xs pos ≡ spacing m m at xs (indented at m pos)
unfolding indent_lines indent_cursor
opened m at [] pos h = absurd (omega arith)
opened m at (x ∷ xs) pos h = refl

moved_low : (at m pos : ℕ) → indented at m pos ≤ pos + m
moved_low at m pos = by_test _ (ltb pos at) (λ z. rw z (omega arith)) (λ z. rw z (omega arith))

-- ---- the loop: of the line at a place some spaces are left, and its bytes stand behind those that were put in
pub record Indenting (F : Format) (l₀ : Lent) (p : Plan) (m : ℕ) (l : Lent) (cursor at end left : ℕ) : Type 0 where
  pub bound : left ≤ m
  pub lines : Lines F l₀ p (spacing m left at) l cursor (at + (m - left)) end
  pub low : cursor ≤ l₀.line.cursor + at + m

-- a line begins
pub opens : {F : Format} {l₀ : Lent} {p : Plan} {m : ℕ} {l : Lent} {cursor at end : ℕ} → Lines F l₀ p (way m false at) l cursor at end
    → cursor ≤ l₀.line.cursor + at → {c : ℕ} → c ≡ indented at m cursor → Indenting F l₀ p m l c at end m
opens {F} {l₀} {p} {m} {l} {cursor} {at} {end} k h e =
    let z : at ≡ at + (m - m) = omega arith in
    record {
      bound = omega arith;
      lines = seen k (spacing m m at) (omega (arith, k.order)) (opened m at _ cursor (lines_some (part (text_of l) at end))
          ∙ ap₂ (λ (i j : ℕ). spacing m m at (split_lines (part (text_of l) i end)) j) z (sym e));
      low = omega (arith, moved_low at m cursor);
    }

module _ {F : Format} {l₀ l : Lent} {p : Plan} {m cursor at end left : ℕ} (k : Indenting F l₀ p m l cursor at end left) where
  abbrev t : List ℕ
  t = text_of l

  -- ---- the line is done
  module _ (z : left ≡ 0) {e : ℕ} (q : e ≡ end_of_line (take end l.text) (at + m)) where
    q' : e ≡ end_of_line (take end l.text) (at + (m - left))
    q' = let y : at + m ≡ at + (m - left) = omega arith in q ∙ ap (end_of_line (take end l.text)) y

    pub done_in : (at + m ≤ e) × (e ≤ end) × (end ≤ text_max)
    done_in = let y = line_in k.lines q' in (omega arith, y.1, (end_in k.lines).1)

    done : {xs : List (List ℕ)} → split_lines (part t (at + (m - left)) end) ≡ part t (at + (m - left)) e ∷ xs
        → spacing m left at (split_lines (part t (at + (m - left)) end)) cursor ≡ way m false (e + 1) xs cursor
    unfolding indent_pieces
    done {xs} j =
        let i : at + m + length (part t (at + (m - left)) e) + 1 ≡ e + 1 = omega (arith, line-width k.lines q', done_in) in
        ap (λ (ys : List (List ℕ)). spacing m left at ys cursor) j ∙ ap₂ (λ (n i : ℕ). rest (way m false i xs cursor) (indent_pieces n at n ++ (way m false i xs cursor).changes)) z i

    pub last_done : e ≡ end → Lines F l₀ p none l cursor end end
    unfolding indent_lines indent_cursor
    last_done h = seen k.lines none (omega arith) (done (last_line k.lines q' h))

    pub next-done : (e ≡ end → ⊥) → {c : ℕ} → c ≡ indented (e + 1) m cursor → Indenting F l₀ p m l c (e + 1) end m
    next-done h = opens (seen k.lines (way m false (e + 1)) (omega (arith, done_in, h)) (done (more_lines k.lines q' h))) (omega (arith, k.low, done_in))

  -- ---- a piece more
  module _ (some : left ≡ 0 → ⊥) {n : ℕ} (nq : n ≡ piece_of left) where
    pub piece_within : (0 < n) × (n ≤ 32) × (n ≤ left) × (end ≤ text_max)
    piece_within = let w = piece_in left some in (omega (arith, w.0), omega (arith, w.1), omega (arith, w.2), (end_in k.lines).1)

    piece_text : spaces (piece_of left) ≡ take n (spaces 32)
    piece_text = ap spaces (sym nq) ∙ sym (take-spaces n 32 piece_within.1)

    abbrev xs : List (List ℕ)
    xs = split_lines (part t (at + (m - left)) end)

    first-put : spacing m left at xs cursor ≡ ahead (pasted at (take n (spaces 32))) (spacing m (left - n) at xs cursor)
    first-put =
        let z : left - 32 ≡ left - n = omega (arith, (piece_in left some).2) in
        ap (λ (ys : List PlannedChange). rest (behind m at xs cursor) (ys ++ (behind m at xs cursor).changes)) (first_piece at left (omega (arith, piece_within))
        ∙ ap₂ (λ (s : List ℕ) (i : ℕ). pasted at s ∷ indent_pieces i at i) piece_text z)

    pub put_suits : In t at at × (is_text catalogue (take n (spaces 32)) ≡ true)
    put_suits = suits k.lines first-put

    pub next-put : {r : EditAnswer} {tn rb tb : List ℕ} → Edited F l
        (edited catalogue F (sizes_of l) (length l.text) (once (pasted at (take n (spaces 32))) at) (state_of catalogue F l)) r tn rb tb
        → length tn ≡ length l.text → length rb ≡ length l.records → length tb ≡ length l.texts
        → Indenting F l₀ p m (lent tn rb tb r.line r.log) cursor at (end + n) (left - n)
    next-put o lt lr ls =
        let w = piece_within in
        let g = length-take-le n (spaces 32) w.1 in
        record {
          bound = omega (arith, k.bound);
          lines = turn k.lines (spacing m (left - n) at) first-put o lt lr ls (omega arith) k.lines.order (omega (arith, k.bound, g)) (omega (arith, k.lines.order, g));
          low = k.low;
        }

-- ---- the turns left: each line's bytes, and the spaces of the first
abbrev pub turns : ℕ → ℕ → ℕ → ℕ → ℕ
turns m at end left = (end + left - (at + m)) * 257 + left

pub turns_line : (m at end left e : ℕ) → left ≡ 0 → m ≤ 256 → (at + m ≤ e) × (e ≤ end) × (end ≤ text_max) → (e ≡ end → ⊥) → turns m (e + 1) end m < turns m at end left
turns_line m at end left e z s h l = omega (arith, h, l)

pub turns_put : (m at end left n : ℕ) → 0 < n → n ≤ left → turns m at (end + n) (left - n) < turns m at end left
turns_put m at end left n p h = let e : end + n + (left - n) ≡ end + left = omega arith in rw e (omega arith)
