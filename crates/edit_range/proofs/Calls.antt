-- The calls by their checks and their plans. Assumes nothing.
use Prim.Native.Nat.{ℕ, ◌+◌, ◌≤◌}
use native.Mathlib.Omega.{arith}
use mathlib.Core.Path.{◌≡◌, sym, ap, ap₂, ◌∙◌}
use mathlib.Core.Bool.{Bool, true, false, not, ◌||◌}
use mathlib.Core.List.{List}
use lib.Dec.{ltb}
use lib.ListN.{length}
use borrow.Author.Tests.{ltb-false, not-false}
use Rattle.lists.specs.Lists.{part}
use Rattle.utf8.specs.Chars.{valid, boundary, In}
use Rattle.repertoire.specs.Repertoire.{catalogue}
use Rattle.repertoire.specs.Text.{is_text}
use Rattle.checks.specs.Checks.{Tests, with_foreign, with_split, line_tests}
use Rattle.checks.proofs.Fit.{Passed}
use Rattle.formats.specs.declared.Format.{Format}
use Rattle.formats.specs.Formats.{text_max}
use Rattle.log_model.specs.Change.{replace, edit}
use Rattle.log_model.specs.Layout.{ok_change}
use Rattle.edit.specs.declared.EditAnswer.{EditAnswer}
use Rattle.edit.specs.Plan.{cutting, once, edited, change_out}
use Rattle.edit.specs.Calls.{Lent, text_of, sizes_of, state_of, says, own, checked, Edited, Ready}
use Rattle.edit.proofs.Answers.{refused_by, passed_by, length-kept}
use Rattle.edit.proofs.Made.{outcome_as}
use Rattle.edit.proofs.Parts.{part-text}
use Rattle.edit.proofs.Once.{once_swap}
use Rattle.edit.proofs.Tests.{split_as, own-passed, text-lent}
use Rattle.edit_range.specs.Ranges.{range_tests, replace_tests, delete_range_call, replace_call}
use Rattle.edit_range.proofs.Tests.{range_in}

-- x and y are what the code says of 6 at the places a and b, where the text is one
module _ (F : Format) (l : Lent) (a b : ℕ) (x y : Bool) (at_a : l.line.len ≤ length l.text → valid (text_of l) ≡ true
    → x ≡ not (boundary (text_of l) a)) (at_b : l.line.len ≤ length l.text → valid (text_of l) ≡ true → y ≡ not (boundary (text_of l) b)) where
  -- what it says of both is 6 of the range, where 2 and 4 pass the text
  split-is : (line_tests catalogue F l.text l.line).sizes ≡ false → (line_tests catalogue F l.text l.line).foreign ≡ false → (x || y) ≡ (range_tests catalogue F l a b).split
  split-is s f = let q = text-lent F l s f in ap₂ (λ (i j : Bool). i || j) (at_a q.0 q.1) (at_b q.0 q.1)

  -- ---- delete_range, where the checks give k
  module _ (k : ℕ) (e : k ≡ checked catalogue F l (own (record { sizes = false; code = false; foreign = false; place = ltb l.line.len b || ltb b a; split = x || y }))) where
    -- they are the call's
    delete-checked : checked catalogue F l (range_tests catalogue F l a b) ≡ k
    delete-checked = sym (e ∙ split_as F l (range_tests catalogue F l a b) (x || y) (range_tests catalogue F l a b).split split-is)

    -- refused by k
    pub delete-refused : (k ≡ 0 → ⊥) → (r : EditAnswer) → r ≡ says k l.line l.log → Edited F l (delete_range_call catalogue F l a b) r l.text l.records l.texts
    delete-refused h r q = refused_by F l k (checked catalogue F l (range_tests catalogue F l a b)) _ r delete-checked h q

    module _ (z : k ≡ 0) where
      -- passed: the places lie in the text, and the cut is the call's
      pub delete_in : Ready F l → In (text_of l) a b
      delete_in h =
          let p = own-passed catalogue F l (range_tests catalogue F l a b) (delete-checked ∙ z) in
          range_in l a b (sym (length-kept F l h)) p.place p.split

      pub delete-done : (r : EditAnswer) (t rb tb : List ℕ) → Edited F l
          (edited catalogue F (sizes_of l) (length l.text) (once (cutting a b) a) (state_of catalogue F l)) r t rb tb
          → Edited F l (delete_range_call catalogue F l a b) r t rb tb
      delete-done r t rb tb q = passed_by F l k (checked catalogue F l (range_tests catalogue F l a b)) _ r t rb tb delete-checked z q

  -- ---- replace, where w is what the code says of 4
  module _ (s : List ℕ) (w : Bool) (at-s : w ≡ is_text catalogue s) (k : ℕ)
      (e : k ≡ checked catalogue F l (own (record {
        sizes = ltb (length l.text) (length s);
        code = false;
        foreign = not w;
        place = ltb
            l.line.len b || ltb b a;
        split = x || y;
      }))) where
    abbrev tests : Tests
    tests = replace_tests catalogue F l a b s

    -- the checks are the call's
    replace-checked : checked catalogue F l tests ≡ k
    replace-checked =
        sym (e
        ∙ ap (λ (i : Bool). checked catalogue F l (with_split (x || y) (with_foreign (not i) tests))) at-s
        ∙ split_as F l tests (x || y) tests.split split-is)

    -- refused by k
    pub replace-refused : (k ≡ 0 → ⊥) → (r : EditAnswer) → r ≡ says k l.line l.log → Edited F l (replace_call catalogue F l a b s) r l.text l.records l.texts
    replace-refused h r q = refused_by F l k (checked catalogue F l tests) _ r replace-checked h q

    module _ (z : k ≡ 0) (h : Ready F l) where
      -- passed: the places lie in the text
      passed : Passed tests
      passed = own-passed catalogue F l tests (replace-checked ∙ z)

      replace_in : In (text_of l) a b
      replace_in = range_in l a b (sym (length-kept F l h)) passed.place passed.split

      pub replace-places : (a ≤ b) × (b ≤ l.line.len)
      replace-places = (replace_in.0, omega (arith, replace_in.1, length-kept F l h))

      -- the cursor is a machine's number
      pub replace-cursor : a + length s ≤ text_max + text_max
      replace-cursor = omega (arith, replace-places.0, replace-places.1, h.used, h.limit, h.log.fit.text, ltb-false (length l.text) (length s) passed.sizes)

      -- both texts are of the repertoire
      pub replace-texts : ok_change catalogue (edit (replace a (part (text_of l) a b) s)) ≡ true
      replace-texts = rw (part-text catalogue (text_of l) a b replace_in h.text, not-false (is_text catalogue s) passed.foreign)

      -- and the change is the call's
      pub replace-done : (r : EditAnswer) (t rb tb : List ℕ) → Edited F l
          (change_out F (sizes_of l) (length l.text) true (replace a (part (text_of l) a b) s) (a + length s) (state_of catalogue F l)) r t rb tb
          → Edited F l (replace_call catalogue F l a b s) r t rb tb
      replace-done r t rb tb q =
          passed_by F l k (checked catalogue F l tests) _ r t rb tb replace-checked z
          (outcome_as F l _ _ r t rb tb (once_swap catalogue F (sizes_of l) (length l.text) (a + length s) (state_of catalogue F l) a b s replace_in) q)
