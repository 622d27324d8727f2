-- The calls that put in by their tests and their plans. Assumes nothing.
use Prim.Native.Nat.{ℕ, ◌+◌, ◌≤◌}
use native.Mathlib.Omega.{arith}
use mathlib.Core.Path.{◌≡◌, refl, sym, ap, ◌∙◌}
use mathlib.Core.Bool.{Bool, true, false, not}
use mathlib.Core.List.{List, [], ◌∷◌}
use lib.Dec.{ltb}
use lib.ListN.{length}
use borrow.Author.Tests.{eq-eqb, ne_eqb, ltb-false, not-false}
use Rattle.utf8.specs.Encode.{encode}
use Rattle.repertoire.specs.Repertoire.{catalogue}
use Rattle.repertoire.specs.Text.{is_text, is_char}
use Rattle.checks.specs.Checks.{Tests, no_tests, with_sizes, with_foreign, with_place, with_split, own_tests}
use Rattle.formats.specs.declared.Format.{Format}
use Rattle.edit.specs.Plan.{typed, pasted, once, nothing}
use Rattle.edit.specs.Calls.{Lent, checked}
use Rattle.edit.proofs.Tests.{own-passed}
use Rattle.edit_insert.specs.Inserts.{insert_plan, yank_plan, text_tests}
use Rattle.buffer.specs.Edit.{copies}

-- ---- insert
-- the test of the character, as the code makes it: b says whether ch is one
module _ (F : Format) (l : Lent) (ch : ℕ) where
  pub as_char : {k : ℕ} {b : Bool} → k ≡ checked catalogue F l (own_tests false (not b) false) → b ≡ is_char catalogue ch
      → checked catalogue F l (own_tests false (not (is_char catalogue ch)) false) ≡ k
  as_char q e = sym (q ∙ ap (λ (x : Bool). checked catalogue F l (own_tests false (not x) false)) e)

  pub char-passed : checked catalogue F l (own_tests false (not (is_char catalogue ch)) false) ≡ 0 → is_char catalogue ch ≡ true
  char-passed z = not-false (is_char catalogue ch) (own-passed catalogue F l (own_tests false (not (is_char catalogue ch)) false) z).foreign

module _ (pos ch n : ℕ) where
  pub plan_one : n ≡ 1 → once (typed pos ch) (pos + length (encode ch)) ≡ insert_plan pos ch n
  plan_one h = rw (eq-eqb n 1 h)

  pub plan_many : (n ≡ 1 → ⊥) → {s : List ℕ} → s ≡ encode ch → once (pasted pos (copies n s)) (pos + length (copies n s)) ≡ insert_plan pos ch n
  plan_many h g = rw (ne_eqb n 1 h, g)

-- ---- the tests of a text that is put in, as the code makes them: b says whether s is a text
abbrev pub made_tests : Lent → List ℕ → Bool → Bool → Bool → Tests
made_tests l s b place split = with_sizes (ltb (length l.text) (length s)) (with_foreign (not b) (with_place place (with_split split no_tests)))

module _ (F : Format) (l : Lent) (s : List ℕ) (place split : Bool) where
  pub as_text : {k : ℕ} {b : Bool} → k ≡ checked catalogue F l (made_tests l s b place split) → b ≡ is_text catalogue s
      → checked catalogue F l (text_tests catalogue F l s place split) ≡ k
  as_text q e = sym (q ∙ ap (λ (x : Bool). checked catalogue F l (made_tests l s x place split)) e)

  pub text-passed : checked catalogue F l (text_tests catalogue F l s place split) ≡ 0 → (is_text catalogue s ≡ true) × (length s ≤ length l.text)
  text-passed z =
      let p = own-passed catalogue F l (text_tests catalogue F l s place split) z in
      (not-false (is_text catalogue s) p.foreign, ltb-false (length l.text) (length s) p.sizes)

-- ---- yank
pub plan_empty : (pos : ℕ) (s : List ℕ) (n : ℕ) → length s ≡ 0 → nothing pos ≡ yank_plan pos s n
plan_empty pos [] n e = refl
plan_empty pos (b ∷ s) n e = absurd (omega arith)

pub plan_some : (pos : ℕ) (s : List ℕ) (n : ℕ) → (length s ≡ 0 → ⊥) → once (pasted pos (copies n s)) (pos + length (copies n s)) ≡ yank_plan pos s n
plan_some pos [] n h = absurd (h refl)
plan_some pos (b ∷ s) n h = refl
