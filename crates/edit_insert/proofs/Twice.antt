-- The calls that cut and then put in, by their checks and their plans. Assumes nothing.
use Prim.Native.Nat.{ℕ, ◌+◌, ◌-◌, ◌≤◌}
use native.Mathlib.Omega.{arith}
use mathlib.Core.Path.{◌≡◌, refl, sym, ap, subst, ◌∙◌}
use mathlib.Core.Bool.{Bool, true, not}
use mathlib.Core.List.{List, [], ◌∷◌}
use lib.Dec.{ltb}
use lib.ListN.{length}
use borrow.Author.Tests.{ltb-false, not-false}
use Rattle.utf8.specs.Chars.{valid, boundary}
use Rattle.repertoire.specs.Repertoire.{catalogue}
use Rattle.repertoire.specs.Text.{is_text}
use Rattle.repertoire.proofs.Text.{text-valid}
use Rattle.checks.specs.Checks.{Tests}
use Rattle.formats.specs.declared.Format.{Format}
use Rattle.edit.specs.declared.EditAnswer.{EditAnswer}
use Rattle.edit.specs.Plan.{Plan, cutting, pasted, AllSuit}
use Rattle.edit.specs.Calls.{Lent, text_of, says, checked, Edited, Ready}
use Rattle.edit.proofs.Tests.{split_as, own-split_as, own-passed, text-lent}
use Rattle.edit_insert.specs.Inserts.{empty_is, yank_pop_plan, update_plan, text_tests, update_call}
use Rattle.edit.proofs.Answers.{refused_by, passed_by, length-kept}
use Rattle.edit.proofs.Made.{plan_made}
use Rattle.edit_insert.proofs.Puts.{carried}
use Rattle.edit_insert.proofs.Calls.{made_tests, as_text, text-passed}
use Rattle.edit_insert.proofs.Suits.{update_suits}

pub empty-one : (s : List ℕ) → length s ≡ 0 → 1 ≡ empty_is s
empty-one [] e = refl
empty-one (b ∷ s) e = absurd (omega arith)

pub empty-zero : (s : List ℕ) → (length s ≡ 0 → ⊥) → 0 ≡ empty_is s
empty-zero [] h = absurd (h refl)
empty-zero (b ∷ s) h = refl

-- a cut, then a text put in
abbrev pub pair : ℕ → ℕ → List ℕ → ℕ → ℕ → Plan
pair a b s c m = record { changes = cutting a b ∷ pasted a s ∷ []; cursor = c; number = m; from = 0; to = 0 }

-- ---- yank_pop
module _ (F : Format) (l : Lent) (size : ℕ) (s : List ℕ) where
  abbrev pos : ℕ
  pos = l.line.cursor

  abbrev pub pop_tests : Tests
  pop_tests = text_tests catalogue F l s (ltb pos size) (not (boundary (text_of l) (pos - size)))

  -- the tests as the code makes them: b says whether s is a text, x whether at lies inside a character
  pub as_pop : {at k : ℕ} {b x : Bool} → at ≡ pos - size → k ≡ checked catalogue F l (made_tests l s b (ltb pos size) x) → b ≡ is_text catalogue s
      → (l.line.len ≤ length l.text → valid (text_of l) ≡ true → x ≡ not (boundary (text_of l) at)) → checked catalogue F l pop_tests ≡ k
  as_pop {at} {k} {b} {x} a q e g =
      sym (split_as F l pop_tests x (not (boundary (text_of l) (pos - size)))
      (λ u f. let w = text-lent F l u f in g w.0 w.1 ∙ ap (λ (i : ℕ). not (boundary (text_of l) i)) a))
      ∙ as_text F l s (ltb pos size) x q e

  pub pop_passed : checked catalogue F l pop_tests ≡ 0
      → (is_text catalogue s ≡ true) × (length s ≤ length l.text) × (size ≤ pos) × (boundary (text_of l) (pos - size) ≡ true)
  pop_passed z =
      let t = text-passed F l s (ltb pos size) (not (boundary (text_of l) (pos - size))) z in
      let p = own-passed catalogue F l pop_tests z in
      (t.0, t.1, ltb-false pos size p.place, not-false _ p.split)

pub pop_plan : (pos size : ℕ) (s : List ℕ) {m : ℕ} → m ≡ empty_is s → pair (pos - size) pos s (pos - size + length s) m ≡ yank_pop_plan pos size s
pop_plan pos size s e = ap (pair (pos - size) pos s (pos - size + length s)) e

-- ---- update
module _ (F : Format) (l : Lent) (s : List ℕ) (pos k : ℕ) (b y : Bool) (q : k ≡ checked catalogue F l (made_tests l s b (ltb (length s) pos) (not y)))
    (e : b ≡ is_text catalogue s) (g : valid s ≡ true → y ≡ boundary s pos) where
  abbrev new_tests : Tests
  new_tests = text_tests catalogue F l s (ltb (length s) pos) (not (boundary s pos))

  update-checked : checked catalogue F l new_tests ≡ k
  update-checked =
      sym (own-split_as F l new_tests (not y) (not (boundary s pos)) (λ f. ap (λ (i : Bool). not i) (g (text-valid catalogue s (not-false (is_text catalogue s) f)))))
      ∙ as_text F l s (ltb (length s) pos) (not y) q e

  pub update-refused : (k ≡ 0 → ⊥) → (r : EditAnswer) → r ≡ says k l.line l.log → Edited F l (update_call catalogue F l s pos) r l.text l.records l.texts
  update-refused h r f = refused_by F l k (checked catalogue F l new_tests) (carried F l (update_plan (text_of l) s pos)) r update-checked h f

  module _ (z : k ≡ 0) (h : Ready F l) where
    pub new_suits : AllSuit catalogue (cutting 0 l.line.len ∷ pasted 0 s ∷ []) (text_of l)
    new_suits =
        subst (λ (i : ℕ). AllSuit catalogue (cutting 0 i ∷ pasted 0 s ∷ []) (text_of l)) (length-kept F l h)
        (update_suits catalogue (text_of l) h.text s pos (text-passed F l s (ltb (length s) pos) (not (boundary s pos)) (update-checked ∙ z)).0)

    pub update-done : (r : EditAnswer) (t rb tb : List ℕ) → Edited F l (carried F l (pair 0 l.line.len s pos 0)) r t rb tb
        → Edited F l (update_call catalogue F l s pos) r t rb tb
    update-done r t rb tb p =
        passed_by F l k (checked catalogue F l new_tests) (carried F l (update_plan (text_of l) s pos)) r t rb tb update-checked z
        (plan_made F l (ap (λ (i : ℕ). pair 0 i s pos 0) (sym (length-kept F l h))) p)
