-- A plan of one planned change is that change. Assumes nothing.
use Prim.Native.Nat.{ℕ, ◌+◌, ◌<◌}
use native.Mathlib.Omega.{arith}
use mathlib.Core.Path.{◌≡◌, refl, sym, ap, ap₂, ◌∙◌}
use mathlib.Core.Bool.{Bool, true, false, cond, or-false}
use mathlib.Core.List.{List, [], ◌∷◌}
use lib.Dec.{ltb}
use lib.ListN.{length}
use Rattle.lists.specs.Lists.{part}
use Rattle.utf8.specs.Chars.{In}
use Rattle.utf8.specs.Encode.{encode}
use Rattle.utf8.proofs.Chars.{size_pos}
use Rattle.utf8.proofs.Encode.{size-encode}
use Rattle.repertoire.specs.Repertoire.{Repertoire}
use Rattle.cluster.specs.Clusters.{clusters_of}
use Rattle.checks.specs.Outcome.{Outcome, refused, answered}
use Rattle.log_model.specs.Change.{Edit, insert, delete, replace, Change}
use Rattle.formats.specs.declared.Format.{Format}
use Rattle.log_model.specs.Recording.{is_single, note, record_insert, record_insert_str, record_delete, record_replace}
use Rattle.log_model.specs.UndoBytes.{Sizes, fits}
use Rattle.edit.specs.Plan.{PlannedChange, typed, pasted, cutting, swapping, made, recorded, splice, State, once, edited}
use Rattle.edit.specs.Plan.{list_after, text_after, too_long, change_out, changed, noted_or}
use Rattle.edit.proofs.Parts.{part_length}

-- ---- the outcome of one planned change, where it is the change x
one_change : (R : Repertoire) (F : Format) (z : Sizes) (C : ℕ) (y : PlannedChange) (p : ℕ) (s : State) (j : Bool) (x : Edit)
    → made y s.text ≡ changed x s.text → recorded R y s.text s.log.undo ≡ noted_or j x s.log.undo → change_out F z C j x p s ≡ edited R F z C (once y p) s
unfolding edited change_out text_after list_after too_long
one_change R F z C y p s j x e f =
    sym (ap (λ (b : Bool). cond b (refused 9) (behind (made y s.text) (recorded R y s.text s.log.undo))) (or-false (ltb C (length (made y s.text))))
    ∙ ap₂ (λ (t : List ℕ) (u : List Change). cond (ltb C (length t)) (refused 9) (behind t u)) e f)
  where
    behind : List ℕ → List Change → Outcome State
    behind t u = cond (fits F z u) (answered 0 0 0 (record { text = t; cursor = p; log = record { undo = u; redo = []; level = s.log.level } })) (refused 10)

pub noted-insert : (p : ℕ) (s : List ℕ) (u : List Change) → record_insert_str p s u ≡ noted_or false (insert p s) u
unfolding record_insert_str
noted-insert p [] u = refl
noted-insert p (b ∷ s) u = refl

pub noted-delete : (R : Repertoire) (p : ℕ) (s : List ℕ) (u : List Change) → record_delete R p s u ≡ noted_or (is_single R (clusters_of R s)) (delete p s) u
unfolding record_delete
noted-delete R p [] u = refl
noted-delete R p (b ∷ s) u = refl

noted_some : (j : Bool) (p : ℕ) (s : List ℕ) (u : List Change) → 0 < length s → note j (insert p s) u ≡ noted_or j (insert p s) u
noted_some j p [] u h = absurd (omega arith)
noted_some j p (b ∷ s) u h = refl

-- a character has a byte at least
noted-typed : (R : Repertoire) (p c : ℕ) (j : Bool) (s : List ℕ) (u : List Change) → j ≡ R.alnum c → s ≡ encode c → record_insert R p c u ≡ noted_or j (insert p s) u
unfolding record_insert
noted-typed R p c j s u e f =
    ap₂ (λ (i : Bool) (t : List ℕ). note i (insert p t) u) (sym e) (sym f) ∙ noted_some j p s u (omega (arith, ap length f, size-encode c, size_pos c))

module _ (R : Repertoire) (F : Format) (z : Sizes) (C p : ℕ) (s : State) where
  -- bytes cut out
  pub once-cut : (a b : ℕ) (j : Bool) → In s.text a b → j ≡ is_single R (clusters_of R (part s.text a b))
      → change_out F z C j (delete a (part s.text a b)) p s ≡ edited R F z C (once (cutting a b) p) s
  once-cut a b j i e =
      let h = i.0 in
      let k : b ≡ a + length (part s.text a b) = omega (arith, part_length R s.text a b i) in
      one_change R F z C (cutting a b) p s j (delete a (part s.text a b)) (ap (λ (m : ℕ). splice s.text a m []) k)
      (noted-delete R a (part s.text a b) s.log.undo ∙ ap (λ (c : Bool). noted_or c (delete a (part s.text a b)) s.log.undo) (sym e))

  -- bytes replaced
  pub once_swap : (a b : ℕ) (n : List ℕ) → In s.text a b → change_out F z C true (replace a (part s.text a b) n) p s ≡ edited R F z C (once (swapping a b n) p) s
  unfolding record_replace
  once_swap a b n i =
      let h = i.0 in
      let k : b ≡ a + length (part s.text a b) = omega (arith, part_length R s.text a b i) in
      one_change R F z C (swapping a b n) p s true (replace a (part s.text a b) n) (ap (λ (m : ℕ). splice s.text a m n) k) refl

  -- a text put in
  pub once-paste : (a : ℕ) (n : List ℕ) → change_out F z C false (insert a n) p s ≡ edited R F z C (once (pasted a n) p) s
  once-paste a n =
      let k : a ≡ a + 0 = omega arith in
      one_change R F z C (pasted a n) p s false (insert a n) (ap (λ (m : ℕ). splice s.text a m n) k) (noted-insert a n s.log.undo)

  -- a character typed
  pub once-typed : (a c : ℕ) (j : Bool) (n : List ℕ) → j ≡ R.alnum c → n ≡ encode c → change_out F z C j (insert a n) p s ≡ edited R F z C (once (typed a c) p) s
  once-typed a c j n e f =
      let k : a ≡ a + 0 = omega arith in
      one_change R F z C (typed a c) p s j (insert a n) (ap₂ (λ (m : ℕ) (x : List ℕ). splice s.text a m x) k (sym f)) (noted-typed R a c j n s.log.undo e f)
