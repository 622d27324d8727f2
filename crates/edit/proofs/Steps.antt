-- A list of changes, one after the other: the texts in between, and the log as it grows. Assumes nothing.
use Prim.Native.Nat.{ℕ, ◌+◌, ◌≤◌, ◌<◌}
use native.Mathlib.Omega.{arith}
use mathlib.Core.Path.{◌≡◌, sym, ap, subst, ◌∙◌}
use mathlib.Core.Bool.{true, false, ◌&&◌}
use mathlib.Core.List.{List, [], ◌∷◌}
use lib.Dec.{leb, ltb}
use lib.ListN.{length}
use borrow.Author.Tests.{ltb-false, leb-true, leb-false}
use Rattle.lists.proofs.Bools.{and_both, or_none, by_test}
use Rattle.repertoire.specs.Repertoire.{Repertoire}
use Rattle.repertoire.specs.Text.{is_text}
use Rattle.log_model.specs.Change.{Change, old, new}
use Rattle.numbers.specs.Numbers.{top}
use Rattle.formats.specs.declared.Format.{Format}
use Rattle.log_model.specs.Layout.{AllGood}
use Rattle.log_model.specs.UndoBytes.{undo_records, undo_texts, all_numbers_fit, Sizes, fits}
use Rattle.log_model.proofs.UndoBytes.{fits_yes, full_records, full_texts}
use Rattle.edit.specs.Plan.{PlannedChange, Suits, AllSuit, made, recorded, text_after, list_after, too_long}
use Rattle.edit.proofs.PlannedChanges.{edit_at, joins_at, place_at, recorded_as, ok_at, suits_in, made-text, more_records, more_texts}
use Rattle.edit.proofs.PlannedChanges.{more_good}

-- check 10 by the two lengths, of a list whose numbers fit their bytes where its texts are not too long
pub fits-lengths : (R : Repertoire) (F : Format) (z : Sizes) → z.texts < top F.width → (y : List Change) → (length (undo_texts y) < top F.width → AllGood R F.width y)
    → fits F z y ≡ (leb (length (undo_records F y)) z.records && leb (length (undo_texts y)) z.texts)
fits-lengths R F z w y g =
    by_test (fits F z y ≡ (leb (length (undo_records F y)) z.records && leb (length (undo_texts y)) z.texts)) (leb (length (undo_records F y)) z.records)
    (λ e. by_test (fits F z y ≡ (leb (length (undo_records F y)) z.records && leb (length (undo_texts y)) z.texts)) (leb (length (undo_texts y)) z.texts)
    (λ f. let i = leb-true (length (undo_texts y)) z.texts f in rw (e, f) (fits_yes F z y R (g (omega arith)) (leb-true _ _ e) i))
    (λ f. rw (e, f) (full_texts F z y (leb-false _ _ f))))
    (λ e. rw e (full_records F z y (leb-false _ _ e)))

module _ (R : Repertoire) where
  -- the text afterwards is a text
  pub text-after : (xs : List PlannedChange) (t : List ℕ) → is_text R t ≡ true → AllSuit R xs t → is_text R (text_after xs t) ≡ true
  unfolding text_after AllSuit
  text-after [] t v h = v
  text-after (x ∷ xs) t v h = text-after xs (made x t) (made-text R x t h.0 v) h.1

  module _ (F : Format) where
    -- the log grows
    pub records_grow : (x : PlannedChange) (t : List ℕ) (u : List Change) → length (undo_records F u) ≤ length (undo_records F (recorded R x t u))
    records_grow x t u = omega (arith, more_records F (joins_at R x t) (edit_at x t) u, ap (λ (v : List Change). length (undo_records F v)) (recorded_as R x t u))

    pub texts_grow : (x : PlannedChange) (t : List ℕ) (u : List Change) → length (undo_texts (recorded R x t u)) ≡ length (undo_texts u) +
        (length (old (edit_at x t)) + length (new (edit_at x t)))
    texts_grow x t u = ap (λ (v : List Change). length (undo_texts v)) (recorded_as R x t u) ∙ more_texts F (joins_at R x t) (edit_at x t) u

    pub records-after : (xs : List PlannedChange) (t : List ℕ) (u : List Change) → length (undo_records F u) ≤ length (undo_records F (list_after R xs t u))
    unfolding list_after
    records-after [] t u = omega arith
    records-after (x ∷ xs) t u = omega (arith, records_grow x t u, records-after xs (made x t) (recorded R x t u))

    pub texts-after : (xs : List PlannedChange) (t : List ℕ) (u : List Change) → length (undo_texts u) ≤ length (undo_texts (list_after R xs t u))
    unfolding list_after
    texts-after [] t u = omega arith
    texts-after (x ∷ xs) t u = omega (arith, texts_grow x t u, texts-after xs (made x t) (recorded R x t u))

    -- its numbers fit their bytes, where places are within C and the texts are not too long
    module _ (C : ℕ) (w : C < top F.width) where
      pub good_step : (x : PlannedChange) (t : List ℕ) (u : List Change) → Suits R x t → is_text R t ≡ true → length t ≤ C → AllGood R F.width u
          → length (undo_texts (recorded R x t u)) < top F.width → AllGood R F.width (recorded R x t u)
      good_step x t u h v c g l =
          let e = recorded_as R x t u in
          let i = suits_in R x t h in
          let a = i.0 in
          let b = i.1 in
          subst (AllGood R F.width) (sym e)
          (more_good F (joins_at R x t) (edit_at x t) u R g (ok_at R x t v h) (omega (arith, place_at x t))
          (omega (arith, ap (λ (y : List Change). length (undo_texts y)) e)))

      pub good-after : (xs : List PlannedChange) (t : List ℕ) (u : List Change) → AllSuit R xs t → is_text R t ≡ true → length t ≤ C → too_long C xs t ≡ false
          → AllGood R F.width u → length (undo_texts (list_after R xs t u)) < top F.width
          → AllGood R F.width (list_after R xs t u)
      unfolding list_after AllSuit too_long
      good-after [] t u h v c n g l = g
      good-after (x ∷ xs) t u h v c n g l =
          let m = or_none (ltb C (length (made x t))) (too_long C xs (made x t)) n in
          good-after xs (made x t) (recorded R x t u) h.1 (made-text R x t h.0 v) (ltb-false _ _ m.0) m.1
          (good_step x t u h.0 v c g (omega (arith, texts-after xs (made x t) (recorded R x t u)))) l

      -- check 10 by the two lengths alone
      module _ (z : Sizes) (k : z.texts < top F.width) where
        pub room-is : (xs : List PlannedChange) (t : List ℕ) (u : List Change) → AllSuit R xs t → is_text R t ≡ true → length t ≤ C → too_long C xs t ≡ false → AllGood R F.width u
            → fits F z (list_after R xs t u) ≡ (leb (length (undo_records F (list_after R xs t u))) z.records && leb (length (undo_texts (list_after R xs t u))) z.texts)
        room-is xs t u h v c n g = fits-lengths R F z k (list_after R xs t u) (λ l. good-after xs t u h v c n g l)

        -- where there is room for all, there is for the first
        pub room-first : (x : PlannedChange) (xs : List PlannedChange) (t : List ℕ) (u : List Change) → Suits R x t → is_text R t ≡ true → length t ≤ C → AllGood R F.width u
            → fits F z (list_after R (x ∷ xs) t u) ≡ true → fits F z (recorded R x t u) ≡ true
        unfolding list_after fits
        room-first x xs t u h v c g e =
            let y = list_after R xs (made x t) (recorded R x t u) in
            let p = and_both (leb (length (undo_records F y)) z.records) (leb (length (undo_texts y)) z.texts) (and_both (all_numbers_fit F.width y) _ e).1 in
            let a = leb-true (length (undo_records F y)) z.records p.0 in
            let b = leb-true (length (undo_texts y)) z.texts p.1 in
            let l = texts-after xs (made x t) (recorded R x t u) in
            fits_yes F z (recorded R x t u) R (good_step x t u h v c g (omega arith)) (omega (arith, records-after xs (made x t) (recorded R x t u))) (omega arith)
