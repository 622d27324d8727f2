-- The undo list in bytes, newest first: a record more, and what fits. Assumes nothing.
use Prim.Native.Nat.{ℕ, ◌+◌, ◌≤◌, ◌<◌}
use mathlib.Core.Path.{◌≡◌, refl, sym, ap, subst, ◌∙◌}
use mathlib.Core.List.{List, [], ◌∷◌, ◌++◌, reverse, reverse-cons}
use mathlib.Core.Bool.{true, false, and-false}
use lib.ListN.{length, length-append}
use lib.Dec.{leb}
use borrow.Author.Tests.{lt-ltb, le-ltb, le-leb, lt-leb}
use Rattle.repertoire.specs.Repertoire.{Repertoire}
use Rattle.log_model.specs.Change.{Edit, insert, delete, replace, Change, begin, end, edit, place}
use Rattle.numbers.specs.Numbers.{top}
use Rattle.formats.specs.declared.Format.{Format}
use Rattle.log_model.specs.Layout.{record_of, texts_of, encode_records, encode_texts, Representable, AllGood}
use Rattle.log_model.specs.UndoBytes.{undo_records, undo_texts, Sizes, numbers_fit, all_numbers_fit, fits}
use Rattle.log_model.proofs.Holds.{records_snoc, texts_snoc, good-append, good_left, good_right}

-- ---- a record more
pub records_cons : (F : Format) (c : Change) (u : List Change) → undo_records F (c ∷ u) ≡ undo_records F u ++ record_of F c
unfolding undo_records
records_cons F c u = ap (encode_records F) (reverse-cons c u) ∙ records_snoc F (reverse u) c

pub texts_cons : (c : Change) (u : List Change) → undo_texts (c ∷ u) ≡ undo_texts u ++ texts_of c
unfolding undo_texts
texts_cons c u = ap encode_texts (reverse-cons c u) ∙ texts_snoc (reverse u) c

pub records-size : (F : Format) (c : Change) (u : List Change) → length (undo_records F (c ∷ u)) ≡ length (undo_records F u) + length (record_of F c)
records-size F c u = ap length (records_cons F c u) ∙ length-append (undo_records F u) (record_of F c)

pub texts-size : (c : Change) (u : List Change) → length (undo_texts (c ∷ u)) ≡ length (undo_texts u) + length (texts_of c)
texts-size c u = ap length (texts_cons c u) ∙ length-append (undo_texts u) (texts_of c)

module _ (R : Repertoire) (w : ℕ) where
  -- oldest first or newest first
  pub good-newest : (u : List Change) → AllGood R w (reverse u) → AllGood R w u
  good-newest [] h = tt
  good-newest (c ∷ u) h =
      let g : AllGood R w (reverse u ++ (c ∷ [])) = subst (AllGood R w) (reverse-cons c u) h in
      ((good_right R w (reverse u) (c ∷ []) g).0, good-newest u (good_left R w (reverse u) (c ∷ []) g))

  pub good_oldest : (u : List Change) → AllGood R w u → AllGood R w (reverse u)
  good_oldest [] h = tt
  good_oldest (c ∷ u) h = subst (AllGood R w) (sym (reverse-cons c u)) (good-append R w (reverse u) (c ∷ []) (good_oldest u h.1) (h.0, tt))

-- ---- check 10
representable_fits : (w : ℕ) (c : Change) → Representable w c → numbers_fit w c ≡ true
representable_fits w begin h = refl
representable_fits w end h = refl
representable_fits w (edit (insert p s)) h = rw (lt-ltb p (top w) h.0, lt-ltb (length s) (top w) h.1)
representable_fits w (edit (delete p s)) h = rw (lt-ltb p (top w) h.0, lt-ltb (length s) (top w) h.1)
representable_fits w (edit (replace p o n)) h = rw (lt-ltb p (top w) h.0, lt-ltb (length o) (top w) h.1, lt-ltb (length n) (top w) h.2)

pub all-numbers-fit : (R : Repertoire) (w : ℕ) (u : List Change) → AllGood R w u → all_numbers_fit w u ≡ true
unfolding all_numbers_fit
all-numbers-fit R w [] h = refl
all-numbers-fit R w (c ∷ u) h = rw (representable_fits w c h.0.0, all-numbers-fit R w u h.1)

-- a place that does not fit
big_place : (w : ℕ) (x : Edit) → top w ≤ place x → numbers_fit w (edit x) ≡ false
big_place w (insert p s) h = rw (le-ltb p (top w) h)
big_place w (delete p s) h = rw (le-ltb p (top w) h)
big_place w (replace p o n) h = rw (le-ltb p (top w) h)

module _ (F : Format) (z : Sizes) (u : List Change) where
  pub fits_yes : (R : Repertoire) → AllGood R F.width u → length (undo_records F u) ≤ z.records → length (undo_texts u) ≤ z.texts → fits F z u ≡ true
  unfolding fits
  fits_yes R g h i = rw (all-numbers-fit R F.width u g, le-leb _ _ h, le-leb _ _ i)

  pub full_records : z.records < length (undo_records F u) → fits F z u ≡ false
  unfolding fits
  full_records h = rw (lt-leb (length (undo_records F u)) z.records h) (and-false (all_numbers_fit F.width u))

  pub full_texts : z.texts < length (undo_texts u) → fits F z u ≡ false
  unfolding fits
  full_texts h = rw (lt-leb (length (undo_texts u)) z.texts h, and-false (leb (length (undo_records F u)) z.records)) (and-false (all_numbers_fit F.width u))

pub full_place : (F : Format) (z : Sizes) (x : Edit) (u : List Change) → top F.width ≤ place x → fits F z (edit x ∷ u) ≡ false
unfolding fits all_numbers_fit
full_place F z x u h = rw (big_place F.width x h)
