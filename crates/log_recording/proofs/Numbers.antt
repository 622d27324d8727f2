-- An edit by its numbers: its bytes, its texts, and what a list's tail says. Assumes nothing.
use Prim.Native.Nat.{ℕ, ◌+◌, ◌≤◌, ◌<◌}
use native.Mathlib.Omega.{arith}
use mathlib.Core.Path.{◌≡◌, refl, sym, ap}
use mathlib.Core.List.{List, [], ◌∷◌, ◌++◌, append-nil}
use mathlib.Core.Bool.{true}
use lib.ListN.{length, length-append}
use Rattle.std.specs.Prelude.{Some, IfSome}
use Rattle.lists.proofs.Bools.{and_both}
use Rattle.repertoire.specs.Repertoire.{Repertoire}
use Rattle.repertoire.specs.Text.{is_text}
use Rattle.repertoire.proofs.Text.{text_nil}
use Rattle.log_model.specs.Change.{Edit, insert, delete, replace, Change, begin, end, edit, place, old, new}
use Rattle.numbers.specs.Numbers.{top}
use Rattle.formats.specs.declared.Format.{Format}
use Rattle.log_model.specs.Layout.{record_of, texts_of, Representable, ok_change, AllGood}
use Rattle.log_model.specs.UndoBytes.{undo_records, undo_texts}
use Rattle.numbers.proofs.Numbers.{length-le}
use Rattle.log_model.proofs.UndoBytes.{texts-size}
use Rattle.log_records.specs.Written.{record_bytes, edit_size}
use Rattle.log_records.specs.declared.EditRecord.{EditRecord}
use Rattle.log_records.specs.Records.{edit_kind, edit_record}
use Rattle.log_recording.specs.Tails.{tail, tail_of}

-- ---- the record and the texts of an edit
pub record-bytes : (F : Format) (x : Edit) → record_of F (edit x) ≡ record_bytes F (edit_record x)
record-bytes F (insert p s) = refl
record-bytes F (delete p s) = refl
record-bytes F (replace p o n) = refl

pub record-size : (F : Format) (x : Edit) → length (record_of F (edit x)) ≡ edit_size F (edit_kind x)
record-size F (insert p s) = simp (length-append, length-le) (omega arith)
record-size F (delete p s) = simp (length-append, length-le) (omega arith)
record-size F (replace p o n) = simp (length-append, length-le) (omega arith)

pub texts_are : (x : Edit) → texts_of (edit x) ≡ old x ++ new x
texts_are (insert p s) = refl
texts_are (delete p s) = sym (append-nil s)
texts_are (replace p o n) = refl

-- the texts of an edit are of the repertoire
module _ (R : Repertoire) where
  pub ok_texts : (x : Edit) → ok_change R (edit x) ≡ true → (is_text R (old x) ≡ true) × (is_text R (new x) ≡ true)
  ok_texts (insert p s) e = (text_nil R, e)
  ok_texts (delete p s) e = (e, text_nil R)
  ok_texts (replace p o n) e = and_both (is_text R o) (is_text R n) e

  pub texts_ok : (x : Edit) → is_text R (old x) ≡ true → is_text R (new x) ≡ true → ok_change R (edit x) ≡ true
  texts_ok (insert p s) e f = f
  texts_ok (delete p s) e f = e
  texts_ok (replace p o n) e f = rw (e, f)

-- its numbers fit w bytes
pub representable_edit : (w : ℕ) (x : Edit) → place x < top w → length (old x) < top w → length (new x) < top w → Representable w (edit x)
representable_edit w (insert p s) a b c = (a, c)
representable_edit w (delete p s) a b c = (a, b)
representable_edit w (replace p o n) a b c = (a, b, c)

pub representable_place : (w : ℕ) (x : Edit) → Representable w (edit x) → place x < top w
representable_place w (insert p s) h = h.0
representable_place w (delete p s) h = h.0
representable_place w (replace p o n) h = h.0

-- ---- the tail of a list
module _ (F : Format) where
  pub tail-edit : (x : Edit) (u : List Change) → tail_of F (edit x ∷ u) ≡ tail (length (undo_records F (edit x ∷ u))) (length (undo_texts (edit x ∷ u)))
      (Some (edit_record x))
  unfolding tail_of
  tail-edit x u = refl

  pub tail-records : (u : List Change) → (tail_of F u).records ≡ length (undo_records F u)
  unfolding tail_of
  tail-records u = refl

  pub tail-texts : (u : List Change) → (tail_of F u).texts ≡ length (undo_texts u)
  unfolding tail_of
  tail-texts u = refl

  -- the newest record's texts are among the list's
  pub tail_within : (u : List Change) → IfSome (tail_of F u).newest (λ y. y.old + y.new ≤ length (undo_texts u))
  unfolding tail_of
  tail_within [] = tt
  tail_within (begin ∷ u) = tt
  tail_within (end ∷ u) = tt
  tail_within (edit x ∷ u) = omega (arith, texts-size (edit x) u, ap length (texts_are x), length-append (old x) (new x))

  -- so are they in a list of whose changes all are good, and its place is a number of the format
  pub record Bounded (u : List Change) (y : EditRecord) : Type 0 where
    pub within : y.old + y.new ≤ length (undo_texts u)
    pub place : y.place < top F.width

  pub tail_bounded : (R : Repertoire) (u : List Change) → AllGood R F.width u → IfSome (tail_of F u).newest (Bounded u)
  unfolding tail_of
  tail_bounded R [] h = tt
  tail_bounded R (begin ∷ u) h = tt
  tail_bounded R (end ∷ u) h = tt
  tail_bounded R (edit x ∷ u) h =
      record {
        within = omega (arith, texts-size (edit x) u, ap length (texts_are x), length-append (old x) (new x));
        place = representable_place F.width x h.0.0;
      }
