-- The newest record of a list, read at its place: the list's tail by its numbers. Assumes nothing.
use Prim.Native.Nat.{ℕ}
use native.Mathlib.Omega.{arith}
use mathlib.Core.Path.{◌≡◌, refl, sym, ap, ap₂, ◌∙◌}
use mathlib.Core.Bool.{Bool, false}
use mathlib.Core.List.{List, [], ◌∷◌, reverse, reverse-reverse}
use lib.ListN.{length, drop}
use Rattle.std.specs.Prelude.{Option, Some, None, MatchOption, option_and_then}
use Rattle.repertoire.specs.Repertoire.{Repertoire}
use Rattle.log_model.specs.Change.{insert, delete, replace, Change, begin, end, edit}
use Rattle.formats.specs.declared.Format.{Format}
use Rattle.log_model.specs.Layout.{encode_records, encode_texts, Layout}
use Rattle.log_model.specs.UndoBytes.{undo_records, undo_texts}
use Rattle.log_model.proofs.Newest.{undo-reverse}
use Rattle.log_records.specs.declared.EditRecord.{EditRecord}
use Rattle.log_records.specs.declared.Record.{Record}
use Rattle.log_records.specs.Records.{numbers_of, record_at}
use Rattle.log_records.specs.Walks.{LastAt}
use Rattle.log_records.proofs.Records.{no_byte, record_back}
use Rattle.log_recording.specs.Tails.{tail, as_edit, newest_edit, tail_of, tail_for}

-- the newest record of a list, by its numbers
as-edit : (F : Format) (c : Change) (v : List Change) → as_edit (numbers_of F c) ≡ newest_edit (c ∷ v)
as-edit F begin v = refl
as-edit F end v = refl
as-edit F (edit (insert p s)) v = refl
as-edit F (edit (delete p s)) v = refl
as-edit F (edit (replace p o s)) v = refl

pub edit_of : (r : Option Record) (y : Option EditRecord) → MatchOption r (y ≡ None) (λ x. y ≡ as_edit x) → y ≡ option_and_then as_edit r
edit_of None y e = e
edit_of (Some r) y e = e

module _ (R : Repertoire) (F : Format) (rs : List ℕ) where
  sizes : (ts : List ℕ) (us : List Change) (t : ℕ) → Layout R F rs ts us → t ≡ length ts → (y : Option EditRecord)
      → tail (length rs) t y ≡ tail (length (undo_records F (reverse us))) (length (undo_texts (reverse us))) y
  unfolding undo_texts
  sizes ts us t l e y =
      ap₂ (λ (a b : ℕ). tail a b y) (ap length l.records ∙ sym (ap length (undo-reverse F us)))
      (e ∙ ap length l.texts ∙ ap (λ (w : List Change). length (encode_texts w)) (sym (reverse-reverse us)))

  -- r is read where the newest record begins
  module _ (last t : ℕ) (q : LastAt R F rs last) (r : Option Record) (x : r ≡ record_at F rs last) where
    read-newest : (ts : List ℕ) (us : List Change) → Layout R F rs ts us → (u : List Change) → reverse us ≡ u → option_and_then as_edit r ≡ newest_edit u
    read-newest ts us l [] e =
        let z : length rs ≡ 0 = ap length l.records ∙ ap (λ (v : List Change). length (encode_records F v)) (sym (reverse-reverse us) ∙ ap reverse e) in
        ap (option_and_then as_edit) (x ∙ sym (no_byte F rs last (omega arith)))
    read-newest ts us l (c ∷ v) e =
        ap (option_and_then as_edit) (x ∙ record_back R F rs ts us [] v c last l e
        (q ts us l ∙ ap (λ (w : List Change). length (undo_records F (drop 1 w))) e)) ∙ as-edit F c v

    pub tail_is : (y : Option EditRecord) → y ≡ option_and_then as_edit r → (ts : List ℕ) (us : List Change) → Layout R F rs ts us → t ≡ length ts
        → tail (length rs) t y ≡ tail_of F (reverse us)
    unfolding tail_of
    tail_is y f ts us l e = sizes ts us t l e y ∙ ap (tail (length (undo_records F (reverse us))) (length (undo_texts (reverse us)))) (f ∙ read-newest ts us l (reverse us) refl)

  -- as far as a change looks at it that is not joined
  pub tail_apart : (t : ℕ) (j : Bool) → j ≡ false → (ts : List ℕ) (us : List Change) → Layout R F rs ts us → t ≡ length ts
      → tail (length rs) t None ≡ tail_for j (tail_of F (reverse us))
  unfolding tail_of
  tail_apart t j z ts us l e = rw z (sizes ts us t l e None)
