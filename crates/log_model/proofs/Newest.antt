-- Lists newest first: one change more, the bytes of a list turned round, the newest changes passed, and a record turned round twice. Assumes nothing.
use mathlib.Core.Path.{◌≡◌, refl, ap, ap₂}
use mathlib.Core.Bool.{Bool, true, false}
use mathlib.Core.List.{List, [], ◌∷◌, ◌++◌, map, reverse, reverse-append, reverse-reverse}
use Rattle.log_model.specs.Change.{insert, delete, replace, Change, begin, end, edit, turn}
use Rattle.formats.specs.declared.Format.{Format}
use Rattle.log_model.specs.Layout.{encode_records}
use Rattle.log_model.specs.Groups.{passed}
use Rattle.log_model.specs.UndoBytes.{undo_records}

pub reverse_snoc : (us : List Change) (c : Change) → reverse (us ++ (c ∷ [])) ≡ c ∷ reverse us
reverse_snoc us c = reverse-append us (c ∷ [])

pub undo-reverse : (F : Format) (us : List Change) → undo_records F (reverse us) ≡ encode_records F us
unfolding undo_records
undo-reverse F us = ap (encode_records F) (reverse-reverse us)

pub undo_nil : (F : Format) → undo_records F [] ≡ []
unfolding undo_records
undo_nil F = refl

pub passed_nil : (f : Change → Bool) → passed f [] ≡ []
unfolding passed
passed_nil f = refl

module _ (f : Change → Bool) (c : Change) (u : List Change) where
  pub passed_over : f c ≡ true → passed f (c ∷ u) ≡ passed f u
  unfolding passed
  passed_over h = rw h

  pub passed_up_to : f c ≡ false → passed f (c ∷ u) ≡ c ∷ u
  unfolding passed
  passed_up_to h = rw h

-- ---- a record turned round twice
pub turn-turn : (c : Change) → turn (turn c) ≡ c
turn-turn begin = refl
turn-turn end = refl
turn-turn (edit (insert p s)) = refl
turn-turn (edit (delete p s)) = refl
turn-turn (edit (replace p o n)) = refl

pub turned_back : (r : List Change) → map turn (map turn r) ≡ r
turned_back [] = refl
turned_back (c ∷ r) = ap₂ (λ (x : Change) (l : List Change). x ∷ l) (turn-turn c) (turned_back r)
