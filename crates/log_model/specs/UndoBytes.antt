-- The undo list in bytes. It is held newest first and written oldest first.
use Rattle.std.specs.Prelude.{ℕ, ◌+◌, Bool, true, ◌&&◌, List, [], ◌∷◌, reverse, leb, ltb, length}
use Rattle.std.proofs.Math.Option.{Option, some, none}
use Rattle.log_model.specs.Change.{insert, delete, replace, Change, begin, end, edit}
use Rattle.numbers.specs.Numbers.{top}
use Rattle.formats.specs.declared.Format.{Format}
use Rattle.log_model.specs.Layout.{encode_records, encode_texts}

unfoldable pub undo_records : Format → List Change → List ℕ
undo_records F u = encode_records F (reverse u)

unfoldable pub undo_texts : List Change → List ℕ
undo_texts u = encode_texts (reverse u)

-- ---- check 10, "log full": where the records and their texts fit
-- the lengths of the two buffers
pub record Sizes : Type 0 where
  pub records : ℕ
  pub texts : ℕ

-- the numbers of a record fit w bytes
abbrev pub numbers_fit : ℕ → Change → Bool
numbers_fit w begin = true
numbers_fit w end = true
numbers_fit w (edit (insert p s)) = ltb p (top w) && ltb (length s) (top w)
numbers_fit w (edit (delete p s)) = ltb p (top w) && ltb (length s) (top w)
numbers_fit w (edit (replace p o n)) = ltb p (top w) && (ltb (length o) (top w) && ltb (length n) (top w))

unfoldable pub all_numbers_fit : ℕ → List Change → Bool
all_numbers_fit w [] = true
all_numbers_fit w (c ∷ u) = numbers_fit w c && all_numbers_fit w u

-- an undo list fits buffers of these lengths, the redo list dropped
unfoldable pub fits : Format → Sizes → List Change → Bool
fits F z u = all_numbers_fit F.width u && (leb (length (undo_records F u)) z.records && leb (length (undo_texts u)) z.texts)

-- ---- last_insert: where the text that it finds stands in the undo list's texts
abbrev pub Places : Type 0
Places = ℕ × ℕ

unfoldable pub last_insert_at : List Change → Option Places
last_insert_at [] = none
last_insert_at (begin ∷ u) = none
last_insert_at (end ∷ u) = last_insert_at u
last_insert_at (edit (insert p s) ∷ u) = some (length (undo_texts u), length (undo_texts u) + length s)
last_insert_at (edit (delete p s) ∷ u) = none
last_insert_at (edit (replace p o n) ∷ u) = some (length (undo_texts u) + length o, length (undo_texts u) + length o + length n)
