-- The wrong answers that the calls' comments name: small logs at which the definitions give something else. Assumes nothing.
use Prim.Native.Nat.{ℕ}
use mathlib.Core.Path.{◌≡◌, refl}
use mathlib.Core.List.{List, [], ◌∷◌}
use Rattle.utf8.specs.Utf8.{first, first_of, one, within}
use Rattle.utf8.specs.Chars.{chars_from}
use Rattle.utf8.specs.Encode.{encode}
use Rattle.repertoire.specs.Repertoire.{catalogue, is_alnum, is_control, is_mark}
use Rattle.cluster.specs.Clusters.{clusters, joined}
use Rattle.checks.specs.Outcome.{refused, answered}
use Rattle.log_model.specs.Change.{Change, begin, end, edit, insert, delete, replace}
use Rattle.formats.specs.Formats.{format_for, log_format}
use Rattle.log_model.specs.Recording.{note, record_insert, record_insert_str, record_delete, record_replace}
use Rattle.log_model.specs.Groups.{Log, empty, end_all, ends_any}
use Rattle.log_model.specs.UndoBytes.{Sizes, undo_records, undo_texts, all_numbers_fit, fits, last_insert_at}
use Rattle.log_state.specs.Outcomes.{begin_out, end_out, record_out, truncate_out, last_insert_out}
use Rattle.log_state.specs.Calls.{log_of}

abbrev a : List ℕ
a = 0x61 ∷ []

abbrev b : List ℕ
b = 0x62 ∷ []

abbrev ab : List ℕ
ab = 0x61 ∷ 0x62 ∷ []

-- the lengths of two buffers
abbrev room : ℕ → ℕ → Sizes
room r t = record { records = r; texts = t }

-- a redo list of one record, at level 1
abbrev redoable : List Change → Log
redoable u = record { undo = u; redo = end ∷ []; level = 1 }

-- new: the value of its contract is the state of the empty log, with level 0 and used lengths 0
new-empty : log_of log_format empty ≡ record { undo = record { records = 0; texts = 0 }; redo = record { records = 0; texts = 0 }; level = 0 }
new-empty = refl

-- begin: not 10 while there is space, and its mark is the number of records before it
begin-fits : (begin_out log_format (room 1 0) empty ≡ answered 0 0 0 (record { undo = begin ∷ []; redo = []; level = 1 })) × (begin_out log_format (room 0 0) empty ≡ refused 10)
unfolding format_for begin_out fits all_numbers_fit undo_records undo_texts
begin-fits = (refl, refl)

-- end: the level is reset, and an empty group is not closed by an End
end_closes : end_out log_format (room 6 1) (redoable (edit (insert 0 a) ∷ [])) ≡ answered 0 0 0 (record { undo = end ∷ edit (insert 0 a) ∷ []; redo = []; level = 0 })
unfolding format_for end_out end_all ends_any fits all_numbers_fit undo_records undo_texts
end_closes = refl

end_empty : end_out log_format (room 2 0) (redoable (begin ∷ [])) ≡ answered 1 0 0 empty
unfolding format_for end_out end_all ends_any fits all_numbers_fit undo_records undo_texts
end_empty = refl

-- insert: a letter is merged with the letter before it, a space is not, and not across a Begin
insert_joins : record_insert catalogue 1 0x62 (edit (insert 0 a) ∷ []) ≡ edit (insert 0 ab) ∷ []
unfolding record_insert note encode is_alnum within
insert_joins = refl

insert-space : record_insert catalogue 1 0x20 (edit (insert 0 a) ∷ []) ≡ edit (insert 1 (0x20 ∷ [])) ∷ edit (insert 0 a) ∷ []
unfolding record_insert note encode is_alnum within
insert-space = refl

insert-begin : record_insert catalogue 1 0x62 (begin ∷ edit (insert 0 a) ∷ []) ≡ edit (insert 1 b) ∷ begin ∷ edit (insert 0 a) ∷ []
unfolding record_insert note encode is_alnum within
insert-begin = refl

-- insert_str: of an empty text nothing but the redo list dropped, and no merging
str_empty : record_out log_format (room 1 0) (record_insert_str 0 [] []) (redoable []) ≡ answered 0 0 0 (record { undo = []; redo = []; level = 1 })
unfolding format_for record_out record_insert_str fits all_numbers_fit undo_records undo_texts
str_empty = refl

str_apart : record_insert_str 1 b (edit (insert 0 a) ∷ []) ≡ edit (insert 1 b) ∷ edit (insert 0 a) ∷ []
unfolding record_insert_str note
str_apart = refl

-- delete: a letter backspaced goes in front of the one cut before; two letters at once are not merged
delete-front : record_delete catalogue 0 a (edit (delete 1 b) ∷ []) ≡ edit (delete 0 ab) ∷ []
unfolding record_delete note clusters chars_from first first_of one is_alnum within
delete-front = refl

delete-two : record_delete catalogue 0 ab (edit (delete 0 b) ∷ []) ≡ edit (delete 0 ab) ∷ edit (delete 0 b) ∷ []
unfolding record_delete note clusters joined chars_from first first_of one is_alnum is_control is_mark within
delete-two = refl

-- replace: nothing by nothing is recorded, and both texts go behind those before
replace-nothing : record_replace 0 [] [] [] ≡ edit (replace 0 [] []) ∷ []
unfolding record_replace note
replace-nothing = refl

replace_joins : record_replace 1 b a (edit (replace 0 a b) ∷ []) ≡ edit (replace 0 ab (0x62 ∷ 0x61 ∷ [])) ∷ []
unfolding record_replace note
replace_joins = refl

-- truncate: the redo list and the level stay
truncate_keeps : truncate_out 0 (redoable (begin ∷ [])) ≡ answered 0 0 0 (redoable [])
truncate_keeps = refl

-- last_insert: the new text of a replacement, and nothing behind a Begin
last_new : last_insert_out (redoable (end ∷ edit (replace 0 ab b) ∷ [])) ≡ answered 0 2 3 (redoable (end ∷ edit (replace 0 ab b) ∷ []))
unfolding last_insert_at undo_texts
last_new = refl

last_begin : last_insert_out (redoable (begin ∷ edit (insert 0 a) ∷ [])) ≡ answered 1 0 0 (redoable (begin ∷ edit (insert 0 a) ∷ []))
unfolding last_insert_at
last_begin = refl
