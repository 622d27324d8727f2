-- The rest of Changeset on values: undo.rs, begin, end, truncate and last_insert. The undo list is newest first.
use Rattle.std.specs.Prelude.{ℕ, zero, suc, ◌+◌, ◌-◌, Bool, true, false, cond, List, [], ◌∷◌, length, drop}
use Rattle.std.proofs.Math.Option.{Option, some, none}
use Rattle.log_model.specs.Change.{insert, delete, replace, Change, begin, end, edit}

-- a log: the undo list, newest first; the redo list, next first, every record turned round; the group level
pub record Log : Type 0 where
  pub undo : List Change
  pub redo : List Change
  pub level : ℕ

-- new
abbrev pub empty : Log
empty = record { undo = []; redo = []; level = 0 }

-- begin: the redo list is dropped and a group opened; its mark is the number of records before it
abbrev pub begun : Log → Log
begun g = record { undo = begin ∷ g.undo; redo = []; level = g.level + 1 }

abbrev pub mark : Log → ℕ
mark g = length g.undo

-- end, for each level: a Begin on top is dropped, as an empty group, else an End is put there
unfoldable pub end_all : ℕ → List Change → List Change
end_all zero u = u
end_all (suc n) [] = end_all n (end ∷ [])
end_all (suc n) (begin ∷ u) = end_all n u
end_all (suc n) (end ∷ u) = end_all n (end ∷ end ∷ u)
end_all (suc n) (edit x ∷ u) = end_all n (end ∷ edit x ∷ u)

-- whether it puts an End
unfoldable pub ends_any : ℕ → List Change → Bool
ends_any zero u = false
ends_any (suc n) [] = true
ends_any (suc n) (begin ∷ u) = ends_any n u
ends_any (suc n) (end ∷ u) = true
ends_any (suc n) (edit x ∷ u) = true

abbrev pub ended : Log → Log
ended g = record { undo = end_all g.level g.undo; redo = []; level = 0 }

-- truncate: the first len records stay, the redo list and the level are untouched
abbrev pub truncated : ℕ → Log → Log
truncated len g = record { undo = drop (length g.undo - len) g.undo; redo = g.redo; level = g.level }

abbrev pub is_begin : Change → Bool
is_begin begin = true
is_begin end = false
is_begin (edit x) = false

abbrev pub is_end : Change → Bool
is_end begin = false
is_end end = true
is_end (edit x) = false

-- a list without the newest records, as far as they all meet a test
unfoldable pub passed : (Change → Bool) → List Change → List Change
passed f [] = []
passed f (c ∷ u) = cond (f c) (passed f u) (c ∷ u)

-- last_insert, from the newest record back: Ends are passed; the text of an Insert, the new text of a Replace; else none
unfoldable pub last_insert : List Change → Option (List ℕ)
last_insert [] = none
last_insert (begin ∷ u) = none
last_insert (end ∷ u) = last_insert u
last_insert (edit (insert p s) ∷ u) = some s
last_insert (edit (delete p s) ∷ u) = none
last_insert (edit (replace p o n) ∷ u) = some n
