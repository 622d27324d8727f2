-- Recording: undo.rs, insert, insert_str, delete and replace of Changeset, on the undo list, newest first. Each drops the redo list first.
use Rattle.std.specs.Prelude.{ℕ, ◌+◌, Bool, true, false, List, [], ◌∷◌, ◌++◌, eqb, length}
use Rattle.lists.specs.Lists.{all}
use Rattle.utf8.specs.Encode.{encode}
use Rattle.repertoire.specs.Repertoire.{Repertoire}
use Rattle.cluster.specs.Clusters.{clusters_of}
use Rattle.log_model.specs.Change.{Edit, insert, delete, replace, Change, begin, end, edit}

pub data Joined : Type 0 where
  apart : Joined
  joined : Edit → Joined

abbrev pub join_if : Bool → Edit → Joined → Joined
join_if true z j = joined z
join_if false z j = j

-- insert_seq, delete_seq, replace_seq: the last change and the one behind it as one
abbrev pub join : Edit → Edit → Joined
join (insert q s') (insert p s) = join_if (eqb (q + length s') p) (insert q (s' ++ s)) apart
join (insert q s') (delete p s) = apart
join (insert q s') (replace p o n) = apart
join (delete q s') (insert p s) = apart
join (delete q s') (delete p s) = join_if (eqb q p) (delete q (s' ++ s)) (join_if (eqb q (p + length s)) (delete p (s ++ s')) apart)
join (delete q s') (replace p o n) = apart
join (replace q o' n') (insert p s) = apart
join (replace q o' n') (delete p s) = apart
join (replace q o' n') (replace p o n) = join_if (eqb (q + length n') p) (replace q (o' ++ o) (n' ++ n)) apart

abbrev pub on_joined : Joined → Edit → Edit → List Change → List Change
on_joined apart y x u = edit x ∷ edit y ∷ u
on_joined (joined z) y x u = edit z ∷ u

-- a change recorded, merged with the last record where it may be and follows it
unfoldable pub note : Bool → Edit → List Change → List Change
note false x u = edit x ∷ u
note true x [] = edit x ∷ []
note true x (begin ∷ u) = edit x ∷ begin ∷ u
note true x (end ∷ u) = edit x ∷ end ∷ u
note true x (edit y ∷ u) = on_joined (join y x) y x u

abbrev pub unless_empty : List ℕ → List Change → List Change → List Change
unless_empty [] u v = u
unless_empty (b ∷ s) u v = v

-- one character typed: alphanumeric ones merge
unfoldable pub record_insert : Repertoire → ℕ → ℕ → List Change → List Change
record_insert R p c u = note (R.alnum c) (insert p (encode c)) u

-- a text put in is never merged
unfoldable pub record_insert_str : ℕ → List ℕ → List Change → List Change
record_insert_str p s u = unless_empty s u (note false (insert p s) u)

-- single_char: one cluster, all alphanumeric
abbrev pub is_single : Repertoire → List (List ℕ) → Bool
is_single R [] = false
is_single R (k ∷ []) = all R.alnum k
is_single R (k ∷ (l ∷ ks)) = false

unfoldable pub record_delete : Repertoire → ℕ → List ℕ → List Change → List Change
record_delete R p s u = unless_empty s u (note (is_single R (clusters_of R s)) (delete p s) u)

-- a replacement is recorded also where both texts are empty
unfoldable pub record_replace : ℕ → List ℕ → List ℕ → List Change → List Change
record_replace p o n u = note true (replace p o n) u
