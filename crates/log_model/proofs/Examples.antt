-- What the definitions give on small lists: document 01's P11 and P12 as far as they speak of records, and the groups of undo.rs. Assumes nothing.
use mathlib.Core.Path.{◌≡◌, refl}
use mathlib.Core.Bool.{false}
use mathlib.Core.List.{[], ◌∷◌}
use mathlib.Core.Option.{some}
use Rattle.utf8.specs.Utf8.{within}
use Rattle.utf8.specs.Encode.{encode}
use Rattle.repertoire.specs.Repertoire.{catalogue, is_alnum}
use Rattle.log_model.specs.Change.{begin, end, edit, insert}
use Rattle.log_model.specs.Recording.{note, record_insert}
use Rattle.log_model.specs.Groups.{empty, begun, truncated, end_all, ends_any, ended, last_insert}

-- P11: type a, b, space, c: two records, "ab" and " c"
typed : record_insert catalogue 3 0x63 (record_insert catalogue 2 0x20 (record_insert catalogue 1 0x62 (record_insert catalogue 0 0x61 []))) ≡ edit
    (insert 2 (0x20 ∷ 0x63 ∷ [])) ∷ edit (insert 0 (0x61 ∷ 0x62 ∷ [])) ∷ []
unfolding record_insert note encode is_alnum within
typed = refl

-- P12: begin, truncate to its mark, begin, end: the level stays raised by the first begin, and end puts an End for it
left_open : ended (begun (truncated 0 (begun empty))) ≡ record { undo = end ∷ []; redo = []; level = 0 }
unfolding end_all
left_open = refl

-- an empty group leaves nothing
empty_group : (ended (begun empty) ≡ empty) × (ends_any 1 (begun empty).undo ≡ false)
unfolding end_all ends_any
empty_group = (refl, refl)

-- the last text put in is found behind the Ends of its groups
behind_end : last_insert (end ∷ end ∷ edit (insert 0 (0x61 ∷ [])) ∷ begin ∷ []) ≡ some (0x61 ∷ [])
unfolding last_insert
behind_end = refl
