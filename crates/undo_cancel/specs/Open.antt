-- A group that is open, found in the records of a list.
use Rattle.std.specs.Prelude.{ℕ, ◌≡◌, cond, Option, Some, None, List, reverse}
use Rattle.repertoire.specs.Repertoire.{catalogue}
use Rattle.log_model.specs.Change.{Change}
use Rattle.formats.specs.declared.Format.{Format}
use Rattle.log_model.specs.Layout.{Layout}
use Rattle.log_model.specs.Holds.{Listed}
use Rattle.log_records.specs.Walks.{SizesWritten}
use Rattle.undo_cancel.specs.Cancel.{opens, begins_down}

-- the Begins down to the mark m, where the group of that mark is open
unfoldable pub open_begins : ℕ → List Change → Option ℕ
open_begins m u = cond (opens m u) (Some (begins_down m u)) None

-- these bytes are the records of a list, and their number and sizes are written
pub record WrittenIn (F : Format) (rs : List ℕ) (count : ℕ) (sizes : List ℕ) : Type 0 where
  pub listed : Listed catalogue F rs
  pub written : SizesWritten catalogue F rs count sizes

-- of every list that has these records
abbrev pub OpenAt : Format → List ℕ → ℕ → Option ℕ → Type 0
OpenAt F rs m n = (ts : List ℕ) (us : List Change) → Layout catalogue F rs ts us → n ≡ open_begins m (reverse us)
