-- A record by its numbers, as it is read from its bytes.
use Rattle.std.specs.Prelude.{ℕ, ◌+◌, ◌≤◌, ◌<◌, ◌≡◌, cond, Option, Some, None, IfSome, List, eqb, leb, length, get_or, take, drop}
use Rattle.numbers.specs.Numbers.{num_at}
use Rattle.formats.specs.declared.Format.{Format}
use Rattle.log_model.specs.Change.{insert, delete, replace, Change, begin, end, edit, place, old, new}
use Rattle.log_model.specs.Change as change
use Rattle.log_model.specs.Layout.{size_of, first_len, second_len, record_of, texts_of}
use Rattle.log_records.specs.declared.EditKind.{EditKind}
use Rattle.log_records.specs.declared.EditKind.TheVariants.{Insert, Delete, Replace}
use Rattle.log_records.specs.declared.EditRecord.{EditRecord}
use Rattle.log_records.specs.declared.Kind.{Kind}
use Rattle.log_records.specs.declared.Kind.TheVariants.{Begin, End, Edit}
use Rattle.log_records.specs.declared.Record.{Record}
use Rattle.log_records.specs.Written.{edit_byte, edit_size}

-- the kind, the place, the lengths of the old and the new text, and the size in bytes
abbrev pub numbers : Kind → ℕ → ℕ → ℕ → ℕ → Record
numbers k p o n s = record { kind = k; place = p; old = o; new = n; size = s }

abbrev pub edit_kind : change.Edit → EditKind
edit_kind (insert p s) = Insert
edit_kind (delete p s) = Delete
edit_kind (replace p o n) = Replace

abbrev pub edit_record : change.Edit → EditRecord
edit_record x = record { kind = edit_kind x; place = place x; old = length (old x); new = length (new x) }

-- a change by its numbers
abbrev pub numbers_of : Format → Change → Record
numbers_of F begin = numbers Begin 0 0 0 1
numbers_of F end = numbers End 0 0 0 1
numbers_of F (edit x) = numbers (Edit (edit_kind x)) (place x) (length (old x)) (length (new x)) (length (record_of F (edit x)))

-- the kind that a byte names
unfoldable pub kind_by : Format → ℕ → Option Kind
kind_by F b =
    cond (eqb b 1) (Some Begin)
    (cond (eqb b 2) (Some End)
    (cond (eqb b (edit_byte F Insert)) (Some (Edit Insert))
    (cond (eqb b (edit_byte F Delete)) (Some (Edit Delete))
    (cond (eqb b (edit_byte F Replace)) (Some (Edit Replace))
    None))))

-- the size of a record of a kind
abbrev pub kind_size : Format → Kind → ℕ
kind_size F Begin = 1
kind_size F End = 1
kind_size F (Edit k) = edit_size F k

-- the numbers of the whole record of a kind at a place
abbrev pub record_by : Format → List ℕ → ℕ → Kind → Record
record_by F rs at Begin = numbers Begin 0 0 0 1
record_by F rs at End = numbers End 0 0 0 1
record_by F rs at (Edit Insert) = numbers (Edit Insert) (num_at F.width rs (at + 1)) 0 (first_len F rs at) (edit_size F Insert)
record_by F rs at (Edit Delete) = numbers (Edit Delete) (num_at F.width rs (at + 1)) (first_len F rs at) 0 (edit_size F Delete)
record_by F rs at (Edit Replace) = numbers (Edit Replace) (num_at F.width rs (at + 1)) (first_len F rs at) (second_len F rs at) (edit_size F Replace)

-- a whole record stands at a place
abbrev pub IsWhole : Format → List ℕ → ℕ → Type 0
IsWhole F rs at = (0 < size_of F (get_or rs at 0)) × (at + size_of F (get_or rs at 0) ≤ length rs)

-- the record at a place, where a whole one stands there
abbrev pub record_if : Format → List ℕ → ℕ → Option Kind → Option Record
record_if F rs at None = None
record_if F rs at (Some k) = cond (leb (at + kind_size F k) (length rs)) (Some (record_by F rs at k)) None

unfoldable pub record_at : Format → List ℕ → ℕ → Option Record
record_at F rs at = record_if F rs at (kind_by F (get_or rs at 0))

-- its numbers are numbers of the machine
pub record InBounds (r : Record) : Type 0 where
  pub size : r.size ≤ 13
  pub place : r.place < 4294967296
  pub old : r.old < 4294967296
  pub new : r.new < 4294967296

-- r is what is read there
pub record Read (F : Format) (rs : List ℕ) (at : ℕ) (r : Option Record) : Type 0 where
  pub same : r ≡ record_at F rs at
  pub bounds : IfSome r InBounds

-- its numbers and its texts, which begin at t, are those of the change c
pub record Carries (F : Format) (c : Change) (r : Record) (ts : List ℕ) (t : ℕ) : Type 0 where
  pub numbers : r ≡ numbers_of F c
  pub texts : take (length (texts_of c)) (drop t ts) ≡ texts_of c
