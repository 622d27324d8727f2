-- A record by its numbers, its kind too: what log_records says of a record, the same for a kind's number, of which any may come.
use Rattle.std.specs.Prelude.{ℕ, ◌≡◌, List, length, take, drop}
use Rattle.formats.specs.declared.Format.{Format}
use Rattle.log_model.specs.Change.{Edit, insert, delete, replace, Change, begin, end, edit, place, old, new}
use Rattle.log_model.specs.Layout.{record_of, texts_of}
use Rattle.undo_step.specs.declared.RecordByNumber.{RecordByNumber}

-- the kind 1 to 5, the place, the lengths of the old and the new text, and the size in bytes
abbrev pub numbers : ℕ → ℕ → ℕ → ℕ → ℕ → RecordByNumber
numbers k p o n s = record { kind = k; place = p; old = o; new = n; size = s }

-- 3 Insert, 4 Delete, 5 Replace
abbrev pub kind_number : Edit → ℕ
kind_number (insert p s) = 3
kind_number (delete p s) = 4
kind_number (replace p o n) = 5

-- a change by its numbers
abbrev pub numbers_of : Format → Change → RecordByNumber
numbers_of F begin = numbers 1 0 0 0 1
numbers_of F end = numbers 2 0 0 0 1
numbers_of F (edit x) = numbers (kind_number x) (place x) (length (old x)) (length (new x)) (length (record_of F (edit x)))

-- its numbers and its texts, which begin at t, are those of the change c
pub record Carries (F : Format) (c : Change) (r : RecordByNumber) (ts : List ℕ) (t : ℕ) : Type 0 where
  pub numbers : r ≡ numbers_of F c
  pub texts : take (length (texts_of c)) (drop t ts) ≡ texts_of c
