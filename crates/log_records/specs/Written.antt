-- The bytes of an edit's record by its numbers: its kind, the place, the lengths of the old and the new text.
use Rattle.std.specs.Prelude.{ℕ, ◌+◌, List, ◌∷◌, ◌++◌}
use Rattle.numbers.specs.Numbers.{le}
use Rattle.formats.specs.declared.Format.{Format}
use Rattle.log_records.specs.declared.EditKind.{EditKind}
use Rattle.log_records.specs.declared.EditKind.TheVariants.{Insert, Delete, Replace}
use Rattle.log_records.specs.declared.EditRecord.{EditRecord}

-- the byte of a kind
abbrev pub edit_byte : Format → EditKind → ℕ
edit_byte F Insert = 3 + F.offset
edit_byte F Delete = 4 + F.offset
edit_byte F Replace = 5 + F.offset

-- the numbers behind it
abbrev pub body_bytes : Format → EditKind → ℕ → ℕ → ℕ → List ℕ
body_bytes F Insert p o n = le F.width p ++ le F.width n
body_bytes F Delete p o n = le F.width p ++ le F.width o
body_bytes F Replace p o n = le F.width p ++ (le F.width o ++ le F.width n)

abbrev pub record_bytes : Format → EditRecord → List ℕ
record_bytes F x = edit_byte F x.kind ∷ body_bytes F x.kind x.place x.old x.new

-- how many they are
abbrev pub edit_size : Format → EditKind → ℕ
edit_size F Insert = 1 + F.width + F.width
edit_size F Delete = 1 + F.width + F.width
edit_size F Replace = 1 + F.width + F.width + F.width
