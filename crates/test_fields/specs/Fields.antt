-- What is left of a side of a line.
use Rattle.std.specs.Prelude.{ℕ, Bool}
use Rattle.std.specs.Str.Iter.{split_has_more, split_parts_left}
use Rattle.test_fields.specs.declared.Fields.{Fields}

-- a field is left
abbrev pub has_field : Fields → Bool
has_field f = split_has_more f.rest

-- there are no more fields left than this
abbrev pub most_left : Fields → ℕ
most_left f = split_parts_left f.rest
