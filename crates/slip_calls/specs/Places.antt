-- What stands on the page in front of a word, at a \n and at the text's end: spaces, and a \n where a line ends there.
use Rattle.std.specs.Prelude.{ℕ, ◌-◌, Bool, true, false, cond, List, [], ◌∷◌, ◌++◌, leb}
use Rattle.slip_model.specs.declared.Filled.{Filled}
use Rattle.slip_model.specs.declared.Filled.TheVariants.{Fresh, Blank, UpTo}
use Rattle.slip_model.specs.Slip.{with, spaced, spaces}
use Rattle.slip_calls.specs.declared.Place.{Place}

-- the columns that a line has
abbrev pub filled_to : Filled → ℕ
filled_to Fresh = 0
filled_to Blank = 0
filled_to (UpTo c) = c

-- the space between words
abbrev pub space_before : Filled → ℕ
space_before Fresh = 0
space_before Blank = 0
space_before (UpTo c) = 1

-- the line is padded and ended
abbrev pub line_end : Filled → Filled → Place
line_end f g = record { spaces = 60 - filled_to f; newline = true; filled = g }

-- a word of n columns stands behind those of the line, or where it does not fit begins the next one
abbrev pub place_for : Filled → ℕ → Place
place_for f n =
    cond (leb (with f n) 60) (record { spaces = space_before f; newline = false; filled = UpTo (with f n) }) (line_end f (UpTo n))

-- white space: a line's end where \n is in it
abbrev pub white_place : Bool → Filled → Place
white_place newline f = cond newline (line_end f Fresh) (record { spaces = 0; newline = false; filled = spaced f })

-- at the text's end: no line where nothing has come since the last \n
abbrev pub closing_place : Filled → Place
closing_place Fresh = record { spaces = 0; newline = false; filled = Fresh }
closing_place Blank = line_end Blank Fresh
closing_place (UpTo c) = line_end (UpTo c) Fresh

-- its bytes
abbrev pub placed : Place → List ℕ
placed p = spaces p.spaces ++ cond p.newline (0x0A ∷ []) []
