-- Calls played one after the other on values, for cases that are computed: each is lent the bytes of the state that the one before it left. Assumes nothing.
use Prim.Native.Nat.{ℕ, ◌-◌}
use mathlib.Core.List.{List, [], ◌∷◌, ◌++◌}
use lib.ListN.{length, replicate}
use Rattle.repertoire.specs.Repertoire.{catalogue}
use Rattle.checks.specs.declared.Line.{Line}
use Rattle.checks.specs.Outcome.{Outcome, refused, answered}
use Rattle.log_model.specs.Change.{Change}
use Rattle.formats.specs.Formats.{log_format}
use Rattle.log_model.specs.Layout.{encode_records, encode_texts}
use Rattle.log_state.specs.Calls.{row, log_of, truncate_call}
use Rattle.edit.specs.Plan.{State}
use Rattle.edit.specs.Calls.{Lent, lent, log_lent}
use Rattle.kill_ring.specs.Calls as rings
use Rattle.calls.specs.Calls as calls
use Rattle.calls.specs.Calls.{Asked, logged_by, outcome_of}
use Rattle.key_model.specs.Keyed.{key_call, line_of}

-- a text of len bytes with the cursor at a place
abbrev pub at : ℕ → ℕ → Line
at len cursor = record { len = len; cursor = cursor }

-- a text, a cursor and an undo list, newest first; nothing to redo and no group open
abbrev pub state : List ℕ → ℕ → List Change → State
state t p u = record { text = t; cursor = p; log = record { undo = u; redo = []; level = 0 } }

-- a buffer of n bytes that begins with these
abbrev pub buffer : ℕ → List ℕ → List ℕ
buffer n s = s ++ replicate (n - length s) 0

-- the bytes of a state, in a text buffer of C bytes and 32 bytes each for the log
abbrev pub lending_in : ℕ → State → Lent
lending_in C s =
    lent (buffer C s.text) (buffer 32 (encode_records log_format (row log_format s.log))) (buffer 32 (encode_texts (row log_format s.log)))
    (at (length s.text) s.cursor) (log_of log_format s.log)

abbrev pub lending : State → Lent
lending s = lending_in 16 s

-- a call on what is lent, and on the first place that the call before it answered: of begin, its mark
abbrev pub Doing : Type 0
Doing = ℕ → Lent → Outcome State

abbrev pub asking : Asked → Doing
asking a from l = outcome_of catalogue log_format l a

-- a key, with a ring of no slots
abbrev pub pressing : List ℕ → Doing
pressing k from l = line_of (key_call catalogue log_format l (rings.lent [] [] (record { size = 0; count = 0; index = 0; action = 2; yanked = 0 })) k)

-- a character typed, and the log's calls
abbrev pub typing : ℕ → Doing
typing c = asking (calls.edit (calls.insert c 1))

abbrev pub beginning : Doing
beginning = asking (calls.log calls.begin)

abbrev pub ending : Doing
ending = asking (calls.log calls.end)

abbrev pub undoing : ℕ → Doing
undoing n = asking (calls.undo n)

abbrev pub redoing : ℕ → Doing
redoing n = asking (calls.redo n)

-- to the mark that begin answered; truncate is no call of demand 3's list
abbrev pub cancelling : Doing
cancelling mark l = outcome_of catalogue log_format l (calls.cancel mark)

abbrev pub truncating : Doing
truncating mark l = logged_by catalogue log_format l (truncate_call catalogue log_format (log_lent l) mark)

-- the calls that come next are handed the place that is answered and the state that is left
abbrev pub onward : (ℕ → State → State) → Outcome State → State → State
onward next (refused k) s = next 0 s
onward next (answered k a b s') s = next a s'

-- what they leave
abbrev pub played : List Doing → ℕ → State → State
played [] from s = s
played (f ∷ fs) from s = onward (played fs) (f from (lending s)) s

-- from an empty text and an empty log
abbrev pub after : List Doing → State
after fs = played fs 0 (state [] 0 [])
