-- What the definitions of a run are on values: what a call is handed, the groups that are open, the units. Assumes nothing.
use Prim.Native.Nat.{ℕ, zero, suc}
use mathlib.Core.Path.{◌≡◌}
use mathlib.Core.Bool.{cond}
use mathlib.Core.List.{List, [], ◌∷◌}
use lib.Dec.{eqb, leb}
use lib.ListN.{length}
use Rattle.repertoire.specs.Repertoire.{Repertoire}
use Rattle.checks.specs.Outcome.{Outcome, refused, answered, number_in, leaves}
use Rattle.formats.specs.declared.Format.{Format}
use Rattle.log_state.specs.Calls.{log_of}
use Rattle.edit.specs.Plan.{State}
use Rattle.edit.specs.Calls.{Lent, lent, Stored}
use Rattle.undo.specs.Undo.{undo_out}
use Rattle.calls.specs.Calls as calls
use Rattle.calls.specs.Calls.{edit, move, log, begin, end, last_insert, undo, redo, cancel}
use Rattle.calls.specs.CallContracts.{Buffers}
use Rattle.key_model.specs.Keyed.{key_call, line_of}
use Rattle.session.specs.Calls.{Call, asked, key}
use Rattle.session.specs.Runs.{NoSmaller, Sized, below}

-- what the next call is handed: buffers whose used parts are the bytes of the state, no smaller than those before
pub record Handed (F : Format) (before : Buffers) (s : State) (b : Buffers) : Type 0 where
  pub stored : Stored F s b.text b.records b.texts
  pub no_smaller : NoSmaller before b
  pub sized : Sized F b

-- with the line and the log's state that the last call answered
abbrev pub lent_for : Format → State → Buffers → Lent
lent_for F s b = lent b.text b.records b.texts (record { len = length s.text; cursor = s.cursor }) (log_of F s.log)

-- ---- what a call of the list comes to: a key is what it does to text, cursor and log
abbrev pub outcome_of : Repertoire → Format → Lent → Call → Outcome State
outcome_of R F l (asked a) = calls.outcome_of R F l a
outcome_of R F l (key k h) = line_of (key_call R F l h k)

-- ---- open groups
-- the mark that begin answers
abbrev pub mark_in : Outcome State → ℕ
mark_in (refused k) = 0
mark_in (answered k a b s) = a

-- those that are open after a call, by its outcome
abbrev pub open_after : Call → Outcome State → List ℕ → List ℕ
open_after (asked (edit x)) o g = g
open_after (asked (move x)) o g = g
open_after (asked (log begin)) o g = cond (leb (number_in o) 1) (mark_in o ∷ g) g
open_after (asked (log end)) o g = cond (leb (number_in o) 1) [] g
open_after (asked (log last_insert)) o g = g
open_after (asked (undo n)) o g = g
open_after (asked (redo n)) o g = g
open_after (asked (cancel m)) o g = cond (eqb (number_in o) 0) (below m g) g
open_after (key k h) o g = g

-- ---- undo and redo
-- "the units there are the undo calls with n = 1 that it takes to empty the undo list": k of them, in a text buffer of C bytes
unfoldable pub Units : ℕ → ℕ → State → Type 0
Units C zero s = s.log.undo ≡ []
Units C (suc k) s = (s.log.undo ≡ [] → ⊥) × Units C k (leaves (undo_out C 1 s) s)

-- text and both lists, with the level
pub record SameTextAndLog (s s' : State) : Type 0 where
  pub text : s'.text ≡ s.text
  pub undo : s'.log.undo ≡ s.log.undo
  pub redo : s'.log.redo ≡ s.log.redo
  pub level : s'.log.level ≡ s.log.level
