-- One record undone or redone on lent bytes: what undo, redo and cancel are made of.
use Rattle.std.specs.Prelude.{ℕ, ◌≤◌, ◌≡◌, Bool, true, false, List, ◌∷◌, length, drop}
use Rattle.repertoire.specs.Repertoire.{catalogue}
use Rattle.checks.specs.declared.Line.{Line}
use Rattle.log_model.specs.Change.{Change, turn}
use Rattle.formats.specs.declared.Format.{Format}
use Rattle.log_model.specs.Groups as groups
use Rattle.log_model.specs.UndoBytes.{undo_records}
use Rattle.log_records.specs.declared.Kind.{Kind}
use Rattle.log_records.specs.declared.Kind.TheVariants.{Begin, End, Edit}
use Rattle.log_records.specs.Records.{numbers_of}
use Rattle.log_state.specs.declared.Log.{Log}
use Rattle.log_state.specs.Calls.{log_of}
use Rattle.edit.specs.Plan.{State}
use Rattle.edit.specs.Calls.{Lent, lent, state_of, Stored}
use Rattle.undo_step.specs.declared.Step.{Step}
use Rattle.undo_step.specs.UndoStep.{StepState, StepOutcome, done, stops, undoing, to_undo, stop_number, step_to}
use Rattle.undo.specs.declared.Taken.{Taken}

-- 1 where a record is a Begin, and where it is an End; else 0
abbrev pub begins_in : Kind → ℕ
begins_in Begin = 1
begins_in End = 0
begins_in (Edit k) = 0

abbrev pub ends_in : Kind → ℕ
ends_in Begin = 0
ends_in End = 1
ends_in (Edit k) = 0

-- a text and a cursor, and whether a record of a text was undone
abbrev pub step_state_by : State → Bool → StepState
step_state_by s b = record { text = s.text; cursor = s.cursor; undone = b }

abbrev pub line_of : Step → Line
line_of s = record { len = s.len; cursor = s.cursor }

-- what is lent where a walk has come to s
abbrev pub lent_by : List ℕ → List ℕ → List ℕ → Step → Log → Lent
lent_by t rb tb s g = lent t rb tb (line_of s) g

-- a text, a cursor and a log
abbrev pub state_at : StepState → groups.Log → State
state_at p v = record { text = p.text; cursor = p.cursor; log = v }

-- the newest record begins at a place
abbrev pub LastStart : Format → Lent → ℕ → Type 0
LastStart F l at = at ≡ length (undo_records F (drop 1 (state_of catalogue F l).log.undo))

-- the list that is walked over, back or on, and the one that its records go to
abbrev pub from_of : Bool → groups.Log → List Change
from_of true v = v.undo
from_of false v = v.redo

abbrev pub to_of : Bool → groups.Log → List Change
to_of true v = v.redo
to_of false v = v.undo

-- the log that has these two lists
abbrev pub log_by : Bool → List Change → List Change → ℕ → groups.Log
log_by true f g n = record { undo = f; redo = g; level = n }
log_by false f g n = record { undo = g; redo = f; level = n }

-- the record x passed, with f left of its list
abbrev pub pass_log : Bool → Change → List Change → groups.Log → groups.Log
pass_log back x f v = log_by back f (turn x ∷ to_of back v) v.level

-- what a record that was tried leaves, where it leads to the log v: a stop changes nothing
abbrev pub Leaves : Format → Lent → StepOutcome → groups.Log → Step → Log → List ℕ → Type 0
Leaves F l (done p) v s g t = (s ≡ step_to p) × (g ≡ log_of F v) × Stored F (state_at p v) t l.records l.texts
Leaves F l (stops k) v s g t = (stop_number s.stop ≡ k) × (line_of s ≡ l.line) × (g ≡ l.log) × (t ≡ l.text)

-- the newest record undone, or the next one redone: its kind is that of the record as it is written
abbrev pub PassesOne : Format → Lent → Bool → Bool → Taken → List ℕ → Type 0
PassesOne F l back b q t =
    (x : Change) (f : List Change) → from_of back (state_of catalogue F l).log ≡ x ∷ f
    → (q.kind ≡ (numbers_of F (to_undo back x)).kind) × Leaves F l (undoing (length l.text) x (step_state_by (state_of catalogue F l) b))
    (pass_log back x f (state_of catalogue F l).log) q.step q.log t

-- the list that is walked over has come from u₀ bytes to u: where no record of it was passed, the text's buffer is as it was
pub record Unmoved (u₀ u : ℕ) (t₀ t : List ℕ) : Type 0 where
  pub fewer : u ≤ u₀
  pub same : u ≡ u₀ → t ≡ t₀
