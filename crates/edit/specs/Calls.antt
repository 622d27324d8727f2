-- An edit on lent bytes: its checks in number order, its plan on the values that the bytes hold, and the bytes that hold what it leaves.
use Rattle.std.specs.Prelude.{ℕ, ◌≤◌, ◌≡◌, true, List, length, take}
use Rattle.repertoire.specs.Repertoire.{Repertoire, catalogue}
use Rattle.repertoire.specs.Text.{is_text}
use Rattle.utf8.specs.Chars.{boundary}
use Rattle.checks.specs.Checks.{Tests, no_tests, with_sizes, with_code, with_foreign, with_place, with_split, both, refusal, line_tests}
use Rattle.checks.specs.declared.Line.{Line}
use Rattle.checks.specs.Outcome.{Outcome, refused, answered, called}
use Rattle.formats.specs.declared.Format.{Format}
use Rattle.formats.specs.Formats.{format_for}
use Rattle.log_model.specs.UndoBytes.{Sizes}
use Rattle.log_state.specs.declared.Log.{Log}
use Rattle.log_state.specs.Logs.{log_tests}
use Rattle.log_state.specs.Calls as log
use Rattle.edit.specs.declared.EditAnswer.{EditAnswer}
use Rattle.edit.specs.declared.Own.{Own}
use Rattle.edit.specs.declared.Checked.{Checked}
use Rattle.log_records.specs.Walks.{LastAt}
use Rattle.edit.specs.Plan.{State, Plan, edited, nothing}

-- the three buffers that an edit is lent, the line and the log's state
pub record Lent : Type 0 where
  pub text : List ℕ
  pub line : Line
  pub records : List ℕ
  pub texts : List ℕ
  pub log : Log

abbrev pub lent : List ℕ → List ℕ → List ℕ → Line → Log → Lent
lent t rb tb l g = record { text = t; line = l; records = rb; texts = tb; log = g }

-- the format that its text buffer brings
abbrev pub format_of : Lent → Format
format_of l = format_for (length l.text)

-- its log, and its text
abbrev pub log_lent : Lent → log.Lent
log_lent l = log.lent l.records l.texts l.log

abbrev pub text_of : Lent → List ℕ
text_of l = take l.line.len l.text

abbrev pub sizes_of : Lent → Sizes
sizes_of l = log.sizes_of (log_lent l)

-- the values that the bytes hold
abbrev pub state_of : Repertoire → Format → Lent → State
state_of R F l = record { text = text_of l; cursor = l.line.cursor; log = log.value_of R F (log_lent l) }

-- ---- the answer and the bytes of an outcome
abbrev pub says : ℕ → Line → Log → EditAnswer
says n l g = record { number = n; from = 0; to = 0; line = l; log = g }

abbrev pub answer_of : Format → Lent → Outcome State → EditAnswer
answer_of F l (refused k) = says k l.line l.log
answer_of F l (answered k a b s) = record { number = k; from = a; to = b; line = record { len = length s.text; cursor = s.cursor }; log = log.log_of F s.log }

-- not a byte is changed
pub record Same (l : Lent) (t rb tb : List ℕ) : Type 0 where
  pub text : t ≡ l.text
  pub records : rb ≡ l.records
  pub texts : tb ≡ l.texts

-- the used parts are the bytes of the state
pub record Stored (F : Format) (s : State) (t rb tb : List ℕ) : Type 0 where
  pub text : take (length s.text) t ≡ s.text
  pub log : log.Stored F s.log rb tb

abbrev pub Bytes : Format → Lent → Outcome State → List ℕ → List ℕ → List ℕ → Type 0
Bytes F l (refused k) t rb tb = Same l t rb tb
Bytes F l (answered k a b s) t rb tb = Stored F s t rb tb

-- the contract of an edit: the whole answer, and the three buffers. The bytes past the used lengths after an answer 0 or 1 are the program's own: that
-- the buffers keep their lengths is all that is said of them
pub record Edited (F : Format) (l : Lent) (o : Outcome State) (r : EditAnswer) (t rb tb : List ℕ) : Type 0 where
  pub answer : r ≡ answer_of F l o
  pub bytes : Bytes F l o t rb tb

-- of a call, in the format that goes with the text buffer that it is lent
abbrev pub Answers : Lent → (Format → Lent → Outcome State) → EditAnswer → List ℕ → List ℕ → List ℕ → Type 0
Answers l call r t rb tb = Edited (format_of l) l (call (format_of l) l) r t rb tb

-- of a plan that is made
abbrev pub Makes : Format → Lent → Plan → EditAnswer → List ℕ → List ℕ → List ℕ → Type 0
Makes F l p r t rb tb = Edited F l (edited catalogue F (sizes_of l) (length l.text) p (state_of catalogue F l)) r t rb tb

-- ---- the checks 2 to 8, with the tests of the call's own
abbrev pub own : Own → Tests
own o = with_sizes o.sizes (with_code o.code (with_foreign o.foreign (with_place o.place (with_split o.split no_tests))))

module _ (R : Repertoire) (F : Format) (l : Lent) where
  abbrev pub checked : Tests → ℕ
  checked own = refusal (both (line_tests R F l.text l.line) (both (log_tests R F l.log l.records l.texts) own))

  -- a call: the checks, then its plan carried out
  abbrev pub edit_call : Tests → Plan → Outcome State
  edit_call own p = called (checked own) (edited R F (sizes_of l) (length l.text) p (state_of R F l))

  -- a call with a code that names nothing
  abbrev pub unnamed : Outcome State
  unnamed = edit_call (with_code true no_tests) (nothing l.line.cursor)

-- ---- what holds where the checks pass
pub record Ready (F : Format) (l : Lent) : Type 0 where
  pub limit : length l.text ≤ F.text
  pub used : l.line.len ≤ length l.text
  pub text : is_text catalogue (text_of l) ≡ true
  pub within : l.line.cursor ≤ l.line.len
  pub at-boundary : boundary (text_of l) l.line.cursor ≡ true
  pub log : log.Ready F (log_lent l)

-- in the format F the checks pass what is lent as c: the line, the log, and where the newest record of its undo list begins
pub record Passes (F : Format) (l : Lent) (c : Checked) : Type 0 where
  pub same : c ≡ record { format = F; line = l.line; log = l.log; last = c.last }
  pub ready : Ready F l
  pub last : LastAt catalogue F (take l.log.undo.records l.records) c.last
