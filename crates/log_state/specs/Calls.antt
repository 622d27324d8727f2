-- The calls of Changeset on lent bytes: the checks in number order, what the call makes of the log that the bytes hold, and the bytes that hold what
-- it leaves.
use Rattle.std.specs.Prelude.{ℕ, ◌≤◌, ◌≡◌, Bool, cond, false, not, ◌||◌, List, [], ◌++◌, map, reverse, eqb, length, take, drop}
use Rattle.std.proofs.Math.Option.{Option, some, none}
use Rattle.repertoire.specs.Repertoire.{Repertoire, catalogue}
use Rattle.repertoire.specs.Text.{is_text, is_char}
use Rattle.checks.specs.Checks.{both, refusal, own_tests}
use Rattle.checks.specs.Outcome.{Outcome, refused, answered, called}
use Rattle.log_model.specs.Change.{Edit, insert, delete, replace, Change, turn, place, old, new}
use Rattle.formats.specs.declared.Format.{Format}
use Rattle.formats.specs.Formats.{Fit}
use Rattle.log_model.specs.Layout.{encode_records, encode_texts, decode}
use Rattle.log_model.specs.Recording.{record_insert, record_insert_str, record_delete, record_replace}
use Rattle.log_model.specs.Holds.{Holds}
use Rattle.log_model.specs.Groups as groups
use Rattle.log_model.specs.UndoBytes.{Sizes}
use Rattle.std.specs.Prelude as std
use Rattle.log_records.specs.declared.EditKind.{EditKind}
use Rattle.log_records.specs.declared.EditKind.TheVariants.{Insert, Delete, Replace}
use Rattle.log_records.specs.declared.Kind.{Kind}
use Rattle.log_records.specs.declared.Kind.TheVariants.{Begin, End}
use Rattle.log_records.specs.declared.Kind.TheVariants.{Edit as Kind·Edit}
use Rattle.log_records.specs.declared.Record.{Record}
use Rattle.log_records.specs.Records.{edit_kind}
use Rattle.log_state.specs.declared.Log.{Log}
use Rattle.log_state.specs.declared.Used.{Used}
use Rattle.log_state.specs.declared.LogAnswer.{LogAnswer}
use Rattle.log_state.specs.Logs.{log_tests}
use Rattle.log_state.specs.Outcomes.{begin_out, end_out, record_out, truncate_out, last_insert_out}

-- the two buffers that a call is lent, and the log's state
pub record Lent : Type 0 where
  pub records : List ℕ
  pub texts : List ℕ
  pub log : Log

abbrev pub lent : List ℕ → List ℕ → Log → Lent
lent rb tb g = record { records = rb; texts = tb; log = g }

abbrev pub sizes_of : Lent → Sizes
sizes_of l = record { records = length l.records; texts = length l.texts }

-- ---- the log that the bytes hold
abbrev pub or_nil : Option (List Change) → List Change
or_nil none = []
or_nil (some cs) = cs

module _ (R : Repertoire) (F : Format) (l : Lent) where
  -- the undo list, oldest first, and the redo list, next first, as they stand in the buffers
  unfoldable pub undos : List Change
  undos = or_nil (decode R F (take l.log.undo.records l.records) (take l.log.undo.texts l.texts))

  unfoldable pub redos : List Change
  redos = or_nil (decode R F (take l.log.redo.records (drop l.log.undo.records l.records)) (take l.log.redo.texts (drop l.log.undo.texts l.texts)))

  abbrev pub value_of : groups.Log
  value_of = record { undo = reverse undos; redo = map turn redos; level = l.log.level }

-- ---- the answer and the bytes of an outcome
-- a number alone
abbrev pub says : ℕ → Log → LogAnswer
says n g = record { number = n; from = 0; to = 0; log = g }

-- not a byte is changed
pub record Same (l : Lent) (rb tb : List ℕ) : Type 0 where
  pub records : rb ≡ l.records
  pub texts : tb ≡ l.texts

module _ (F : Format) where
  abbrev pub used_by : List Change → Used
  used_by cs = record { records = length (encode_records F cs); texts = length (encode_texts cs) }

  abbrev pub log_of : groups.Log → Log
  log_of g = record { undo = used_by (reverse g.undo); redo = used_by (map turn g.redo); level = g.level }

  abbrev pub answer_of : Lent → Outcome groups.Log → LogAnswer
  answer_of l (refused k) = says k l.log
  answer_of l (answered k a b g) = record { number = k; from = a; to = b; log = log_of g }

  -- the row of records: the undo list in front, the redo list right behind it
  abbrev pub row : groups.Log → List Change
  row g = reverse g.undo ++ map turn g.redo

  -- the used parts of the buffers are the bytes of the log
  pub record Stored (g : groups.Log) (rb tb : List ℕ) : Type 0 where
    pub records : take (length (encode_records F (row g))) rb ≡ encode_records F (row g)
    pub texts : take (length (encode_texts (row g))) tb ≡ encode_texts (row g)

  abbrev pub Bytes : Lent → Outcome groups.Log → List ℕ → List ℕ → Type 0
  Bytes l (refused k) rb tb = Same l rb tb
  Bytes l (answered k a b g) rb tb = Stored g rb tb

  -- the contract of a call that is lent a log: its whole answer, and both buffers. The bytes past the used lengths after an answer 0 or 1 are the
  -- program's own: that the buffers keep their lengths is all that is said of them
  pub record Logged (l : Lent) (o : Outcome groups.Log) (r : LogAnswer) (rb tb : List ℕ) : Type 0 where
    pub answer : r ≡ answer_of l o
    pub bytes : Bytes l o rb tb

-- ---- the calls: checks 2, 4 and 8, then what the call does
module _ (R : Repertoire) (F : Format) where
  -- own is what check 4 says of the call's own arguments
  abbrev pub checked : Lent → Bool → ℕ
  checked l own = refusal (both (log_tests R F l.log l.records l.texts) (own_tests false own false))

  abbrev pub begin_call : Lent → Outcome groups.Log
  begin_call l = called (checked l false) (begin_out F (sizes_of l) (value_of R F l))

  abbrev pub end_call : Lent → Outcome groups.Log
  end_call l = called (checked l false) (end_out F (sizes_of l) (value_of R F l))

  abbrev pub insert_call : Lent → ℕ → ℕ → Outcome groups.Log
  insert_call l p c = called (checked l (not (is_char R c))) (record_out F (sizes_of l) (record_insert R p c (value_of R F l).undo) (value_of R F l))

  abbrev pub insert_str_call : Lent → ℕ → List ℕ → Outcome groups.Log
  insert_str_call l p s = called (checked l (not (is_text R s))) (record_out F (sizes_of l) (record_insert_str p s (value_of R F l).undo) (value_of R F l))

  abbrev pub delete_call : Lent → ℕ → List ℕ → Outcome groups.Log
  delete_call l p s = called (checked l (not (is_text R s))) (record_out F (sizes_of l) (record_delete R p s (value_of R F l).undo) (value_of R F l))

  abbrev pub replace_call : Lent → ℕ → List ℕ → List ℕ → Outcome groups.Log
  replace_call l p o n =
      called (checked l (not (is_text R o) || not (is_text R n))) (record_out F (sizes_of l) (record_replace p o n (value_of R F l).undo) (value_of R F l))

  abbrev pub truncate_call : Lent → ℕ → Outcome groups.Log
  truncate_call l len = called (checked l false) (truncate_out len (value_of R F l))

  abbrev pub last_insert_call : Lent → Outcome groups.Log
  last_insert_call l = called (checked l false) (last_insert_out (value_of R F l))

-- ---- what holds where the checks pass
pub record Ready (F : Format) (l : Lent) : Type 0 where
  pub fit : Fit F
  pub records : length l.records ≤ F.records
  pub texts : length l.texts ≤ F.texts
  pub level : l.log.level ≤ 255
  pub hold : Holds catalogue F l.records l.texts l.log.undo.records l.log.undo.texts l.log.redo.records l.log.redo.texts
      (undos catalogue F l) (redos catalogue F l)

-- ---- an edit by its kind, its place and its texts
abbrev pub edit_of : EditKind → ℕ → List ℕ → List ℕ → Edit
edit_of Insert p o n = insert p n
edit_of Delete p o n = delete p o
edit_of Replace p o n = replace p o n

pub record Numbered (x : Edit) (k : EditKind) (p : ℕ) (o n : List ℕ) : Type 0 where
  pub kind : edit_kind x ≡ k
  pub place : place x ≡ p
  pub old : old x ≡ o
  pub new : new x ≡ n

-- the length of the text that a record put in, an Insert or a Replace
abbrev pub new_in : Kind → ℕ → std.Option ℕ
new_in Begin n = std.None
new_in End n = std.None
new_in (Kind·Edit Insert) n = std.Some n
new_in (Kind·Edit Delete) n = std.None
new_in (Kind·Edit Replace) n = std.Some n

abbrev pub put_in : Record → std.Option ℕ
put_in r = new_in r.kind r.new
