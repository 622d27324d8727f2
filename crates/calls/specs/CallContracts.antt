-- The contract of every call of the list, by its value: what its entry for C ensures, and what a step of a run meets.
use Rattle.std.specs.Prelude.{ℕ, ◌≡◌, List}
use Rattle.repertoire.specs.Repertoire.{Repertoire}
use Rattle.checks.specs.declared.LineAnswer.{LineAnswer}
use Rattle.checks.specs.Answers.{line_answer}
use Rattle.formats.specs.declared.Format.{Format}
use Rattle.formats.specs.Formats.{log_format}
use Rattle.log_state.specs.Calls.{Logged, answer_of}
use Rattle.log_state.specs.declared.LogAnswer.{LogAnswer}
use Rattle.edit.specs.Calls.{Lent, format_of, log_lent, Same, Edited}
use Rattle.edit.specs.declared.EditAnswer.{EditAnswer}
use Rattle.calls.specs.Calls.{Asked, edit, move, log, begin, end, last_insert, undo, redo, cancel, move_outcome, log_outcome, outcome_of}

pub record Buffers : Type 0 where
  pub text : List ℕ
  pub records : List ℕ
  pub texts : List ℕ

abbrev pub buffers : List ℕ → List ℕ → List ℕ → Buffers
buffers t rb tb = record { text = t; records = rb; texts = tb }

-- what its entry answers
abbrev pub AnswerTo : Asked → Type 0
AnswerTo (edit x) = EditAnswer
AnswerTo (move x) = LineAnswer
AnswerTo (log x) = LogAnswer
AnswerTo (undo n) = EditAnswer
AnswerTo (redo n) = EditAnswer
AnswerTo (cancel mark) = EditAnswer

-- what is lent, the answer and the bytes of the buffers afterwards, in the format F. What an entry is lent to read, or is not lent, is as it was
module _ (R : Repertoire) (F : Format) where
  abbrev pub MeetsIn : (a : Asked) → Lent → AnswerTo a → Buffers → Type 0
  MeetsIn (edit x) l r b = Edited F l (outcome_of R F l (edit x)) r b.text b.records b.texts
  MeetsIn (move x) l r b = (r ≡ line_answer l.line (move_outcome R l.text l.line x)) × Same l b.text b.records b.texts
  MeetsIn (log begin) l r b = Logged F (log_lent l) (log_outcome R F (log_lent l) begin) r b.records b.texts × (b.text ≡ l.text)
  MeetsIn (log end) l r b = Logged F (log_lent l) (log_outcome R F (log_lent l) end) r b.records b.texts × (b.text ≡ l.text)
  MeetsIn (log last_insert) l r b = (r ≡ answer_of F (log_lent l) (log_outcome R F (log_lent l) last_insert)) × Same l b.text b.records b.texts
  MeetsIn (undo n) l r b = Edited F l (outcome_of R F l (undo n)) r b.text l.records l.texts × (b.records ≡ l.records) × (b.texts ≡ l.texts)
  MeetsIn (redo n) l r b = Edited F l (outcome_of R F l (redo n)) r b.text l.records l.texts × (b.records ≡ l.records) × (b.texts ≡ l.texts)
  MeetsIn (cancel mark) l r b = Edited F l (outcome_of R F l (cancel mark)) r b.text l.records l.texts × (b.records ≡ l.records) × (b.texts ≡ l.texts)

-- the format of a call: the one that the text's buffer brings, or a log's that is lent without its text
abbrev pub format_in : Asked → Lent → Format
format_in (edit x) l = format_of l
format_in (move x) l = format_of l
format_in (log x) l = log_format
format_in (undo n) l = format_of l
format_in (redo n) l = format_of l
format_in (cancel mark) l = format_of l

abbrev pub Meets : Repertoire → (a : Asked) → Lent → AnswerTo a → Buffers → Type 0
Meets R a l r b = MeetsIn R (format_in a l) a l r b
