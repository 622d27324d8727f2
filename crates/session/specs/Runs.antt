-- A run of the program: calls on one text, cursor and log, one after the other, each known by the contract of its entry for C alone. Document 01, "The list of
-- demand 3", said of answers and of the bytes in the buffers; keys (order 1 of document 02) are calls of the list.
use Rattle.std.specs.Prelude.{ℕ, ◌+◌, ◌≤◌, ◌≡◌, cond, List, [], ◌∷◌, eqb, leb, length, take}
use Rattle.repertoire.specs.Repertoire.{Repertoire}
use Rattle.checks.specs.declared.Line.{Line}
use Rattle.formats.specs.declared.Format.{Format}
use Rattle.log_state.specs.declared.Log.{Log}
use Rattle.edit.specs.Calls.{Lent, lent, format_of, text_of}
use Rattle.calls.specs.Calls.{edit, move, log, begin, end, last_insert, undo, redo, cancel}
use Rattle.calls.specs.CallContracts.{Buffers}
use Rattle.key_press.specs.declared.Press.{Press}
use Rattle.key_press.specs.declared.Press.TheVariants as p
use Rattle.key_press.specs.Keys.{press_of}
use Rattle.session.specs.Calls.{Call, asked, key, AnswerTo, Meets}

-- ---- what is lent
-- as long as these or longer
pub record NoSmaller (a b : Buffers) : Type 0 where
  pub text : length a.text ≤ length b.text
  pub records : length a.records ≤ length b.records
  pub texts : length a.texts ≤ length b.texts

-- check 2 passes their sizes
pub record Sized (F : Format) (b : Buffers) : Type 0 where
  pub text : length b.text ≤ F.text
  pub records : length b.records ≤ F.records
  pub texts : length b.texts ≤ F.texts

abbrev pub buffers_of : Lent → Buffers
buffers_of l = record { text = l.text; records = l.records; texts = l.texts }

-- ---- a call that ran
-- a slice keeps its length, whatever is done to it
pub record SameLengths (a b : Buffers) : Type 0 where
  pub text : length b.text ≡ length a.text
  pub records : length b.records ≡ length a.records
  pub texts : length b.texts ≡ length a.texts

-- what was lent, the answer, and the bytes of the buffers afterwards
pub record Step (c : Call) : Type 0 where
  pub lent : Lent
  pub answer : AnswerTo c
  pub after : Buffers
  pub lengths : SameLengths (buffers_of lent) after

abbrev pub AnyStep : Type 0
AnyStep = (c : Call) × Step c

-- what it leaves: the bytes of the buffers, and the line and the log's state as answered, where the answer has them
abbrev pub line_left : (c : Call) → Step c → Line
line_left (asked (edit x)) s = s.answer.line
line_left (asked (move x)) s = s.answer.line
line_left (asked (log x)) s = s.lent.line
line_left (asked (undo n)) s = s.answer.line
line_left (asked (redo n)) s = s.answer.line
line_left (asked (cancel mark)) s = s.answer.line
line_left (key k h) s = s.answer.answer.line

abbrev pub log_left : (c : Call) → Step c → Log
log_left (asked (edit x)) s = s.answer.log
log_left (asked (move x)) s = s.lent.log
log_left (asked (log x)) s = s.answer.log
log_left (asked (undo n)) s = s.answer.log
log_left (asked (redo n)) s = s.answer.log
log_left (asked (cancel mark)) s = s.answer.log
log_left (key k h) s = s.answer.answer.log

abbrev pub left : (c : Call) → Step c → Lent
left c s = lent s.after.text s.after.records s.after.texts (line_left c s) (log_left c s)

-- ---- the same
-- the used bytes of the two buffers of the log: the undo list's in front, the redo list's right behind it
abbrev pub used_records : Lent → List ℕ
used_records l = take (l.log.undo.records + l.log.redo.records) l.records

abbrev pub used_texts : Lent → List ℕ
used_texts l = take (l.log.undo.texts + l.log.redo.texts) l.texts

-- "texts are the same where their used lengths and the bytes within them are"
pub record SameText (a b : Lent) : Type 0 where
  pub len : b.line.len ≡ a.line.len
  pub bytes : text_of b ≡ text_of a

-- "lists of the log, where their records, texts and used lengths are, byte for byte; logs, where both lists and the level are"
pub record SameLog (a b : Lent) : Type 0 where
  pub state : b.log ≡ a.log
  pub records : used_records b ≡ used_records a
  pub texts : used_texts b ≡ used_texts a

-- ---- a run
-- what the next call is lent: line and log's state as they were left, buffers no smaller that check 2 passes, and in their used parts the bytes that were left
pub record HandedOn (a b : Lent) : Type 0 where
  pub line : b.line ≡ a.line
  pub text : SameText a b
  pub log : SameLog a b
  pub no_smaller : NoSmaller (buffers_of a) (buffers_of b)
  pub sized : Sized (format_of b) (buffers_of b)

-- calls one after the other from what is left at first: each is handed what the one before left, and meets the contract of its entry
unfoldable pub Run : Repertoire → Lent → List AnyStep → Type 0
Run R l [] = Unit {0}
Run R l (x ∷ xs) = HandedOn l x.1.lent × Meets R x.0 x.1.lent x.1.answer x.1.after × Run R (left x.0 x.1) xs

-- what the last of them leaves
unfoldable pub left_by : Lent → List AnyStep → Lent
left_by l [] = l
left_by l (x ∷ xs) = left_by (left x.0 x.1) xs

-- ---- open groups, by the marks that their begins answered
-- those below a mark
unfoldable pub below : ℕ → List ℕ → List ℕ
below m [] = []
below m (b ∷ bs) = cond (leb m b) (below m bs) (b ∷ below m bs)

-- "a group is open from a begin that is not refused until the next end that is not refused, or a cancel answered 0 whose mark is no higher than that begin's"
abbrev pub open_after : (c : Call) → Step c → List ℕ → List ℕ
open_after (asked (edit x)) s g = g
open_after (asked (move x)) s g = g
open_after (asked (log begin)) s g = cond (leb s.answer.number 1) (s.answer.from ∷ g) g
open_after (asked (log end)) s g = cond (leb s.answer.number 1) [] g
open_after (asked (log last_insert)) s g = g
open_after (asked (undo n)) s g = g
open_after (asked (redo n)) s g = g
open_after (asked (cancel mark)) s g = cond (eqb s.answer.number 0) (below mark g) g
open_after (key k h) s g = g

-- undo and redo come only where no group is open; of the keys, C-_ is undo
abbrev pub AllowedKey : Press → List ℕ → Type 0
AllowedKey p.Unbound g = Unit {0}
AllowedKey (p.Move k) g = Unit {0}
AllowedKey (p.Edit k) g = Unit {0}
AllowedKey (p.Undo n) g = g ≡ []
AllowedKey (p.Kill k) g = Unit {0}
AllowedKey (p.Yank n) g = Unit {0}
AllowedKey p.YankPop g = Unit {0}

abbrev pub Allowed : Repertoire → Call → List ℕ → Type 0
Allowed R (asked (edit x)) g = Unit {0}
Allowed R (asked (move x)) g = Unit {0}
Allowed R (asked (log x)) g = Unit {0}
Allowed R (asked (undo n)) g = g ≡ []
Allowed R (asked (redo n)) g = g ≡ []
Allowed R (asked (cancel m)) g = Unit {0}
Allowed R (key k h) g = AllowedKey (press_of R k) g

-- and at the end none is
unfoldable pub Closed : Repertoire → List AnyStep → List ℕ → Type 0
Closed R [] g = g ≡ []
Closed R (x ∷ xs) g = Allowed R x.0 g × Closed R xs (open_after x.0 x.1 g)
