-- The dry run of recording: an undo list by what its next record needs to know, and what a change makes of it. No byte is written.
use Rattle.std.specs.Prelude.{ℕ, ◌+◌, ◌-◌, ◌≤◌, ◌<◌, ◌≡◌, Bool, true, false, cond, ◌&&◌, Option, Some, None, IfSome, List, [], ◌∷◌, ◌++◌}
use Rattle.std.specs.Prelude.{reverse, eqb, length, take}
use Rattle.std.proofs.lemmas.List.Edits.{sets}
use Rattle.repertoire.specs.Repertoire.{Repertoire}
use Rattle.buffer.specs.Edit.{inserted}
use Rattle.log_model.specs.Change.{Change, begin, end, edit}
use Rattle.formats.specs.declared.Format.{Format}
use Rattle.log_model.specs.Layout.{Layout}
use Rattle.log_model.specs.UndoBytes.{undo_records, undo_texts}
use Rattle.log_records.specs.declared.EditKind.{EditKind}
use Rattle.log_records.specs.declared.EditKind.TheVariants.{Insert, Delete, Replace}
use Rattle.log_records.specs.declared.EditRecord.{EditRecord}
use Rattle.log_records.specs.declared.Kind.{Kind}
use Rattle.log_records.specs.declared.Kind.TheVariants.{Begin, End, Edit}
use Rattle.log_records.specs.declared.Record.{Record}
use Rattle.log_records.specs.Records.{edit_record}
use Rattle.log_records.specs.Written.{record_bytes, edit_size}
use Rattle.log_recording.specs.declared.Tail.{Tail}
use Rattle.log_recording.specs.declared.Noted.{Noted}

abbrev pub tail : ℕ → ℕ → Option EditRecord → Tail
tail r t y = record { records = r; texts = t; newest = y }

-- a record, where it is an edit's
abbrev pub edit_as : Kind → ℕ → ℕ → ℕ → Option EditRecord
edit_as Begin p o n = None
edit_as End p o n = None
edit_as (Edit k) p o n = Some (record { kind = k; place = p; old = o; new = n })

abbrev pub as_edit : Record → Option EditRecord
as_edit r = edit_as r.kind r.place r.old r.new

-- the newest record of a list, where it is an edit's
abbrev pub newest_edit : List Change → Option EditRecord
newest_edit [] = None
newest_edit (begin ∷ u) = None
newest_edit (end ∷ u) = None
newest_edit (edit x ∷ u) = Some (edit_record x)

-- the used lengths of a list, and that record
unfoldable pub tail_of : Format → List Change → Tail
tail_of F u = tail (length (undo_records F u)) (length (undo_texts u)) (newest_edit u)

-- it is the tail of every list that has these records and texts of that length
abbrev pub TailAt : Repertoire → Format → List ℕ → ℕ → Tail → Type 0
TailAt R F rs t r = (ts : List ℕ) (us : List Change) → Layout R F rs ts us → t ≡ length ts → r ≡ tail_of F (reverse us)

-- as far as recording a change looks at it: one that is not joined needs the used lengths alone (proofs/Joins, noted_for)
abbrev pub tail_for : Bool → Tail → Tail
tail_for true t = t
tail_for false t = tail t.records t.texts None

abbrev pub TailFor : Repertoire → Format → Bool → List ℕ → ℕ → Tail → Type 0
TailFor R F j rs t r = (ts : List ℕ) (us : List Change) → Layout R F rs ts us → t ≡ length ts → r ≡ tail_for j (tail_of F (reverse us))

-- ---- a change x by its numbers
-- a record of its own behind the list
abbrev pub apart : Format → EditRecord → Tail → Noted
apart F x t = record { edit = x; records = t.records + edit_size F x.kind; texts = t.texts + (x.old + x.new); at = t.texts }

-- joined to the newest record y, behind its texts
abbrev pub behind : EditRecord → EditRecord → Tail → Noted
behind y x t =
    record {
      edit = record { kind = y.kind; place = y.place; old = y.old + x.old; new = y.new + x.new };
      records = t.records;
      texts = t.texts + (x.old + x.new);
      at = t.texts - y.new;
    }

-- joined to it, in front of its texts
abbrev pub in_front : EditRecord → EditRecord → Tail → Noted
in_front y x t =
    record {
      edit = record { kind = y.kind; place = x.place; old = x.old + y.old; new = x.new + y.new };
      records = t.records;
      texts = t.texts + (x.old + x.new);
      at = t.texts - (y.old + y.new);
    }

abbrev pub same_kind : EditKind → EditKind → Bool
same_kind Insert Insert = true
same_kind Insert Delete = false
same_kind Insert Replace = false
same_kind Delete Insert = false
same_kind Delete Delete = true
same_kind Delete Replace = false
same_kind Replace Insert = false
same_kind Replace Delete = false
same_kind Replace Replace = true

-- joined to the newest record y, which is of its kind, where it follows it or is a cut in front of it
unfoldable pub joined : Format → EditRecord → EditRecord → Tail → Noted
joined F y x t =
    cond (eqb (y.place + y.new) x.place) (behind y x t)
    (cond (same_kind x.kind Delete && eqb y.place (x.place + x.old)) (in_front y x t)
    (apart F x t))

abbrev pub noted_at : Format → Bool → EditRecord → Tail → Option EditRecord → Noted
noted_at F j x t None = apart F x t
noted_at F j x t (Some y) = cond (j && same_kind y.kind x.kind) (joined F y x t) (apart F x t)

-- the list afterwards, and where in the texts the old text goes; the new text goes behind them all.
-- insert_seq, delete_seq, replace_seq of undo.rs: j says that it may be joined
unfoldable pub noted : Format → Bool → EditRecord → Tail → Noted
noted F j x t = noted_at F j x t t.newest

-- its tail
abbrev pub tail_after : Noted → Tail
tail_after n = tail n.records n.texts (Some n.edit)

-- no sum of these numbers passes the machine's range
pub record Inside (t : Tail) (y : EditRecord) : Type 0 where
  pub place : y.place < 1152921504606846976
  pub within : y.old + y.new ≤ t.texts

pub record InRange (t : Tail) (o n : ℕ) : Type 0 where
  pub records : t.records < 1152921504606846976
  pub texts : t.texts < 1152921504606846976
  pub newest : IfSome t.newest (Inside t)
  pub old : o < 1152921504606846976
  pub new : n < 1152921504606846976

-- ---- the bytes written for it: the record over the newest or behind it, the old text at its place, the new text behind
pub record Wrote (F : Format) (n : Noted) (used : ℕ) (o s rb tb rb' tb' : List ℕ) : Type 0 where
  pub records : rb' ≡ sets rb (n.records - edit_size F n.edit.kind) (record_bytes F n.edit)
  pub texts : take (used + length o + length s) tb' ≡ inserted (take used tb) n.at o ++ s
