-- The dry run of Tails by the number of a kind: 3 Insert, 4 Delete, 5 Replace. The same for a kind's number, of which any may come.
use Rattle.std.specs.Prelude.{ℕ, ◌+◌, ◌-◌, ◌≤◌, ◌<◌, Bool, true, false, cond, ◌&&◌, Option, Some, None, eqb}
use Rattle.formats.specs.declared.Format.{Format}
use Rattle.log_records.specs.declared.EditKind.{EditKind}
use Rattle.log_records.specs.declared.EditKind.TheVariants.{Insert, Delete, Replace}
use Rattle.log_records.specs.declared.EditRecord.{EditRecord}
use Rattle.log_recording.specs.declared.Tail.{Tail as Tails·Tail}
use Rattle.log_recording.specs.declared.Noted.{Noted as Tails·Noted}
use Rattle.log_recording.specs.declared.by_number.Tail.{Tail}
use Rattle.log_recording.specs.declared.by_number.Noted.{Noted}

-- how many bytes a record has
unfoldable pub edit_size : Format → ℕ → ℕ
edit_size F k = cond (eqb k 5) (1 + F.width + F.width + F.width) (1 + F.width + F.width)

abbrev pub tail : ℕ → ℕ → ℕ → ℕ → ℕ → ℕ → Tail
tail r t k p o n = record { records = r; texts = t; kind = k; place = p; old = o; new = n }

-- as far as recording a change looks at it: one that is not joined needs the used lengths alone (proofs/ByNumber, noted_for)
abbrev pub tail_for : Bool → Tail → Tail
tail_for true t = t
tail_for false t = tail t.records t.texts 0 0 0 0

-- ---- a change of kind k at the place p, whose old and new text are o and n bytes long
-- a record of its own behind the list
abbrev pub apart : Format → ℕ → ℕ → ℕ → ℕ → Tail → Noted
apart F k p o n t = record { tail = tail (t.records + edit_size F k) (t.texts + (o + n)) k p o n; at = t.texts }

-- joined to the newest record, behind its texts
abbrev pub behind : ℕ → ℕ → Tail → Noted
behind o n t = record { tail = tail t.records (t.texts + (o + n)) t.kind t.place (t.old + o) (t.new + n); at = t.texts - t.new }

-- joined to it, in front of its texts
abbrev pub in_front : ℕ → ℕ → ℕ → Tail → Noted
in_front p o n t = record { tail = tail t.records (t.texts + (o + n)) t.kind p (o + t.old) (n + t.new); at = t.texts - (t.old + t.new) }

-- the list afterwards, and where in the texts the old text goes; the new text goes behind them all.
-- insert_seq, delete_seq, replace_seq of undo.rs: j says that it may be joined
unfoldable pub noted : Format → Bool → ℕ → ℕ → ℕ → ℕ → Tail → Noted
noted F j k p o n t =
    cond (j && eqb t.kind k)
    (cond (eqb (t.place + t.new) p) (behind o n t)
    (cond (eqb k 4 && eqb t.place (p + o)) (in_front p o n t)
    (apart F k p o n t)))
    (apart F k p o n t)

-- no sum of these numbers passes the machine's range
pub record InRange (t : Tail) (o n : ℕ) : Type 0 where
  pub records : t.records < 1152921504606846976
  pub texts : t.texts < 1152921504606846976
  pub place : t.place < 1152921504606846976
  pub within : t.old + t.new ≤ t.texts
  pub old : o < 1152921504606846976
  pub new : n < 1152921504606846976

-- ---- what the dry run by kinds says, by numbers: its image
abbrev pub kind_number : EditKind → ℕ
kind_number Insert = 3
kind_number Delete = 4
kind_number Replace = 5

-- the newest record's, or 0 where there is none
abbrev pub newest_number : ℕ → ℕ → Option EditRecord → Tail
newest_number r t None = tail r t 0 0 0 0
newest_number r t (Some y) = tail r t (kind_number y.kind) y.place y.old y.new

abbrev pub tail_number : Tails·Tail → Tail
tail_number t = newest_number t.records t.texts t.newest

abbrev pub noted_number : Tails·Noted → Noted
noted_number n = record { tail = newest_number n.records n.texts (Some n.edit); at = n.at }
