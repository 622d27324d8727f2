-- What a walk over the records of a list finds: records can only be read from the front.
use Rattle.std.specs.Prelude.{ℕ, ◌+◌, ◌-◌, ◌≡◌, List, [], ◌∷◌, reverse, length, get_or, take, drop}
use Rattle.repertoire.specs.Repertoire.{Repertoire}
use Rattle.log_model.specs.Change.{Change}
use Rattle.formats.specs.declared.Format.{Format}
use Rattle.log_model.specs.Layout.{record_of, encode_records, encode_texts, Layout}
use Rattle.log_model.specs.Groups.{is_begin, is_end, passed}
use Rattle.log_model.specs.UndoBytes.{undo_records}
use Rattle.log_records.specs.declared.Kind.{Kind}
use Rattle.log_records.specs.declared.Kind.TheVariants.{Begin, End, Edit}
use Rattle.log_records.specs.declared.Span.{Span}
use Rattle.log_records.specs.declared.Newest.{Newest}

-- the first n changes: how many there are, and where their records and texts end
abbrev pub first_of : Format → ℕ → List Change → Span
first_of F n us = record { count = length (take n us); records = length (encode_records F (take n us)); texts = length (encode_texts (take n us)) }

-- what stands at the end of a list, newest first
abbrev pub newest_of : Format → List Change → Newest
newest_of F u =
    record {
      count = length u;
      last = length (undo_records F (drop 1 u));
      begins = length u - length (passed is_begin u);
      begun = length (undo_records F (passed is_begin u));
      inside = length (undo_records F (drop 1 (passed is_end u)));
    }

-- a record more, of the kind k, from at up to next
abbrev pub passing : Kind → ℕ → ℕ → Newest → Newest
passing Begin at next n = record { count = n.count + 1; last = at; begins = n.begins + 1; begun = n.begun; inside = at }
passing End at next n = record { count = n.count + 1; last = at; begins = 0; begun = next; inside = n.inside }
passing (Edit k) at next n = record { count = n.count + 1; last = at; begins = 0; begun = next; inside = at }

-- at the last byte of each record of a list, newest first, stands the record's size
abbrev pub SizesOf : Format → List ℕ → List Change → Type 0
SizesOf F sizes [] = Unit {0}
SizesOf F sizes (c ∷ u) = (get_or sizes (length (undo_records F (c ∷ u)) - 1) 0 ≡ length (record_of F c)) × SizesOf F sizes u

-- of every list that has these records
module _ (R : Repertoire) (F : Format) (rs : List ℕ) where
  abbrev pub Walks : ℕ → Span → Type 0
  Walks n r = (ts : List ℕ) (us : List Change) → Layout R F rs ts us → r ≡ first_of F n us

  -- the last record begins at r
  abbrev pub LastAt : ℕ → Type 0
  LastAt r = (ts : List ℕ) (us : List Change) → Layout R F rs ts us → r ≡ length (undo_records F (drop 1 (reverse us)))

  -- what stands at its end is r
  abbrev pub NewestAt : Newest → Type 0
  NewestAt r = (ts : List ℕ) (us : List Change) → Layout R F rs ts us → r ≡ newest_of F (reverse us)

  -- how many records they are, and their sizes
  abbrev pub SizesWritten : ℕ → List ℕ → Type 0
  SizesWritten count sizes = (ts : List ℕ) (us : List Change) → Layout R F rs ts us → (count ≡ length us) × SizesOf F sizes (reverse us)
