-- The dry run of a plan: the tail of the undo list after each of its changes, Ok where there is room for it, else Err of the first that
-- has none. No byte is written.
use Rattle.std.specs.Prelude.{ℕ, ◌-◌, Bool, false, cond, ◌&&◌, Result, Ok, Err, List, eqb, leb, length}
use Rattle.formats.specs.declared.Format.{Format}
use Rattle.log_model.specs.UndoBytes.{Sizes}
use Rattle.log_records.specs.declared.EditKind.TheVariants.{Insert, Delete}
use Rattle.log_records.specs.declared.EditRecord.{EditRecord}
use Rattle.log_recording.specs.Tails.{noted, tail_after}
use Rattle.log_recording.specs.declared.Tail.{Tail}

-- the lengths of the log's two buffers
abbrev pub sizes_by : List ℕ → List ℕ → Sizes
sizes_by rb tb = record { records = length rb; texts = length tb }

-- a list with this tail in buffers of these lengths
abbrev pub room_for : Sizes → Tail → Result Tail Tail
room_for z t = cond (leb t.records z.records && leb t.texts z.texts) (Ok t) (Err t)

-- a cut and a text put in by their numbers
abbrev pub a_cut : ℕ → ℕ → EditRecord
a_cut p n = record { kind = Delete; place = p; old = n; new = 0 }

abbrev pub a_put : ℕ → ℕ → EditRecord
a_put p n = record { kind = Insert; place = p; old = 0; new = n }

-- the bytes from a up to b cut out; j says that the record may be joined. Nothing is recorded of no bytes
unfoldable pub tail_cut : Format → Bool → ℕ → ℕ → Tail → Tail
tail_cut F j a b t = cond (eqb a b) t (tail_after (noted F j (a_cut a (b - a)) t))

-- a text of n bytes put in at p
unfoldable pub tail_put : Format → ℕ → ℕ → Tail → Tail
tail_put F p n t = cond (eqb n 0) t (tail_after (noted F false (a_put p n) t))

-- where there was room before
abbrev pub room_cut : Format → Sizes → Bool → ℕ → ℕ → Result Tail Tail → Result Tail Tail
room_cut F z j a b (Err t) = Err t
room_cut F z j a b (Ok t) = room_for z (tail_cut F j a b t)

abbrev pub room_put : Format → Sizes → ℕ → ℕ → Result Tail Tail → Result Tail Tail
room_put F z p n (Err t) = Err t
room_put F z p n (Ok t) = room_for z (tail_put F p n t)
