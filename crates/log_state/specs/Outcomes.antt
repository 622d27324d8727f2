-- What the calls of Changeset make of a log, on values: undo.rs and document 01's check 10. F is the format of the records, z the lengths of the
-- two buffers.
use Rattle.std.specs.Prelude.{ℕ, cond, ◌&&◌, List, [], ◌∷◌, ltb}
use Rattle.std.proofs.Math.Option.{Option, some, none}
use Rattle.checks.specs.Outcome.{Outcome, refused, answered}
use Rattle.log_model.specs.Change.{Change, begin}
use Rattle.formats.specs.declared.Format.{Format}
use Rattle.log_model.specs.Groups.{Log, begun, mark, end_all, ends_any, ended, truncated}
use Rattle.log_model.specs.UndoBytes.{Sizes, fits, Places, last_insert_at}

module _ (F : Format) (z : Sizes) where
  -- 10: at level 255, or where there is no room for a Begin; else its mark is answered
  unfoldable pub begin_out : Log → Outcome Log
  begin_out g = cond (ltb g.level 255 && fits F z (begin ∷ g.undo)) (answered 0 (mark g) 0 (begun g)) (refused 10)

  -- 10: where its Ends do not fit; 0 where an End was put, else 1
  unfoldable pub end_out : Log → Outcome Log
  end_out g = cond (fits F z (end_all g.level g.undo)) (answered (cond (ends_any g.level g.undo) 0 1) 0 0 (ended g)) (refused 10)

  -- the undo list u is recorded and the redo list dropped; 10 where u does not fit
  unfoldable pub record_out : List Change → Log → Outcome Log
  record_out u g = cond (fits F z u) (answered 0 0 0 (record { undo = u; redo = []; level = g.level })) (refused 10)

-- truncate never refuses
abbrev pub truncate_out : ℕ → Log → Outcome Log
truncate_out len g = answered 0 0 0 (truncated len g)

-- last_insert's places in the undo list's texts, 1 where it finds none
abbrev pub places_out : Option Places → Log → Outcome Log
places_out none g = answered 1 0 0 g
places_out (some p) g = answered 0 p.0 p.1 g

abbrev pub last_insert_out : Log → Outcome Log
last_insert_out g = places_out (last_insert_at g.undo) g
