-- Checks 2 and 8 of a lent log: document 01, "What a call says" and "Log and ring".
use Rattle.std.specs.Prelude.{ℕ, ◌+◌, Bool, ◌||◌, not, List, ltb, length, take, drop}
use Rattle.repertoire.specs.Repertoire.{Repertoire}
use Rattle.formats.specs.declared.Format.{Format}
use Rattle.log_model.specs.Layout as layout
use Rattle.checks.specs.Checks.{Tests, no_tests, with_sizes, with_damaged}
use Rattle.log_state.specs.declared.Log.{Log}

-- 2: a records buffer or a log texts buffer over the most bytes of it, the used lengths of the two lists over the buffer that they share
unfoldable pub over_sizes : Format → Log → List ℕ → List ℕ → Bool
over_sizes F g rb tb =
    ltb F.records (length rb) || (ltb F.texts (length tb) || (ltb (length rb) (g.undo.records + g.redo.records) || ltb (length tb) (g.undo.texts + g.redo.texts)))

module _ (R : Repertoire) (F : Format) where
  -- no list of changes has these bytes
  abbrev pub broken : List ℕ → List ℕ → Bool
  broken rs ts = not (layout.is_some (layout.decode R F rs ts))

  -- 8: a group level over 255, or a list that breaks its layout
  unfoldable pub damaged : Log → List ℕ → List ℕ → Bool
  damaged g rb tb =
      ltb 255 g.level || (broken (take g.undo.records rb) (take g.undo.texts tb) || broken
      (take g.redo.records (drop g.undo.records rb)) (take g.redo.texts (drop g.undo.texts tb)))

  -- the tests of a lent log
  abbrev pub log_tests : Log → List ℕ → List ℕ → Tests
  log_tests g rb tb = with_sizes (over_sizes F g rb tb) (with_damaged (damaged g rb tb) no_tests)
