-- The numbers of a line that say a log.
use Rattle.std.specs.Prelude.{ℕ, List, ◌∷◌}
use Rattle.log_state.specs.declared.Log.{Log}

-- the used lengths of the two lists and the group level, with other numbers behind them
abbrev pub log_numbers : Log → List ℕ → List ℕ
log_numbers g rest = g.undo.records ∷ g.undo.texts ∷ g.redo.records ∷ g.redo.texts ∷ g.level ∷ rest
