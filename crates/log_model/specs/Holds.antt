-- The two lists in the two buffers: the undo list in front, oldest first, the redo list right behind it, next to be redone first.
use Rattle.std.specs.Prelude.{ℕ, ◌+◌, ◌≤◌, ◌≡◌, List, ◌++◌, length, take}
use Rattle.repertoire.specs.Repertoire.{Repertoire}
use Rattle.log_model.specs.Change.{Change}
use Rattle.formats.specs.declared.Format.{Format}
use Rattle.log_model.specs.Layout.{encode_records, encode_texts, Layout}

-- us and rs are held by the records buffer rb and the texts buffer tb, with the used lengths of each list in them
pub record Holds (R : Repertoire) (F : Format) (rb tb : List ℕ) (ur ut rr rt : ℕ) (us rs : List Change) : Type 0 where
  pub both : Layout R F (take (ur + rr) rb) (take (ut + rt) tb) (us ++ rs)
  pub records : ur ≡ length (encode_records F us)
  pub texts : ut ≡ length (encode_texts us)
  pub room : ur + rr ≤ length rb
  pub space : ut + rt ≤ length tb

-- these bytes are the records of a list
pub record Listed (R : Repertoire) (F : Format) (rs : List ℕ) : Type 0 where
  pub texts : List ℕ
  pub changes : List Change
  pub lays : Layout R F rs texts changes
