-- The check of a list: the texts of a record.
use Rattle.std.specs.Prelude.{ℕ, ◌+◌, Bool, ◌&&◌, List, leb, length, take, drop}
use Rattle.repertoire.specs.Repertoire.{Repertoire}
use Rattle.repertoire.specs.Text.{is_text}

module _ (R : Repertoire) (ts : List ℕ) (t : ℕ) where
  -- n bytes stand at t, and they are a text
  abbrev pub is_text_at : ℕ → Bool
  is_text_at n = leb (t + n) (length ts) && is_text R (take n (drop t ts))

-- a text of o bytes stands at t, and behind it one of n bytes
abbrev pub are_texts_at : Repertoire → List ℕ → ℕ → ℕ → ℕ → Bool
are_texts_at R ts t o n = is_text_at R ts t o && is_text_at R ts (t + o) n
