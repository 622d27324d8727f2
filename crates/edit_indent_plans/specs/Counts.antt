-- What a dedent of some lines cuts, counted: that many records, and the bytes of their texts.
use Rattle.std.specs.Prelude.{ℕ, ◌+◌, cond, List, [], ◌∷◌, ltb}
use Rattle.repertoire.specs.Repertoire.{Repertoire}
use Rattle.edit_indent_plans.specs.Touched.{deleting}

-- the lines of which a dedent by m cuts something
unfoldable pub cuts_in : Repertoire → ℕ → List (List ℕ) → ℕ
cuts_in R m [] = 0
cuts_in R m (x ∷ xs) = cond (ltb 0 (deleting R m x)) 1 0 + cuts_in R m xs

-- the bytes that it cuts
unfoldable pub bytes_in : Repertoire → ℕ → List (List ℕ) → ℕ
bytes_in R m [] = 0
bytes_in R m (x ∷ xs) = deleting R m x + bytes_in R m xs
