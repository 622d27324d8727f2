-- Two neighbouring clusters exchanged: line_buffer.rs, transpose_chars.
use Rattle.std.specs.Prelude.{ℕ, ◌+◌, false, cond, ◌||◌, List, [], ◌∷◌, eqb, ltb, length, Option, None, Some}
use Rattle.lists.specs.Lists.{part}
use Rattle.repertoire.specs.Repertoire.{Repertoire}
use Rattle.cluster.specs.Clusters.{clusters_of}
use Rattle.motion_words.specs.Places.{on_from, back_from}
use Rattle.checks.specs.Checks.{own_tests}
use Rattle.checks.specs.Outcome.{Outcome}
use Rattle.formats.specs.declared.Format.{Format}
use Rattle.edit.specs.Plan.{State, splice, pasted, cutting, Plan, nothing}
use Rattle.edit.specs.Calls.{Lent, text_of, edit_call}

-- the cluster from p on is cut, and put in before the one in front of it; the cursor goes behind both
abbrev pub transposed : Repertoire → List ℕ → ℕ → List ℕ
transposed R t p = splice (splice t p (on_from R t p) []) (back_from R t p) (back_from R t p) (part t p (on_from R t p))

abbrev pub exchange : Repertoire → List ℕ → ℕ → Plan
exchange R t p =
    record {
      changes = cutting p (on_from R t p) ∷ pasted (back_from R t p) (part t p (on_from R t p)) ∷ [];
      cursor = on_from R (transposed R t p) (back_from R t p + length (part t p (on_from R t p)));
      number = 0;
      from = 0;
      to = 0;
    }

-- at the end of the text the last cluster is the one that is cut; nothing at the start, and with fewer than two clusters
unfoldable pub starts_at : Repertoire → List ℕ → ℕ → Option ℕ
starts_at R t pos = cond (eqb pos 0 || ltb (length (clusters_of R t)) 2) None (Some (cond (eqb pos (length t)) (back_from R t pos) pos))

abbrev pub exchange_at : Repertoire → List ℕ → ℕ → Option ℕ → Plan
exchange_at R t pos (Some p) = exchange R t p
exchange_at R t pos None = nothing pos

abbrev pub transpose_chars_plan : Repertoire → List ℕ → ℕ → Plan
transpose_chars_plan R t pos = exchange_at R t pos (starts_at R t pos)

abbrev pub transpose_chars_call : Repertoire → Format → Lent → Outcome State
transpose_chars_call R F l = edit_call R F l (own_tests false false false) (transpose_chars_plan R (text_of l) l.line.cursor)
