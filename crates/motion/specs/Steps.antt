-- Places that steps over clusters reach: line_buffer.rs, next_pos and prev_pos. Forward steps look only at the text from the place on,
-- backward ones at the text before it.
use Rattle.std.specs.Prelude.{ℕ, ◌≡◌, true, ◌≤◌, ◌+◌, ◌-◌, cond, ◌||◌, List, map, eqb, leb, length, take, drop}
use Rattle.std.specs.Prelude.{Option, None, Some, unwrap_or}
use Rattle.lists.specs.Lists.{sum}
use Rattle.utf8.specs.Chars.{valid, boundary}
use Rattle.repertoire.specs.Repertoire.{Repertoire}
use Rattle.cluster.specs.Clusters.{clusters_of, bytes}

-- a text, and a place in it between its characters
abbrev pub IsPlace : List ℕ → ℕ → Type 0
IsPlace s pos = (valid s ≡ true) × (boundary s pos ≡ true) × (pos ≤ length s)

-- the lengths in bytes of the clusters of a part
unfoldable pub sizes : Repertoire → List ℕ → List ℕ
sizes R s = map bytes (clusters_of R s)

-- n clusters forward from pos, fewer where the text ends; nothing at the end and for n = 0
unfoldable pub next_pos : Repertoire → List ℕ → ℕ → ℕ → Option ℕ
next_pos R s pos n = cond (leb (length s) pos || eqb n 0) None (Some (pos + sum (take n (sizes R (drop pos s)))))

-- n clusters back from pos, fewer where the text begins; nothing at the start and for n = 0
unfoldable pub prev_pos : Repertoire → List ℕ → ℕ → ℕ → Option ℕ
prev_pos R s pos n =
    cond (eqb pos 0 || eqb n 0) None (Some (sum (take (length (sizes R (take pos s)) - n) (sizes R (take pos s)))))

-- a place that is found, another where there is none
abbrev pub or_stay : ℕ → Option ℕ → ℕ
or_stay pos f = unwrap_or f pos
