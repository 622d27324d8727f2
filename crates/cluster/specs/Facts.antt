-- What the word rules ask of a cluster: line_buffer.rs, is_word_char, is_vi_word_char and is_other_char.
use Rattle.std.specs.Prelude.{ℕ, ◌+◌, Bool, false, ◌&&◌, ◌||◌, List, [], ◌∷◌, eqb}
use Rattle.lists.specs.Lists.{all, any}
use Rattle.repertoire.specs.Repertoire.{Repertoire}
use Rattle.cluster.specs.Clusters.{bytes}
use Rattle.cluster.specs.declared.Cluster.{Cluster}

-- the cluster is "_"
abbrev pub is_underscore : List ℕ → Bool
is_underscore [] = false
is_underscore (c ∷ []) = eqb c 0x5F
is_underscore (c ∷ (d ∷ cs)) = false

-- its length in bytes, whether all its characters are alphanumeric, whether any is white space, whether it is "_"
abbrev pub facts : Repertoire → List ℕ → Cluster
facts R k = record { len = bytes k; alnum = all R.alnum k; white = any R.white k; underscore = is_underscore k }

-- the facts of one character of n bytes, and with one character more at either end
abbrev pub single : Repertoire → ℕ → ℕ → Cluster
single R c n = record { len = n; alnum = R.alnum c; white = R.white c; underscore = eqb c 0x5F }

abbrev pub extended : Repertoire → Cluster → ℕ → ℕ → Cluster
extended R k c n = record { len = k.len + n; alnum = k.alnum && R.alnum c; white = k.white || R.white c; underscore = false }
