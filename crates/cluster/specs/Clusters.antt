-- UAX #29, section 3.1.1: extended grapheme clusters over a repertoire whose classes are Control (with CR and LF), Extend (its marks) and Other.
-- `clusters` has GB1 and GB2; `joined` has GB3, GB4, GB5, GB9 and GB999, which look at two neighbouring code points. The other rules cannot
-- apply to catalogue's texts (repertoire/specs/Repertoire.antt: nothing over U+0178 but the marks U+0300 to U+0333), for each asks for a
-- character of a class that has none there:
--   GB6, GB7, GB8  Hangul syllables: L, V, T, LV, LVT, the first of which is U+1100
--   GB9, its ZWJ   U+200D
--   GB9a           SpacingMark, the first of which is U+0903
--   GB9b           Prepend, the first of which is U+0600
--   GB9c           Indic conjuncts, from Unicode 15.1 on: consonants and linkers of Indic scripts, the first of which is U+0915; the marks
--                  are of its class Extend, which joins nothing without these
--   GB11           emoji sequences: U+00A9 and U+00AE are Extended_Pictographic, and the ZWJ between two of these is no member
--   GB12, GB13     regional indicators, the first of which is U+1F1E6
use Rattle.std.specs.Prelude.{ℕ, ◌+◌, Bool, true, false, cond, ◌&&◌, List, [], ◌∷◌, eqb}
use Rattle.lists.specs.Lists.{head_or, last_or}
use Rattle.utf8.specs.Chars.{chars}
use Rattle.utf8.specs.Encode.{size}
use Rattle.repertoire.specs.Repertoire.{Repertoire}

-- no break between p and the c that follows it, by the rules in their order
unfoldable pub joined : Repertoire → ℕ → ℕ → Bool
joined R p c =
    -- GB3: CR × LF
    cond (eqb p 0x0D && eqb c 0x0A) true
    -- GB4: (Control | CR | LF) ÷
    (cond (R.control p) false
    -- GB5: ÷ (Control | CR | LF)
    (cond (R.control c) false
    -- GB9: × Extend; GB999: Any ÷ Any
    (R.mark c)))

-- c in front of the clusters ks: in the first of them, or one of its own
abbrev pub attach : Bool → ℕ → List (List ℕ) → List (List ℕ)
attach true c [] = (c ∷ []) ∷ []
attach true c (k ∷ ks) = (c ∷ k) ∷ ks
attach false c ks = (c ∷ []) ∷ ks

-- the clusters of some characters; GB1 and GB2 break at both ends
unfoldable pub clusters : Repertoire → List ℕ → List (List ℕ)
clusters R [] = []
clusters R (c ∷ []) = (c ∷ []) ∷ []
clusters R (c ∷ (d ∷ cs)) = attach (joined R c d) c (clusters R (d ∷ cs))

-- the clusters of a part of a text, looked at by itself
abbrev pub clusters_of : Repertoire → List ℕ → List (List ℕ)
clusters_of R s = clusters R (chars s)

-- the first of them and the last, the cluster of no characters where there is none
abbrev pub first_cluster : Repertoire → List ℕ → List ℕ
first_cluster R s = head_or [] (clusters_of R s)

abbrev pub last_cluster : Repertoire → List ℕ → List ℕ
last_cluster R s = last_or [] (clusters_of R s)

-- how many bytes some characters have
abbrev pub bytes : List ℕ → ℕ
bytes [] = 0
bytes (c ∷ cs) = size c + bytes cs

-- how many bytes the first cluster has
abbrev pub first_size : Repertoire → List ℕ → ℕ
first_size R s = bytes (first_cluster R s)
