-- Searches for a character: line_buffer.rs, search_char_pos. Characters are counted, marks too.
use Rattle.std.specs.Prelude.{ℕ, ◌+◌, cond, List, [], ◌∷◌, reverse, eqb, take, drop, Option, None, Some}
use Rattle.std.specs.Option.{option_map}
use Rattle.utf8.specs.Chars.{chars, start_before}
use Rattle.utf8.specs.Encode.{size}
use Rattle.repertoire.specs.Repertoire.{Repertoire}
use Rattle.cluster.specs.Clusters.{first_size}
use Rattle.keymap.specs.declared.CharSearch.{CharSearch}
use Rattle.keymap.specs.declared.CharSearch.TheVariants.{Forward, ForwardBefore, Backward, BackwardAfter}

-- char_indices().filter(ch == c): the places at which c stands among some characters, the first of which stands at the place given
unfoldable pub matches : ℕ → ℕ → List ℕ → List ℕ
matches c at [] = []
matches c at (d ∷ cs) = cond (eqb d c) (at ∷ matches c (at + size d) cs) (matches c (at + size d) cs)

-- the last place of a list, nothing where it is empty
abbrev pub last_found : Option ℕ → List ℕ → Option ℕ
last_found f [] = f
last_found f (p ∷ ps) = last_found (Some p) ps

-- take(n).last(): the n-th match, the last one where there are fewer
unfoldable pub nth_match : ℕ → List ℕ → Option ℕ
nth_match n ps = last_found None (take n ps)

-- behind the cluster at the cursor
unfoldable pub after_cluster : Repertoire → List ℕ → ℕ → ℕ
after_cluster R s pos = pos + first_size R (drop pos s)

unfoldable pub match_forward : Repertoire → List ℕ → ℕ → ℕ → ℕ → Option ℕ
match_forward R s pos c n = nth_match n (matches c (after_cluster R s pos) (chars (drop (after_cluster R s pos) s)))

unfoldable pub match_backward : List ℕ → ℕ → ℕ → ℕ → Option ℕ
match_backward s pos c n = nth_match n (reverse (matches c 0 (chars (take pos s))))

-- Forward: at the match; ForwardBefore: at the character before it; Backward: at the match; BackwardAfter: behind it
abbrev pub search_char_pos : Repertoire → List ℕ → ℕ → CharSearch → ℕ → Option ℕ
search_char_pos R s pos (Forward c) n = match_forward R s pos c n
search_char_pos R s pos (ForwardBefore c) n = option_map (start_before s) (match_forward R s pos c n)
search_char_pos R s pos (Backward c) n = match_backward s pos c n
search_char_pos R s pos (BackwardAfter c) n = option_map (λ p. p + size c) (match_backward s pos c n)
