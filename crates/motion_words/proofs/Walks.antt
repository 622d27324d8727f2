-- Going over the grapheme indices of a text, at a place: what each way of a turn of the loops gives. Assumes nothing.
use mathlib.Core.Path.{◌≡◌, refl, sym, ap, ◌∙◌}
use mathlib.Core.Bool.{Bool, true, false, cond}
use mathlib.Core.List.{List, [], ◌∷◌, reverse}
use Prim.Native.Nat.{ℕ, zero, suc, ◌+◌, ◌-◌, ◌<◌, ◌≤◌}
use native.Mathlib.Omega.{arith}
use lib.ListN.{length, take, drop}
use lib.Seq.{take-length}
use Rattle.utf8.specs.Chars.{boundary}
use Rattle.repertoire.specs.Repertoire.{Repertoire}
use Rattle.cluster.specs.Clusters.{first_size}
use Rattle.cluster.specs.declared.Cluster.{Cluster}
use Rattle.keymap.specs.declared.Word.{Word}
use Rattle.keymap.specs.declared.At.{At}
use Rattle.motion_words.specs.declared.Landing.{Landing}
use Rattle.motion_words.specs.Rules.{stops_at, is_start_of_word}
use Rattle.motion_words.specs.Walk.{GraphemeIndex, grapheme_indices, scan, onward, walk}
use Rattle.motion_words.specs.Words.{stops, lands, lands_on, is_before_end, next_word, starts_back, lands_back, prev_word}
use Rattle.motion_words.proofs.Indices.{index, indices_at, first_of, indices_all, indices_passed, indices_step, indices_none, indices_back}
use Rattle.motion_words.proofs.Indices.{last_of, back_step, back_none}

-- the place found, 0 where the text ran out, and the start of the last cluster read there
abbrev pub landing : ℕ → ℕ → Landing
landing p l = record { found = p; last = l }

module _ (stops : GraphemeIndex → GraphemeIndex → Bool) (lands : GraphemeIndex → GraphemeIndex → ℕ) where
  -- ---- the inner loop: x is read, ms follow it
  module _ (f : List GraphemeIndex → ℕ → Landing) (x : GraphemeIndex) (ms : List GraphemeIndex) where
    scan-out : ms ≡ [] → onward stops lands f (scan stops lands x ms) ≡ landing 0 x.start
    unfolding scan
    scan-out e = rw e

    module _ (y : GraphemeIndex) (gs : List GraphemeIndex) (e : ms ≡ y ∷ gs) where
      scan-hit : stops x y ≡ true → onward stops lands f (scan stops lands x ms) ≡ f gs (lands x y)
      unfolding scan
      scan-hit t = rw (e, t)

      scan_on : stops x y ≡ false → onward stops lands f (scan stops lands x ms) ≡ onward stops lands f (scan stops lands y gs)
      unfolding scan
      scan_on t = rw (e, t)

  -- ---- the outer loop: n rounds are left, ms are not read yet
  walk-done : (n : ℕ) (ms : List GraphemeIndex) (p : ℕ) → n ≤ 0 → walk stops lands n ms p ≡ landing p 0
  unfolding walk
  walk-done zero ms p h = refl
  walk-done (suc n) ms p h = absurd (omega arith)

  walk_end : (n : ℕ) (ms : List GraphemeIndex) (p : ℕ) → 0 < n → ms ≡ [] → walk stops lands n ms p ≡ landing 0 0
  unfolding walk
  walk_end zero ms p h e = absurd (omega arith)
  walk_end (suc n) ms p h e = rw e

  walk_on : (n : ℕ) (ms : List GraphemeIndex) (p : ℕ) (x : GraphemeIndex) (gs : List GraphemeIndex) → 0 < n → ms ≡ x ∷ gs →
      walk stops lands n ms p ≡ onward stops lands (walk stops lands (n - 1)) (scan stops lands x gs)
  unfolding walk
  walk_on zero ms p x gs h e = absurd (omega arith)
  walk_on (suc n) ms p x gs h e = let z : suc n - 1 ≡ n = omega arith in rw (e, z)

-- ---- forward
module _ (R : Repertoire) (t : List ℕ) (at : At) (w : Word) where
  -- the rounds left, from next on; p is where the round before landed
  abbrev pub rounds : ℕ → ℕ → ℕ → Landing
  rounds left next p = walk (stops at w) (lands at w) left (indices_at R t next) p

  -- the same inside a round, with the cluster x read, which starts at i
  abbrev pub in_round : ℕ → ℕ → Cluster → ℕ → Landing
  in_round left i x next = onward (stops at w) (lands at w) (walk (stops at w) (lands at w) (left - 1)) (scan (stops at w) (lands at w) (index i x) (indices_at R t next))

  pub rounds_done : (left next p : ℕ) → left ≤ 0 → rounds left next p ≡ landing p 0
  rounds_done left next p h = walk-done (stops at w) (lands at w) left (indices_at R t next) p h

  -- r is the cluster at next
  module _ (next : ℕ) (r : Cluster) (e : r ≡ first_of R (drop next t)) where
    pub rounds_out : (left p : ℕ) → 0 < left → r.len ≡ 0 → rounds left next p ≡ landing 0 0
    rounds_out left p h z = walk_end (stops at w) (lands at w) left (indices_at R t next) p h (indices_none R t next r e z)

    pub rounds_in : (left p : ℕ) → 0 < left → (r.len ≡ 0 → ⊥) → rounds left next p ≡ in_round left next r (next + r.len)
    rounds_in left p h z =
        walk_on (stops at w) (lands at w) left (indices_at R t next) p (index next r) (indices_at R t (next + r.len)) h (indices_step R t next r e z)

    module _ (left i : ℕ) (x : Cluster) where
      pub in_out : r.len ≡ 0 → in_round left i x next ≡ landing 0 i
      in_out z = scan-out (stops at w) (lands at w) _ (index i x) (indices_at R t next) (indices_none R t next r e z)

      pub in_hit : (b : Bool) (p : ℕ) → (r.len ≡ 0 → ⊥) → b ≡ stops_at at w x r → b ≡ true → p ≡ lands_on at w i next →
          in_round left i x next ≡ rounds (left - 1) (next + r.len) p
      in_hit b p z s d q =
          scan-hit (stops at w) (lands at w) _ (index i x) (indices_at R t next) (index next r) (indices_at R t (next + r.len)) (indices_step R t next r e z) (sym s ∙ d) ∙
          ap (rounds (left - 1) (next + r.len)) (sym q)

      pub in_on : (b : Bool) → (r.len ≡ 0 → ⊥) → b ≡ stops_at at w x r → b ≡ false → in_round left i x next ≡ in_round left next r (next + r.len)
      in_on b z s d =
          scan_on (stops at w) (lands at w) _ (index i x) (indices_at R t next) (index next r) (indices_at R t (next + r.len)) (indices_step R t next r e z) (sym s ∙ d)

  -- the first round
  module _ (n : ℕ) where
    pub first-all : is_before_end at ≡ false → next_word R t at w n ≡ rounds n 0 0
    unfolding next_word
    first-all e =
        ap (λ (b : Bool). walk (stops at w) (lands at w) n (drop (cond b 1 0) (grapheme_indices R t)) 0) e ∙
        ap (λ (l : List GraphemeIndex). walk (stops at w) (lands at w) n l 0) (indices_all R t)

    -- BeforeEnd passes the first cluster, of k bytes
    pub first-passed : (k : ℕ) → is_before_end at ≡ true → k ≡ first_size R t → next_word R t at w n ≡ rounds n k 0
    unfolding next_word
    first-passed k e f =
        ap (λ (b : Bool). walk (stops at w) (lands at w) n (drop (cond b 1 0) (grapheme_indices R t)) 0) e ∙
        ap (λ (l : List GraphemeIndex). walk (stops at w) (lands at w) n l 0) (indices_passed R t k f)

-- ---- backward
module _ (R : Repertoire) (t : List ℕ) (w : Word) where
  -- the rounds left, from rest back; p is where the round before landed
  abbrev pub rounds_back : ℕ → ℕ → ℕ → Landing
  rounds_back left rest p = walk (starts_back w) lands_back left (indices_back R t rest) p

  -- the same inside a round, with the cluster y read, which starts at j
  abbrev pub in_round_back : ℕ → ℕ → Cluster → ℕ → Landing
  in_round_back left j y rest = onward (starts_back w) lands_back (walk (starts_back w) lands_back (left - 1)) (scan (starts_back w) lands_back (index j y) (indices_back R t rest))

  pub back_done : (left rest p : ℕ) → left ≤ 0 → rounds_back left rest p ≡ landing p 0
  back_done left rest p h = walk-done (starts_back w) lands_back left (indices_back R t rest) p h

  pub back_first : (n : ℕ) → prev_word R t w n ≡ (rounds_back n (length t) 0).found
  unfolding prev_word indices_back
  back_first n = ap (λ (l : List ℕ). (walk (starts_back w) lands_back n (reverse (grapheme_indices R l)) 0).found) (sym (take-length t))

  -- r is the cluster that ends at rest
  module _ (rest : ℕ) (r : Cluster) (l : rest ≤ length t) (b : boundary t rest ≡ true) (e : r ≡ last_of R (take rest t)) where
    pub back_out : (left p : ℕ) → 0 < left → r.len ≡ 0 → rounds_back left rest p ≡ landing 0 0
    back_out left p h z = walk_end (starts_back w) lands_back left (indices_back R t rest) p h (back_none R t rest r l b e z)

    pub back_in : (left p : ℕ) → 0 < left → (r.len ≡ 0 → ⊥) → rounds_back left rest p ≡ in_round_back left (rest - r.len) r (rest - r.len)
    back_in left p h z =
        walk_on (starts_back w) lands_back left (indices_back R t rest) p (index (rest - r.len) r) (indices_back R t (rest - r.len)) h
        (back_step R t rest r l b e z).step

    module _ (left j : ℕ) (y : Cluster) where
      pub in_back_out : r.len ≡ 0 → in_round_back left j y rest ≡ landing 0 j
      in_back_out z = scan-out (starts_back w) lands_back _ (index j y) (indices_back R t rest) (back_none R t rest r l b e z)

      pub in_back_hit : (d : Bool) → (r.len ≡ 0 → ⊥) → d ≡ is_start_of_word w r y → d ≡ true → in_round_back left j y rest ≡ rounds_back (left - 1) (rest - r.len) j
      in_back_hit d z s q =
          scan-hit (starts_back w) lands_back _ (index j y) (indices_back R t rest) (index (rest - r.len) r) (indices_back R t (rest - r.len))
          (back_step R t rest r l b e z).step (sym s ∙ q)

      pub in_back_on : (d : Bool) → (r.len ≡ 0 → ⊥) → d ≡ is_start_of_word w r y → d ≡ false →
          in_round_back left j y rest ≡ in_round_back left (rest - r.len) r (rest - r.len)
      in_back_on d z s q =
          scan_on (starts_back w) lands_back _ (index j y) (indices_back R t rest) (index (rest - r.len) r) (indices_back R t (rest - r.len))
          (back_step R t rest r l b e z).step (sym s ∙ q)
