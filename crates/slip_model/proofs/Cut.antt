-- Words are cut at 60 columns: of a text's words, every cluster but the first takes one column, and the first no more. Over any lawful repertoire.
use Prim.Native.Nat.{ℕ, ◌+◌, ◌≤◌}
use mathlib.Core.Path.{◌≡◌, refl, sym, ap, subst, ◌∙◌}
use mathlib.Core.Bool.{Bool, true, false, cond, ◌&&◌}
use mathlib.Core.List.{List, [], ◌∷◌}
use native.Mathlib.Omega.{arith}
use lib.Dec.{eqb, leb}
use borrow.Author.Tests.{leb-true, leb-false, eqb-false, ne_eqb}
use Rattle.lists.specs.Lists.{any}
use Rattle.lists.proofs.Every.{Every, every_weaken}
use Rattle.lists.proofs.Bools.{never, or_none, by_test}
use Rattle.repertoire.specs.Repertoire.{Repertoire, Lawful}
use Rattle.repertoire.proofs.Widths.{width-most}
use Rattle.cluster.specs.Clusters.{joined, attach, clusters}
use Rattle.layout.specs.Width.{advance, column_after, columns_after}
use Rattle.slip_model.specs.Slip.{Word, Item, word, gap, newline, grown, items_of, columns, onto, pieces}
use Rattle.slip_model.specs.Promised.{CutAt60, words_in}
use Rattle.slip_model.proofs.Columns.{column_add, none_columns, piece_more}
use Rattle.slip_model.proofs.Words.{Clear, items_by}

-- ---- what cutting asks of a word
module _ (R : Repertoire) where
  -- clusters of one column each
  abbrev pub Ones : Word → Type 0
  Ones w = Every (λ (k : List ℕ). columns R (k ∷ []) ≡ 1) w

  -- the same but for the first, which has one column or none
  abbrev pub OnesBehind : Word → Type 0
  OnesBehind [] = Unit {0}
  OnesBehind (k ∷ w) = (columns R (k ∷ []) ≤ 1) × Ones w

  -- pieces of which the first stands behind some columns
  abbrev CutFrom : ℕ → List Word → Type 0
  CutFrom col [] = Unit {0}
  CutFrom col (p ∷ []) = col + columns R p ≤ 60
  CutFrom col (p ∷ (q ∷ ps)) = (col + columns R p ≡ 60) × CutAt60 R (q ∷ ps)

  -- where nothing stands before the first piece, they are cut at 60 columns
  cut-start : (ps : List Word) → CutFrom 0 ps → CutAt60 R ps
  cut-start [] h = tt
  cut-start (p ∷ []) h = omega (arith, h)
  cut-start (p ∷ (q ∷ ps)) h = (omega (arith, h.0), h.1)

  -- a cluster in front of the first piece, which then begins so many columns earlier
  onto-cut : (col from : ℕ) (k : List ℕ) (ps : List Word) → from ≡ col + columns R (k ∷ []) → from ≤ 60 → CutFrom from ps → CutFrom col (onto k ps)
  onto-cut col from k [] e m h = omega (arith, e, m)
  onto-cut col from k (p ∷ []) e m h = omega (arith, e, h, piece_more R k p)
  onto-cut col from k (p ∷ (q ∷ ps)) e m h = (omega (arith, e, h.0, piece_more R k p), h.1)

  -- a piece that ends at 60 columns, and one that begins with a cluster
  next-cut : (col : ℕ) (k : List ℕ) (ps : List Word) → col ≡ 60 → CutAt60 R (onto k ps) → CutFrom col ([] ∷ onto k ps)
  next-cut col k [] e h = (omega (arith, e, none_columns R), h)
  next-cut col k (p ∷ ps) e h = (omega (arith, e, none_columns R), h)

  -- one cluster of one column more
  step_cut : (col : ℕ) (k : List ℕ) (b : Bool) (ps qs : List Word) → leb (col + columns R (k ∷ [])) 60 ≡ b → col ≤ 60 → columns R (k ∷ []) ≡ 1 →
      (col + columns R (k ∷ []) ≤ 60 → CutFrom (col + columns R (k ∷ [])) ps) → CutFrom (columns R (k ∷ [])) qs →
      CutFrom col (cond b (onto k ps) ([] ∷ onto k qs))
  step_cut col k true ps qs e m one h i =
      let fits = leb-true (col + columns R (k ∷ [])) 60 e in
      onto-cut col (col + columns R (k ∷ [])) k ps refl fits (h fits)
  step_cut col k false ps qs e m one h i =
      let past = leb-false (col + columns R (k ∷ [])) 60 e in
      next-cut col k qs (omega (arith, past, m, one)) (cut-start (onto k qs) (onto-cut 0 (columns R (k ∷ [])) k qs (omega arith) (omega (arith, one)) i))

  -- a word of one column each, begun behind some columns
  ones_cut : (col : ℕ) (w : Word) → col ≤ 60 → Ones w → CutFrom col (pieces R col w)
  unfolding pieces
  ones_cut col [] m h = omega (arith, m, none_columns R)
  ones_cut col (k ∷ w) m h =
      let n = columns R (k ∷ []) in
      step_cut col k (leb (col + n) 60) (pieces R (col + n) w) (pieces R n w) refl m h.0 (λ fits. ones_cut (col + n) w fits h.1)
      (ones_cut n w (omega (arith, h.0)) h.1)

  -- the first cluster always fits
  first-cut : (k : List ℕ) (b : Bool) (ps qs : List Word) → leb (0 + columns R (k ∷ [])) 60 ≡ b → columns R (k ∷ []) ≤ 1 →
      CutFrom (0 + columns R (k ∷ [])) ps → CutFrom 0 (cond b (onto k ps) ([] ∷ onto k qs))
  first-cut k true ps qs e m h = onto-cut 0 (0 + columns R (k ∷ [])) k ps refl (omega (arith, m)) h
  first-cut k false ps qs e m h = absurd (omega (arith, m, leb-false (0 + columns R (k ∷ [])) 60 e))

  -- a word whose clusters have one column each behind the first is cut at 60 columns
  pub word_cut : (w : Word) → OnesBehind w → CutAt60 R (pieces R 0 w)
  unfolding pieces
  word_cut [] h = omega (arith, none_columns R)
  word_cut (k ∷ w) h =
      let n = columns R (k ∷ []) in
      cut-start (pieces R 0 (k ∷ w))
      (first-cut k (leb (0 + n) 60) (pieces R (0 + n) w) (pieces R n w) refl h.0 (ones_cut (0 + n) w (omega (arith, h.0)) h.1))

-- ---- the columns of clusters
-- the rules of `joined`, where GB3, GB4 and GB5 do not apply
no_breaks : (cr lf p c m : Bool) → lf ≡ false → p ≡ false → c ≡ false → cond (cr && lf) true (cond p false (cond c false m)) ≡ m
no_breaks true true p c m e f g = never _ true refl e
no_breaks true false true c m e f g = never _ true refl f
no_breaks true false false true m e f g = never _ true refl g
no_breaks true false false false m e f g = refl
no_breaks false lf true c m e f g = never _ true refl f
no_breaks false lf false true m e f g = never _ true refl g
no_breaks false lf false false m e f g = refl

module _ (R : Repertoire) where
  -- the first character of what is clear
  clear_head : (c : ℕ) (k : List ℕ) → Clear R (c ∷ k) → (eqb 0x0A c ≡ false) × (R.white c ≡ false)
  clear_head c k h = ((or_none (eqb 0x0A c) (any (eqb 0x0A) k) h.no_newline).0, (or_none (R.white c) (any R.white k) h.no_white).0)

  -- what is clear is clear without its first character
  clear_tail : (c : ℕ) (k : List ℕ) → Clear R (c ∷ k) → Clear R k
  clear_tail c k h =
      record {
        no_newline = (or_none (eqb 0x0A c) (any (eqb 0x0A) k) h.no_newline).1;
        no_white = (or_none (R.white c) (any R.white k) h.no_white).1;
      }

  -- a cluster's columns are those of its first character and of the others
  cluster_columns : (c : ℕ) (k : List ℕ) → columns R ((c ∷ k) ∷ []) ≡ R.width c + column_after R 0 k
  unfolding columns_after column_after advance
  cluster_columns c k = omega (arith, column_add R (0 + R.width c) k)

  -- a clear cluster behind a clear one has one column
  abbrev Follows : List ℕ → List (List ℕ) → Type 0
  Follows k [] = Unit {0}
  Follows k (l ∷ ls) = Clear R k → Clear R l → columns R (l ∷ []) ≡ 1

  -- clusters of which the clear ones have one column, or none at the front of a run
  abbrev Narrow : List (List ℕ) → Type 0
  Narrow [] = Unit {0}
  Narrow (k ∷ ks) = (Clear R k → columns R (k ∷ []) ≤ 1) × (Follows k ks × Narrow ks)

  -- each of them by itself
  narrow_each : (ks : List (List ℕ)) → Narrow ks → Every (λ (k : List ℕ). Clear R k → columns R (k ∷ []) ≤ 1) ks
  narrow_each [] h = tt
  narrow_each (k ∷ ks) h = (h.0, narrow_each ks h.1.1)

  -- clusters that begin with the character c
  record Begun (c : ℕ) (ks : List (List ℕ)) : Type 0 where
    pub others : List ℕ
    pub behind : List (List ℕ)
    pub parts : ks ≡ (c ∷ others) ∷ behind
    pub none : Clear R (c ∷ others) → column_after R 0 others ≡ 0
    pub next : Follows (c ∷ others) behind
    pub rest : Narrow behind

  -- what follows a cluster's end follows the cluster
  follows_more : (c : ℕ) (k : List ℕ) (ls : List (List ℕ)) → Follows k ls → Follows (c ∷ k) ls
  follows_more c k [] f = tt
  follows_more c k (l ∷ ls) f = λ h i. f (clear_tail c k h) i

  module _ (law : Lawful R) where
    -- controls are white space
    no_control : (c : ℕ) → R.white c ≡ false → R.control c ≡ false
    no_control c e = by_test (R.control c ≡ false) (R.control c) (λ t. never _ (R.white c) (law.controls c t) e) (λ f. f)

    -- clear characters are joined where the second is a mark
    joined-mark : (p c : ℕ) → R.white p ≡ false → R.white c ≡ false → eqb 0x0A c ≡ false → joined R p c ≡ R.mark c
    unfolding joined
    joined-mark p c e f n =
        no_breaks (eqb p 0x0D) (eqb c 0x0A) (R.control p) (R.control c) (R.mark c) (ne_eqb c 0x0A (λ q. eqb-false 0x0A c n (sym q)))
        (no_control p e) (no_control c f)

    -- so a clear character has no column where it is joined to a clear one, and one where it is not
    joined-width : (p c : ℕ) (j k : List ℕ) → Clear R (p ∷ j) → Clear R (c ∷ k) → R.width c ≡ cond (joined R p c) 0 1
    joined-width p c j k h i =
        let a = clear_head p j h in
        let b = clear_head c k i in
        law.widths c ∙ ap (λ (m : Bool). cond m 0 1) (sym (joined-mark p c a.1 b.1 b.0))

    -- the first cluster has the columns of its first character
    begun-narrow : (c : ℕ) (ks : List (List ℕ)) → Begun c ks → Narrow ks
    begun-narrow c ks b =
        subst Narrow (sym b.parts) (λ h. omega (arith, cluster_columns c b.others, b.none h, width-most R law c), (b.next, b.rest))

    -- one character in front, joined or not
    attach-begun : (c d : ℕ) (j : Bool) (ks : List (List ℕ)) → joined R c d ≡ j → Begun d ks → Begun c (attach j c ks)
    unfolding column_after advance
    attach-begun c d true ks e b =
        record {
          others = d ∷ b.others;
          behind = b.behind;
          parts = ap (attach true c) b.parts;
          none =
              λ h.
              let i = clear_tail c (d ∷ b.others) h in
              let w : R.width d ≡ 0 = joined-width c d (d ∷ b.others) b.others h i ∙ ap (λ (m : Bool). cond m 0 1) e in
              omega (arith, column_add R (0 + R.width d) b.others, w, b.none i);
          next = follows_more c (d ∷ b.others) b.behind b.next;
          rest = b.rest;
        }
    attach-begun c d false ks e b =
        record {
          others = [];
          behind = ks;
          parts = refl;
          none = λ h. refl;
          next =
              subst (Follows (c ∷ [])) (sym b.parts)
              (λ h i.
              let w : R.width d ≡ 1 = joined-width c d [] b.others h i ∙ ap (λ (m : Bool). cond m 0 1) e in
              omega (arith, cluster_columns d b.others, w, b.none i));
          rest = begun-narrow d ks b;
        }

    -- the clusters of some characters begin with the first of them
    clusters-begun : (c : ℕ) (cs : List ℕ) → Begun c (clusters R (c ∷ cs))
    unfolding clusters column_after
    clusters-begun c [] = record { others = []; behind = []; parts = refl; none = λ h. refl; next = tt; rest = tt }
    clusters-begun c (d ∷ cs) = attach-begun c d (joined R c d) (clusters R (d ∷ cs)) refl (clusters-begun d cs)

    -- the clusters of any characters: the clear ones have one column, or none at the front of a run
    clusters-narrow : (cs : List ℕ) → Narrow (clusters R cs)
    unfolding clusters
    clusters-narrow [] = tt
    clusters-narrow (c ∷ cs) = begun-narrow c (clusters R (c ∷ cs)) (clusters-begun c cs)

    -- the clear ones have one column at most
    pub clusters-one : (cs : List ℕ) → Every (λ (k : List ℕ). Clear R k → columns R (k ∷ []) ≤ 1) (clusters R cs)
    clusters-one cs = narrow_each (clusters R cs) (clusters-narrow cs)

  -- ---- the words of such clusters
  -- items that a clear cluster may stand in front of
  abbrev Takes : List Item → Type 0
  Takes [] = Unit {0}
  Takes (word w ∷ is) = Ones R w
  Takes (gap ∷ is) = Unit {0}
  Takes (newline ∷ is) = Unit {0}

  -- every word among some items
  abbrev AllBehind : List Item → Type 0
  AllBehind is = Every (OnesBehind R) (words_in is)

  -- a cluster of one column in front of them
  grown_takes : (k : List ℕ) (is : List Item) → columns R (k ∷ []) ≡ 1 → Takes is → Takes (grown k is)
  grown_takes k [] e t = (e, tt)
  grown_takes k (word w ∷ is) e t = (e, t)
  grown_takes k (gap ∷ is) e t = (e, tt)
  grown_takes k (newline ∷ is) e t = (e, tt)

  -- where it has one column at most, as at the front of a word
  grown-ones : (k : List ℕ) (is : List Item) → columns R (k ∷ []) ≤ 1 → Takes is → AllBehind is → AllBehind (grown k is)
  grown-ones k [] m t a = ((m, tt), tt)
  grown-ones k (word w ∷ is) m t a = ((m, t), a.1)
  grown-ones k (gap ∷ is) m t a = ((m, tt), a)
  grown-ones k (newline ∷ is) m t a = ((m, tt), a)

  -- what follows a clear cluster may have it in front
  items_takes : (k : List ℕ) (ks : List (List ℕ)) → Clear R k → Follows k ks → Narrow ks → Takes (items_of R ks)
  unfolding items_of
  items_takes k [] h f s = tt
  items_takes k (l ∷ ls) h f s =
      items_by R Takes l ls tt tt (λ i. grown_takes l (items_of R ls) (f h i) (items_takes l ls i s.1.0 s.1.1))

  -- every word of such clusters has one column for each cluster behind its first
  items_ones : (ks : List (List ℕ)) → Narrow ks → AllBehind (items_of R ks)
  unfolding items_of
  items_ones [] s = tt
  items_ones (k ∷ ks) s =
      items_by R AllBehind k ks (items_ones ks s.1.1) (items_ones ks s.1.1)
      (λ h. grown-ones k (items_of R ks) (s.0 h) (items_takes k ks h s.1.0 s.1.1) (items_ones ks s.1.1))

-- every word of a text has one column for each cluster behind its first
pub words_ones : (R : Repertoire) → Lawful R → (cs : List ℕ) → Every (OnesBehind R) (words_in (items_of R (clusters R cs)))
words_ones R law cs = items_ones R (clusters R cs) (clusters-narrow R law cs)

-- and so is cut at 60 columns
pub words_cut : (R : Repertoire) → Lawful R → (cs : List ℕ) → Every (λ (w : Word). CutAt60 R (pieces R 0 w)) (words_in (items_of R (clusters R cs)))
words_cut R law cs =
    every_weaken (OnesBehind R) (λ (w : Word). CutAt60 R (pieces R 0 w)) (word_cut R) (words_in (items_of R (clusters R cs))) (words_ones R law cs)
