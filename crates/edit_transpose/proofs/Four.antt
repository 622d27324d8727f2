-- Two words put in for each other: the four changes suit the text, what 9 says of them, and where the cursor is. Over any repertoire. Assumes nothing.
use Prim.Native.Nat.{ℕ, ◌+◌, ◌-◌, ◌≤◌, ◌<◌}
use native.Mathlib.Omega.{arith}
use mathlib.Core.Path.{◌≡◌, sym, ap, ap₂, subst, ◌∙◌}
use mathlib.Core.Bool.{Bool, true, false, or-false}
use mathlib.Core.List.{List, []}
use lib.Dec.{ltb}
use lib.ListN.{length}
use borrow.Author.Tests.{lt-ltb, le-ltb}
use Rattle.lists.specs.Lists.{part}
use Rattle.utf8.specs.Chars.{valid, boundary, In}
use Rattle.repertoire.specs.Repertoire.{Repertoire}
use Rattle.repertoire.specs.Text.{is_text}
use Rattle.repertoire.proofs.Text.{text-valid, text_nil}
use Rattle.edit.specs.Plan.{splice, text_after, AllSuit, too_long}
use Rattle.edit.proofs.Parts.{part-text, part_length}
use Rattle.edit.proofs.Splice.{splice-length, part-before, splice-text, splice-before, splice-behind, splice-start}
use Rattle.edit_transpose.specs.declared.Words.{Words}
use Rattle.motion_words.specs.Places.{words_on, words_back}
use Rattle.edit_transpose.specs.WordPairs.{words_around, words_plan, Apart}
use Rattle.motion_words.proofs.Stays.{words_on_place, words_back_place}

module _ (R : Repertoire) (t : List ℕ) (is : is_text R t ≡ true) (w : Words) (p : Apart t w) where
  abbrev a : ℕ
  a = w.beg1

  abbrev b : ℕ
  b = w.end1

  abbrev c : ℕ
  c = w.beg2

  abbrev d : ℕ
  d = w.end2

  abbrev w1 : List ℕ
  w1 = part t a b

  abbrev w2 : List ℕ
  w2 = part t c d

  -- the texts after each change
  abbrev pub m1 : List ℕ
  m1 = splice t c d []

  abbrev pub m2 : List ℕ
  m2 = splice m1 c c w1

  abbrev pub m3 : List ℕ
  m3 = splice m2 a b []

  abbrev pub m4 : List ℕ
  m4 = splice m3 a a w2

  ab : a ≤ b
  ab = p.first.0

  cd : c ≤ d
  cd = p.second.0

  dt : d ≤ length t
  dt = p.second.1

  pub text1 : is_text R w1 ≡ true
  text1 = part-text R t a b p.first is

  pub text2 : is_text R w2 ≡ true
  text2 = part-text R t c d p.second is

  pub size1 : length w1 ≡ b - a
  size1 = part_length R t a b p.first

  pub size2 : length w2 ≡ d - c
  size2 = part_length R t c d p.second

  pub long1 : length m1 ≡ length t - (d - c)
  long1 = splice-length t c d [] cd dt ∙ omega arith

  pub in1 : In m1 c c
  in1 = splice-start t c d [] p.second

  pub is1 : is_text R m1 ≡ true
  is1 = splice-text t c d [] p.second R is (text_nil R)

  pub long2 : length m2 ≡ length t - (d - c) + (b - a)
  long2 = splice-length m1 c c w1 (omega arith) in1.1 ∙ omega (arith, long1, size1)

  pub is2 : is_text R m2 ≡ true
  is2 = splice-text m1 c c w1 in1 R is1 text1

  before2 : (q : ℕ) → q ≤ c → boundary m2 q ≡ boundary t q
  before2 q h = splice-before m1 c c w1 in1 q h ∙ splice-before t c d [] p.second q h

  pub in2 : In m2 a b
  in2 = (ab, omega (arith, long2, ab, cd, dt, p.before), before2 a (omega (arith, ab, p.before)) ∙ p.first.2, before2 b p.before ∙ p.first.3)

  pub long3 : length m3 ≡ length t - (d - c)
  long3 = splice-length m2 a b [] in2.0 in2.1 ∙ omega (arith, long2, ab, cd, dt)

  pub in3 : In m3 a a
  in3 = splice-start m2 a b [] in2

  pub is3 : is_text R m3 ≡ true
  is3 = splice-text m2 a b [] in2 R is2 (text_nil R)

  pub long4 : length m4 ≡ length t
  long4 = splice-length m3 a a w2 (omega arith) in3.1 ∙ omega (arith, long3, size2, cd, dt)

  pub words_suit : AllSuit R (words_plan t w).changes t
  unfolding AllSuit
  words_suit = (p.second, ((in1, text1), (in2, ((in3, text2), tt))))

  -- the first word is still there when it is cut
  pub part2 : part m2 a b ≡ w1
  part2 = part-before m1 c c w1 a b ab p.before in1.1 ∙ part-before t c d [] a b ab p.before (omega (arith, cd, dt))

  -- ---- 9: the text after the second change is the longest
  module _ (C : ℕ) (h : length t ≤ C) where
    long_is : (e : Bool) → ltb C (length m2) ≡ e → too_long C (words_plan t w).changes t ≡ e
    unfolding too_long
    long_is e f =
        rw (le-ltb C (length m1) (omega (arith, long1)), f, le-ltb C (length m3) (omega (arith, long3)), le-ltb C (length m4) (omega (arith, long4))) (or-false e)

    pub words_long : C < length t - (d - c) + (b - a) → too_long C (words_plan t w).changes t ≡ true
    words_long k = long_is true (lt-ltb C (length m2) (omega (arith, long2)))

    pub words_short : length t - (d - c) + (b - a) ≤ C → too_long C (words_plan t w).changes t ≡ false
    words_short k = long_is false (le-ltb C (length m2) (omega (arith, long2)))

  -- ---- the cursor: behind all that was exchanged the text is as it was
  end1 : boundary m1 c ≡ boundary t d
  end1 =
      let e : c ≡ c + 0 + 0 = omega arith in
      let f : d + 0 ≡ d = omega arith in
      ap (boundary m1) e ∙ splice-behind t c d [] p.second (text-valid R [] (text_nil R)) 0 ∙ ap (boundary t) f

  end2 : boundary m2 (c + (b - a)) ≡ boundary t d
  end2 =
      let e : c + (b - a) ≡ c + length w1 + 0 = omega (arith, size1) in
      let f : c + 0 ≡ c = omega arith in
      ap (boundary m2) e ∙ splice-behind m1 c c w1 in1 (text-valid R w1 text1) 0 ∙ ap (boundary m1) f ∙ end1

  end3 : boundary m3 (a + (c - b + (b - a))) ≡ boundary t d
  end3 =
      let e : a + (c - b + (b - a)) ≡ a + 0 + (c - b + (b - a)) = omega arith in
      let f : b + (c - b + (b - a)) ≡ c + (b - a) = omega (arith, p.before) in
      ap (boundary m3) e ∙ splice-behind m2 a b [] in2 (text-valid R [] (text_nil R)) (c - b + (b - a)) ∙ ap (boundary m2) f ∙ end2

  end4 : boundary m4 d ≡ boundary t d
  end4 =
      let e : d ≡ a + length w2 + (c - b + (b - a)) = omega (arith, size2, ab, cd, p.before) in
      ap (boundary m4) e ∙ splice-behind m3 a a w2 in3 (text-valid R w2 text2) (c - b + (b - a)) ∙ end3

  pub words_cursor : In (text_after (words_plan t w).changes t) d d
  unfolding text_after
  words_cursor = (omega arith, omega (arith, long4, dt), end4 ∙ p.second.3, end4 ∙ p.second.3)

-- ---- the words that are found
module _ (R : Repertoire) (t : List ℕ) (v : valid t ≡ true) (n pos : ℕ) (i : In t pos pos) where
  abbrev x : Words
  x = words_around R t n pos

  pub end2_in : (pos ≤ x.end2) × (x.end2 ≤ length t) × (boundary t x.end2 ≡ true)
  end2_in = words_on_place R t v pos i.2 i.1 n

  pub beg2_in : (x.beg2 ≤ x.end2) × (boundary t x.beg2 ≡ true)
  beg2_in = words_back_place R t v x.end2 end2_in.2 end2_in.1 1

  beg2_within : x.beg2 ≤ length t
  beg2_within = omega (arith, beg2_in.0, end2_in.1)

  pub beg1_in : (x.beg1 ≤ x.beg2) × (boundary t x.beg1 ≡ true)
  beg1_in = words_back_place R t v x.beg2 beg2_in.1 beg2_within n

  pub beg1_within : x.beg1 ≤ length t
  beg1_within = omega (arith, beg1_in.0, beg2_within)

  pub end1_in : (x.beg1 ≤ x.end1) × (x.end1 ≤ length t) × (boundary t x.end1 ≡ true)
  end1_in = words_on_place R t v x.beg1 beg1_in.1 beg1_within 1

  pub around_apart : x.end1 ≤ x.beg2 → Apart t x
  around_apart h = record { first = (end1_in.0, end1_in.1, beg1_in.1, end1_in.2); second = (beg2_in.0, end2_in.1, beg2_in.1, end2_in.2); before = h }

-- ---- found one after the other
module _ (R : Repertoire) (t : List ℕ) (v : valid t ≡ true) (n pos : ℕ) (i : In t pos pos) (d : ℕ) (ed : d ≡ words_on R t n pos) where
  -- it may be gone on from
  abbrev Place : ℕ → Type 0
  Place q = (valid t ≡ true) × (boundary t q ≡ true) × (q ≤ length t)

  pub place_d : Place d
  place_d = subst Place (sym ed) (let k = words_on_place R t v pos i.2 i.1 n in (v, k.2, k.1))

  module _ (c : ℕ) (ec : c ≡ words_back R t 1 d) where
    pub place_c : Place c
    place_c = subst Place (sym ec) (let k = words_back_place R t v d place_d.1 place_d.2 1 in (v, k.1, let h = k.0 in let l = place_d.2 in omega arith))

    module _ (a : ℕ) (ea : a ≡ words_back R t n c) where
      pub within_a : a ≤ length t
      within_a = let k = words_back_place R t v c place_c.1 place_c.2 n in let h = k.0 in let l = place_c.2 in omega arith

      pub around_is : (b : ℕ) → b ≡ words_on R t 1 a → record { beg1 = a; end1 = b; beg2 = c; end2 = d } ≡ words_around R t n pos
      around_is b eb =
          let c' : c ≡ words_back R t 1 (words_on R t n pos) = ec ∙ ap (λ (q : ℕ). words_back R t 1 q) ed in
          let a' : a ≡ words_back R t n (words_back R t 1 (words_on R t n pos)) = ea ∙ ap (λ (q : ℕ). words_back R t n q) c' in
          let b' : b ≡ words_on R t 1 (words_back R t n (words_back R t 1 (words_on R t n pos))) = eb ∙ ap (λ (q : ℕ). words_on R t 1 q) a' in
          ap₂ (λ (x y : ℕ). record { beg1 = x; end1 = y; beg2 = c; end2 = d }) a' b'
          ∙ ap₂ (λ (x y : ℕ). record {
            beg1 = words_back R t n (words_back R t 1 (words_on R t n pos));
            end1 = words_on R t 1
                (words_back R t n (words_back R t 1 (words_on R t n pos)));
            beg2 = x;
            end2 = y;
          }) c' ed
