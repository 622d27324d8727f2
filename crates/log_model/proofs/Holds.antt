-- The two lists in the two buffers: each list by itself, a record put behind, the redo list dropped, the list cut, the seam moved. Assumes nothing.
use Prim.Native.Nat.{ℕ, ◌+◌, ◌-◌, ◌≤◌}
use native.Mathlib.Omega.{arith}
use mathlib.Core.Path.{◌≡◌, refl, sym, ap, ap₂, subst, ◌∙◌}
use mathlib.Core.List.{List, [], ◌∷◌, ◌++◌, append_assoc, append-nil}
use lib.ListN.{length, take, drop, length-append, take-append-drop}
use lib.Seq.{take-add, length-take-le, take-take, sets, length-sets, take_at, drop_at}
use Rattle.lists.proofs.Parts.{drop-take}
use Rattle.lists.proofs.Stores.{take-sets}
use Rattle.repertoire.specs.Repertoire.{Repertoire}
use Rattle.log_model.specs.Change.{Change}
use Rattle.formats.specs.declared.Format.{Format}
use Rattle.log_model.specs.Layout.{record_of, texts_of, encode_records, encode_texts, Good, AllGood, Layout}
use Rattle.log_model.specs.Holds.{Holds}

-- ---- lists of changes one behind the other
pub records-append : (F : Format) (xs ys : List Change) → encode_records F (xs ++ ys) ≡ encode_records F xs ++ encode_records F ys
records-append F [] ys = refl
records-append F (a ∷ xs) ys = rw (records-append F xs ys) (sym (append_assoc (record_of F a) (encode_records F xs) (encode_records F ys)))

pub texts-append : (xs ys : List Change) → encode_texts (xs ++ ys) ≡ encode_texts xs ++ encode_texts ys
texts-append [] ys = refl
texts-append (a ∷ xs) ys = rw (texts-append xs ys) (sym (append_assoc (texts_of a) (encode_texts xs) (encode_texts ys)))

-- one record behind the others
pub records_snoc : (F : Format) (xs : List Change) (c : Change) → encode_records F (xs ++ (c ∷ [])) ≡ encode_records F xs ++ record_of F c
records_snoc F xs c = records-append F xs (c ∷ []) ∙ rw (append-nil (record_of F c))

pub texts_snoc : (xs : List Change) (c : Change) → encode_texts (xs ++ (c ∷ [])) ≡ encode_texts xs ++ texts_of c
texts_snoc xs c = texts-append xs (c ∷ []) ∙ rw (append-nil (texts_of c))

module _ (R : Repertoire) (w : ℕ) where
  pub good-append : (xs ys : List Change) → AllGood R w xs → AllGood R w ys → AllGood R w (xs ++ ys)
  good-append [] ys h i = i
  good-append (a ∷ xs) ys h i = (h.0, good-append xs ys h.1 i)

  pub good_left : (xs ys : List Change) → AllGood R w (xs ++ ys) → AllGood R w xs
  good_left [] ys h = tt
  good_left (a ∷ xs) ys h = (h.0, good_left xs ys h.1)

  pub good_right : (xs ys : List Change) → AllGood R w (xs ++ ys) → AllGood R w ys
  good_right [] ys h = h
  good_right (a ∷ xs) ys h = good_right xs ys h.1

module _ (R : Repertoire) (F : Format) where
  pub layout_nil : Layout R F [] [] []
  layout_nil = record { records = refl; texts = refl; good = tt }

  pub layout_one : (c : Change) → Good R F.width c → Layout R F (record_of F c) (texts_of c) (c ∷ [])
  layout_one c h = record { records = sym (append-nil (record_of F c)); texts = sym (append-nil (texts_of c)); good = (h, tt) }

  pub layout_append : (r1 t1 r2 t2 : List ℕ) (xs ys : List Change) → Layout R F r1 t1 xs → Layout R F r2 t2 ys → Layout R F (r1 ++ r2) (t1 ++ t2) (xs ++ ys)
  layout_append r1 t1 r2 t2 xs ys x y =
      record {
        records = ap₂ ◌++◌ x.records y.records ∙ sym (records-append F xs ys);
        texts = ap₂ ◌++◌ x.texts y.texts ∙ sym (texts-append xs ys);
        good = good-append R F.width xs ys x.good y.good;
      }

  -- the parts of a layout, at the places n and m where the first list ends
  pub layout_left : (rs ts : List ℕ) (n m : ℕ) (xs ys : List Change) → Layout R F rs ts (xs ++ ys) → n ≡ length (encode_records F xs) → m ≡ length (encode_texts xs)
      → Layout R F (take n rs) (take m ts) xs
  layout_left rs ts n m xs ys x e f =
      record {
        records = ap (take n) (x.records ∙ records-append F xs ys) ∙ take_at (encode_records F xs) (encode_records F ys) n (sym e);
        texts = ap (take m) (x.texts ∙ texts-append xs ys) ∙ take_at (encode_texts xs) (encode_texts ys) m (sym f);
        good = good_left R F.width xs ys x.good;
      }

  pub layout_right : (rs ts : List ℕ) (n m : ℕ) (xs ys : List Change) → Layout R F rs ts (xs ++ ys) → n ≡ length (encode_records F xs) → m ≡ length (encode_texts xs)
      → Layout R F (drop n rs) (drop m ts) ys
  layout_right rs ts n m xs ys x e f =
      record {
        records = ap (drop n) (x.records ∙ records-append F xs ys) ∙ drop_at (encode_records F xs) (encode_records F ys) n (sym e);
        texts = ap (drop m) (x.texts ∙ texts-append xs ys) ∙ drop_at (encode_texts xs) (encode_texts ys) m (sym f);
        good = good_right R F.width xs ys x.good;
      }

  module _ (rb tb : List ℕ) (ur ut rr rt : ℕ) (us rs : List Change) where
    -- from a layout of each list
    pub holds : ur + rr ≤ length rb → ut + rt ≤ length tb → Layout R F (take ur rb) (take ut tb) us → Layout R F (take rr (drop ur rb)) (take rt (drop ut tb)) rs
        → Holds R F rb tb ur ut rr rt us rs
    holds h i x y =
        record {
          both = rw (take-add ur rr rb, take-add ut rt tb) (layout_append (take ur rb) (take ut tb) (take rr (drop ur rb)) (take rt (drop ut tb)) us rs x y);
          records = sym (length-take-le ur rb (omega arith)) ∙ ap length x.records;
          texts = sym (length-take-le ut tb (omega arith)) ∙ ap length x.texts;
          room = h;
          space = i;
        }

    -- the undo list by itself
    pub front : Holds R F rb tb ur ut rr rt us rs → Layout R F (take ur rb) (take ut tb) us
    front h =
        rw (← take-take ur (ur + rr) rb (omega arith), ← take-take ut (ut + rt) tb (omega arith))
        (layout_left (take (ur + rr) rb) (take (ut + rt) tb) ur ut us rs h.both h.records h.texts)

    -- the redo list by itself
    pub behind : Holds R F rb tb ur ut rr rt us rs → Layout R F (take rr (drop ur rb)) (take rt (drop ut tb)) rs
    behind h =
        let e : ur + rr - ur ≡ rr = omega arith in
        let f : ut + rt - ut ≡ rt = omega arith in
        rw (drop-take ur (ur + rr) rb, drop-take ut (ut + rt) tb, e, f) at (layout_right (take (ur + rr) rb) (take (ut + rt) tb) ur ut us rs h.both h.records h.texts)

  -- the undo list alone
  pub holds_alone : (rb tb : List ℕ) (ur ut : ℕ) (us : List Change) → ur ≤ length rb → ut ≤ length tb → Layout R F (take ur rb) (take ut tb) us → Holds R F rb tb ur ut 0 0 us []
  holds_alone rb tb ur ut us h i x = holds rb tb ur ut 0 0 us [] (omega arith) (omega arith) x layout_nil

  module _ (rb tb : List ℕ) (ur ut rr rt : ℕ) (us rs : List Change) (h : Holds R F rb tb ur ut rr rt us rs) where
    -- the redo list dropped
    pub cleared : Holds R F rb tb ur ut 0 0 us []
    cleared = holds_alone rb tb ur ut us (omega arith) (omega arith) (front rb tb ur ut rr rt us rs h)

    -- a record behind the undo list, the redo list dropped
    pub pushed : (c : Change) → Good R F.width c → ur + length (record_of F c) ≤ length rb → ut + length (texts_of c) ≤ length tb
        → Holds R F (sets rb ur (record_of F c)) (sets tb ut (texts_of c)) (ur + length (record_of F c)) (ut + length (texts_of c)) 0 0 (us ++ (c ∷ [])) []
    pushed c g i j =
        holds_alone (sets rb ur (record_of F c)) (sets tb ut (texts_of c)) (ur + length (record_of F c)) (ut + length (texts_of c)) (us ++ (c ∷ []))
        (simp length-sets (omega arith)) (simp length-sets (omega arith))
        (rw (take-sets rb ur (record_of F c) i, take-sets tb ut (texts_of c) j)
        (layout_append (take ur rb) (take ut tb) (record_of F c) (texts_of c) us (c ∷ []) (front rb tb ur ut rr rt us rs h) (layout_one c g)))

    -- the first n records kept
    pub cut : (n : ℕ) → Holds R F rb tb (length (encode_records F (take n us))) (length (encode_texts (take n us))) 0 0 (take n us) []
    cut n =
        holds_alone rb tb i j (take n us) (omega (arith, below)) (omega (arith, within))
        (rw (take-take i ur rb below, take-take j ut tb within)
        at (layout_left (take ur rb) (take ut tb) i j (take n us) (drop n us) (subst (Layout R F (take ur rb) (take ut tb)) parts (front rb tb ur ut rr rt us rs h)) refl refl))
      where
        i : ℕ
        i = length (encode_records F (take n us))

        j : ℕ
        j = length (encode_texts (take n us))

        parts : us ≡ take n us ++ drop n us
        parts = sym (take-append-drop n us)

        below : i ≤ ur
        below = omega (
          arith,
          h.records,
          ap (λ (x : List Change). length (encode_records F x)) parts,
          ap length
              (records-append F (take n us) (drop n us)),
          length-append (encode_records F (take n us)) (encode_records F (drop n us)),
        )

        within : j ≤ ut
        within = omega (
          arith,
          h.texts,
          ap (λ (x : List Change). length (encode_texts x)) parts,
          ap length (texts-append (take n us) (drop n us)),
          length-append (encode_texts (take n us)) (encode_texts (drop n us)),
        )

  -- ---- the list cut after its first n records, and the redo list moved down behind them
  -- a part taken out of a buffer's used bytes
  gap : (l l' p q r : List ℕ) (used i k : ℕ) → take used l ≡ (p ++ q) ++ r → i ≡ length p → k ≡ length (p ++ q) → used ≤ length l
      → take (used - (k - i)) l' ≡ take i (take used l) ++ drop k (take used l) → take (i + length r) l' ≡ p ++ r
  gap l l' p q r used i k e ei ek h c =
      let n : used ≡ length p + length q + length r = sym (length-take-le used l h) ∙ ap length e ∙ simp length-append in
      let m : used - (k - i) ≡ i + length r = omega (arith, length-append p q) in
      ap (λ (j : ℕ). take j l') (sym m) ∙ c
      ∙ ap₂ ◌++◌ (ap (take i) (e ∙ append_assoc p q r) ∙ take_at p (q ++ r) i (sym ei)) (ap (drop k) e ∙ drop_at (p ++ q) r k (sym ek))

  pub closed : (rb tb rb' tb' : List ℕ) (ur ut rr rt : ℕ) (us rs : List Change) (n : ℕ) → Holds R F rb tb ur ut rr rt us rs → length rb' ≡ length rb → length tb' ≡ length tb
      → (i j : ℕ) → i ≡ length (encode_records F (take n us)) → j ≡ length (encode_texts (take n us))
      → take (ur + rr - (ur - i)) rb' ≡ take i (take (ur + rr) rb) ++ drop ur (take (ur + rr) rb)
      → take (ut + rt - (ut - j)) tb' ≡ take j (take (ut + rt) tb) ++ drop ut (take (ut + rt) tb)
      → Holds R F rb' tb' i j rr rt (take n us) rs
  closed rb tb rb' tb' ur ut rr rt us rs n h lr lt i j ei ej cr ct =
      record {
        both =
            record {
              records = ap (λ (k : ℕ). take (i + k) rb') er ∙ gap rb rb' a b c (ur + rr) i ur whole ei front-end h.room cr ∙ sym (records-append F (take n us) rs);
              texts = ap (λ (k : ℕ). take (j + k) tb') et ∙ gap tb tb' a' b' c' (ut + rt) j ut whole' ej front_end' h.space ct ∙ sym (texts-append (take n us) rs);
              good = good-append R F.width (take n us) rs (good_left R F.width (take n us) (drop n us)
                  (subst (AllGood R F.width) parts (good_left R F.width us rs h.both.good))) (good_right R F.width us rs h.both.good);
            };
        records = ei;
        texts = ej;
        room = omega (arith, lr, h.room, h.records, ei, front-end, length-append a b);
        space = omega (arith, lt, h.space, h.texts, ej, front_end', length-append a' b');
      }
    where
      parts : us ≡ take n us ++ drop n us
      parts = sym (take-append-drop n us)

      a : List ℕ
      a = encode_records F (take n us)

      b : List ℕ
      b = encode_records F (drop n us)

      c : List ℕ
      c = encode_records F rs

      a' : List ℕ
      a' = encode_texts (take n us)

      b' : List ℕ
      b' = encode_texts (drop n us)

      c' : List ℕ
      c' = encode_texts rs

      records_parts : encode_records F us ≡ a ++ b
      records_parts = ap (encode_records F) parts ∙ records-append F (take n us) (drop n us)

      texts_parts : encode_texts us ≡ a' ++ b'
      texts_parts = ap encode_texts parts ∙ texts-append (take n us) (drop n us)

      whole : take (ur + rr) rb ≡ (a ++ b) ++ c
      whole = h.both.records ∙ records-append F us rs ∙ ap (λ (l : List ℕ). l ++ c) records_parts

      whole' : take (ut + rt) tb ≡ (a' ++ b') ++ c'
      whole' = h.both.texts ∙ texts-append us rs ∙ ap (λ (l : List ℕ). l ++ c') texts_parts

      front-end : ur ≡ length (a ++ b)
      front-end = h.records ∙ ap length records_parts

      front_end' : ut ≡ length (a' ++ b')
      front_end' = h.texts ∙ ap length texts_parts

      er : rr ≡ length c
      er = omega (arith, sym (length-take-le (ur + rr) rb h.room) ∙ ap length whole ∙ length-append (a ++ b) c, front-end)

      et : rt ≡ length c'
      et = omega (arith, sym (length-take-le (ut + rt) tb h.space) ∙ ap length whole' ∙ length-append (a' ++ b') c', front_end')

-- ---- the seam moved within the row of records: the bytes stay, only the lengths change
module _ {R : Repertoire} {F : Format} {rb tb : List ℕ} {ur ut rr rt : ℕ} {us rs : List Change} (h : Holds R F rb tb ur ut rr rt us rs)
    (us' rs' : List Change) (row : us ++ rs ≡ us' ++ rs') {at t : ℕ} (e : at ≡ length (encode_records F us')) (f : t ≡ length (encode_texts us')) where
  pub seam_within : at ≤ ur + rr
  seam_within =
      omega (
        arith,
        e,
        length-take-le (ur + rr) rb h.room,
        ap length (h.both.records ∙ ap (encode_records F) row ∙ records-append F us' rs'),
        length-append (encode_records F us') (encode_records F rs'),
      )

  pub texts-within : t ≤ ut + rt
  texts-within =
      omega (
        arith,
        f,
        length-take-le (ut + rt) tb h.space,
        ap length (h.both.texts ∙ ap encode_texts row ∙ texts-append us' rs'),
        length-append
            (encode_texts us') (encode_texts rs'),
      )

  pub seam_moved : Holds R F rb tb at t (ur + rr - at) (ut + rt - t) us' rs'
  seam_moved =
      let a : ur + rr ≡ at + (ur + rr - at) = omega (arith, seam_within) in
      let b : ut + rt ≡ t + (ut + rt - t) = omega (arith, texts-within) in
      record {
        both =
            subst (λ (n : ℕ). Layout R F (take n rb) (take (t + (ut + rt - t)) tb) (us' ++ rs')) a
            (subst (λ (n : ℕ). Layout R F (take (ur + rr) rb) (take n tb) (us' ++ rs')) b (subst (Layout R F (take (ur + rr) rb) (take (ut + rt) tb)) row h.both));
        records = e;
        texts = f;
        room = omega (arith, a, h.room);
        space = omega (arith, b, h.space);
      }
