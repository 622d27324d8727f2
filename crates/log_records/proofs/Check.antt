-- The check of a list at a record, by the tests of the code. Assumes nothing.
use Prim.Native.Nat.{ℕ, ◌+◌, ◌≤◌, ◌<◌}
use native.Mathlib.Omega.{arith}
use mathlib.Core.Path.{◌≡◌, refl, sym, ap, subst, ◌∙◌}
use mathlib.Core.List.{List}
use mathlib.Core.Bool.{Bool, true, false, not, ◌&&◌, ◌||◌, and-true}
use lib.Dec.{leb, eqb}
use lib.ListN.{length, get_or, take, drop, take-append-drop}
use lib.Seq.{drop-drop, get_or-drop}
use borrow.Author.Tests.{leb-true, le-leb, eqb-true}
use Rattle.std.specs.Prelude.{Some, None}
use Rattle.std.proofs.lemmas.Option.{none-some}
use Rattle.lists.proofs.Bools.{and_both, by_test, never}
use Rattle.utf8.specs.Utf8.{tail}
use Rattle.utf8.specs.Chars.{no_tail}
use Rattle.repertoire.specs.Repertoire.{Repertoire}
use Rattle.repertoire.specs.Text.{is_text}
use Rattle.repertoire.proofs.Text.{text_nil, text-append, text-front}
use Rattle.formats.specs.declared.Format.{Format}
use Rattle.log_model.specs.Layout.{ok_change, first_len, size_of, texts_at, change_at, whole_at, is_some, decode_at, decode}
use Rattle.log_model.proofs.Decode.{change_begin, change_end, change_insert, change_delete, change_replace, Whole, whole_false}
use Rattle.log_model.proofs.Decode.{some_end, some_bad, some_step}
use Rattle.log_model.proofs.Texts.{whole-text}
use Rattle.log_model.proofs.Walk.{Come, come_end}
use Rattle.log_records.specs.declared.EditKind.{EditKind}
use Rattle.log_records.specs.declared.EditKind.TheVariants.{Insert, Delete, Replace}
use Rattle.log_records.specs.declared.Kind.{Kind}
use Rattle.log_records.specs.declared.Kind.TheVariants.{Begin, End, Edit}
use Rattle.log_records.specs.declared.Record.{Record}
use Rattle.log_records.specs.declared.Newest.{Newest}
use Rattle.log_records.specs.Records.{record_by, record_at}
use Rattle.log_records.specs.Check.{is_text_at, are_texts_at}
use Rattle.log_records.specs.Walks.{passing, NewestAt}
use Rattle.log_records.proofs.Records.{kind_byte, read_as, stands, read, whole_by, size_is, texts-size-is}
use Rattle.log_records.proofs.Walks.{NewestOf, newest, newest_none, pass_count, passes, newest_on}

-- ---- n bytes at t
module _ (R : Repertoire) (ts : List ℕ) (t n : ℕ) where
  none_at : n ≡ 0 → t ≤ length ts → true ≡ is_text_at R ts t n
  none_at e h = rw e (sym (rw (le-leb (t + 0) (length ts) (omega arith), text_nil R)))

  module _ (text : is_text R (drop t ts) ≡ true) where
    -- of a text, by the byte behind them
    by_end_of : (r : Bool) → t + n ≤ length ts → r ≡ no_tail ts (t + n) → r ≡ is_text_at R ts t n
    by_end_of r h e =
        let f = text-front R (drop t ts) n text ∙ ap (λ (b : ℕ). not (tail b)) (get_or-drop t ts n 256) in
        sym (rw (le-leb (t + n) (length ts) h) (f ∙ sym e))

    -- what stands behind them is a text too
    text-behind : is_text_at R ts t n ≡ true → (t + n ≤ length ts) × (is_text R (drop (t + n) ts) ≡ true)
    text-behind e =
        let b = and_both (leb (t + n) (length ts)) (is_text R (take n (drop t ts))) e in (
          leb-true _ _ b.0,
          ap (is_text R) (sym (drop-drop n t ts)) ∙ sym (text-append R (take n (drop t ts)) (drop n (drop t ts)) b.1) ∙ ap (is_text R) (take-append-drop n (drop t ts)) ∙ text,
        )

-- ---- o bytes at t, and n bytes behind them
module _ (R : Repertoire) (ts : List ℕ) (t o n : ℕ) where
  first-bad : is_text_at R ts t o ≡ false → false ≡ are_texts_at R ts t o n
  first-bad e = sym (rw e)

  second-says : (r : Bool) → is_text_at R ts t o ≡ true → r ≡ is_text_at R ts (t + o) n → r ≡ are_texts_at R ts t o n
  second-says r e f = f ∙ sym (rw e)

  -- they are texts
  abbrev two : Bool
  two = is_text R (take o (drop t ts)) && is_text R (take n (drop (t + o) ts))

  texts-at : t + (o + n) ≤ length ts → two ≡ true → are_texts_at R ts t o n ≡ true
  texts-at h e =
      let b = and_both (is_text R (take o (drop t ts))) (is_text R (take n (drop (t + o) ts))) e in
      rw (le-leb (t + o) (length ts) (omega arith), le-leb (t + o + n) (length ts) (omega arith), b.0, b.1)

  at-texts : are_texts_at R ts t o n ≡ true → (t + (o + n) ≤ length ts) × (two ≡ true)
  at-texts e =
      let b = and_both (is_text_at R ts t o) (is_text_at R ts (t + o) n) e in
      let x = and_both (leb (t + o) (length ts)) (is_text R (take o (drop t ts))) b.0 in
      let y = and_both (leb (t + o + n) (length ts)) (is_text R (take n (drop (t + o) ts))) b.1 in
      (omega (arith, leb-true (t + o + n) (length ts) y.0), rw (x.1, y.1))

-- ---- the same, of a text from t on, by the bytes behind them
module _ (R : Repertoire) (ts : List ℕ) (t o n : ℕ) (text : is_text R (drop t ts) ≡ true) where
  pub no_room-at : length ts < t + (o + n) → false ≡ are_texts_at R ts t o n
  no_room-at h = by_test _ (are_texts_at R ts t o n) (λ e. absurd (omega (arith, (at-texts R ts t o n e).0))) sym

  module _ (room : t + (o + n) ≤ length ts) where
    first-is : no_tail ts (t + o) ≡ is_text_at R ts t o
    first-is = by_end_of R ts t o text (no_tail ts (t + o)) (omega arith) refl

    second_is : is_text_at R ts t o ≡ true → no_tail ts (t + (o + n)) ≡ is_text_at R ts (t + o) n
    second_is e =
        let z : t + (o + n) ≡ t + o + n = omega arith in
        by_end_of R ts (t + o) n (text-behind R ts t o text e).1 (no_tail ts (t + (o + n))) (omega arith) (ap (no_tail ts) z)

    -- they end inside a character
    pub bad-end : no_tail ts (t + (o + n)) ≡ false → false ≡ are_texts_at R ts t o n
    bad-end z = by_test _ (is_text_at R ts t o) (λ e. second-says R ts t o n false e (sym z ∙ second_is e)) (first-bad R ts t o n)

    -- they end between two: the first says
    good-end : no_tail ts (t + (o + n)) ≡ true → (r : Bool) → r ≡ is_text_at R ts t o → r ≡ are_texts_at R ts t o n
    good-end z r f = by_test _ (is_text_at R ts t o) (λ e. second-says R ts t o n r e (f ∙ e ∙ sym z ∙ second_is e)) (λ e. f ∙ e ∙ first-bad R ts t o n e)

    pub middle_says : no_tail ts (t + (o + n)) ≡ true → (r : Bool) → r ≡ no_tail ts (t + o) → r ≡ are_texts_at R ts t o n
    middle_says z r f = good-end z r (f ∙ first-is)

    -- one is empty
    pub one_at : no_tail ts (t + (o + n)) ≡ true → (eqb o 0 || eqb n 0) ≡ true → true ≡ are_texts_at R ts t o n
    one_at z g =
        by_test _ (eqb o 0)
        (λ e. good-end z true (none_at R ts t o (eqb-true o 0 e) (omega arith)))
        (λ e.
        let m : n ≡ 0 = eqb-true n 0 (rw e at g) in
        let w : t + (o + n) ≡ t + o = omega arith in
        middle_says z true (sym z ∙ ap (no_tail ts) w))

-- one of them is empty, or both
module _ (R : Repertoire) (ts : List ℕ) (t : ℕ) where
  none_both : t ≤ length ts → are_texts_at R ts t 0 0 ≡ true
  none_both h = sym (second-says R ts t 0 0 true (sym (none_at R ts t 0 refl h)) (none_at R ts (t + 0) 0 refl (omega arith)))

  two_none : true ≡ two R ts t 0 0
  two_none = sym (rw (text_nil R))

  two-new : (n : ℕ) → is_text R (take n (drop t ts)) ≡ two R ts t 0 n
  two-new n =
      let z : t + 0 ≡ t = omega arith in
      sym (rw (text_nil R, z))

  two-old : (o : ℕ) → is_text R (take o (drop t ts)) ≡ two R ts t o 0
  two-old o = sym (rw (text_nil R, and-true (is_text R (take o (drop t ts)))))

-- ---- the record r at at, and its texts at t
module _ (R : Repertoire) (F : Format) (rs ts : List ℕ) (at t : ℕ) where
  abbrev two_of : Record → Bool
  two_of r = two R ts t r.old r.new

  fine_by : (k : Kind) → ok_change R (change_at F rs ts at t (kind_byte F k)) ≡ two_of (record_by F rs at k)
  fine_by Begin = ap (ok_change R) (change_begin F rs ts at t 1 refl) ∙ two_none R ts t
  fine_by End = ap (ok_change R) (change_end F rs ts at t 2 refl) ∙ two_none R ts t
  fine_by (Edit Insert) = ap (ok_change R) (change_insert F rs ts at t (3 + F.offset) refl) ∙ two-new R ts t (first_len F rs at)
  fine_by (Edit Delete) = ap (ok_change R) (change_delete F rs ts at t (4 + F.offset) refl) ∙ two-old R ts t (first_len F rs at)
  fine_by (Edit Replace) = ap (ok_change R) (change_replace F rs ts at t (5 + F.offset) refl)

  -- a record that is no edit's has no texts, and so they stand there
  abbrev pub IsBare : Record → Type 0
  IsBare r = ((x : EditKind) → r.kind ≡ Edit x → ⊥) → t ≤ length ts → are_texts_at R ts t r.old r.new ≡ true

  bare_by : (k : Kind) → IsBare (record_by F rs at k)
  bare_by Begin f h = none_both R ts t h
  bare_by End f h = none_both R ts t h
  bare_by (Edit Insert) f h = absurd (f Insert refl)
  bare_by (Edit Delete) f h = absurd (f Delete refl)
  bare_by (Edit Replace) f h = absurd (f Replace refl)

  pub bare_texts : (r : Record) → Some r ≡ record_at F rs at → IsBare r
  bare_texts r e =
      let (k, q) = read F rs at r e in
      subst IsBare (sym q.1) (bare_by k)

  -- no record
  pub no_record : None ≡ record_at F rs at → whole_at R F rs ts at t ≡ false
  no_record z =
      whole_false R F rs ts at t
      (λ q. let s = stands F rs at (q.kind, q.body) in none-some (record_by F rs at s.0) (z ∙ read_as F rs at s.0 s.1))

  module _ (r : Record) (e : Some r ≡ record_at F rs at) where
    fine_is : ok_change R (change_at F rs ts at t (get_or rs at 0)) ≡ two_of r
    fine_is =
        let q = (read F rs at r e) in
        ap (λ (b : ℕ). ok_change R (change_at F rs ts at t b)) q.1.0.byte ∙ fine_by q.0 ∙ sym (ap two_of q.1.1)

    -- its texts do not stand there
    texts-of : Whole R F rs ts at t → are_texts_at R ts t r.old r.new ≡ true
    texts-of q = texts-at R ts t r.old r.new (omega (arith, q.room, texts-size-is F rs at r e)) (sym fine_is ∙ q.fine)

    pub no_texts : are_texts_at R ts t r.old r.new ≡ false → whole_at R F rs ts at t ≡ false
    no_texts z = whole_false R F rs ts at t (λ q. never ⊥ (are_texts_at R ts t r.old r.new) (texts-of q) z)

    -- it is passed
    module _ (z : are_texts_at R ts t r.old r.new ≡ true) where
      sizes : (r.size ≡ size_of F (get_or rs at 0)) × (r.old + r.new ≡ texts_at F rs at (get_or rs at 0))
      sizes = (size_is F rs at r e, texts-size-is F rs at r e)

      all : Whole R F rs ts at t
      all =
          let w = whole_by F rs at r e in
          let b = at-texts R ts t r.old r.new z in
          record { kind = w.0; body = w.1; room = omega (arith, sizes.1, b.0); fine = fine_is ∙ b.1 }

      pub further : t + (r.old + r.new) ≤ length ts
      further = (at-texts R ts t r.old r.new z).0

      text_on : is_text R (drop t ts) ≡ true → is_text R (drop (t + (r.old + r.new)) ts) ≡ true
      text_on h = rw sizes.1 (sym (whole-text R F rs ts at t all) ∙ h)

      decode_on : is_some (decode_at R F rs ts (at + r.size) (t + (r.old + r.new))) ≡ is_some (decode_at R F rs ts at t)
      decode_on = rw (sizes.0, sizes.1) (sym (some_step R F rs ts at t all))

-- ---- the check has come to at and t, and n is what stands at the end there
pub record Looks (R : Repertoire) (F : Format) (rs ts : List ℕ) (n : Newest) (at t : ℕ) : Type 0 where
  pub records : at ≤ length rs
  pub texts : t ≤ length ts
  pub text : is_text R (drop t ts) ≡ true
  pub decodes : is_some (decode_at R F rs ts at t) ≡ is_some (decode R F rs ts)
  pub count : n.count ≤ at
  pub begins : n.begins ≤ n.count
  pub newest : Come R F rs at (NewestOf F n)

module _ (R : Repertoire) (F : Format) (rs ts : List ℕ) where
  pub looks_first : (n : Newest) → n ≡ newest 0 0 0 0 0 → is_text R ts ≡ true → Looks R F rs ts n 0 0
  looks_first n g e =
      rw g (record { records = omega arith; texts = omega arith; text = e; decodes = refl; count = omega arith; begins = omega arith; newest = newest_none R F rs })

  module _ (n : Newest) (at t : ℕ) (l : Looks R F rs ts n at t) where
    -- no whole record stands there
    pub looks_bad : at < length rs → whole_at R F rs ts at t ≡ false → false ≡ is_some (decode R F rs ts)
    looks_bad h e = sym (some_bad R F rs ts at t h e) ∙ l.decodes

    -- the record r is passed
    pub looks_on : (r : Record) → Some r ≡ record_at F rs at → are_texts_at R ts t r.old r.new ≡ true → (m : Newest) → m ≡ passing r.kind at (at + r.size) n
        → Looks R F rs ts m (at + r.size) (t + (r.old + r.new))
    looks_on r e z m g =
        let f = passes R F rs at r e in
        let c = pass_count r.kind at (at + r.size) n l.begins in
        let a = ap (λ (x : Newest). x.count) g in
        let b = ap (λ (x : Newest). x.begins) g in
        record {
          records = f.2;
          texts = further R F rs ts at t r e z;
          text = text_on R F rs ts at t r e z l.text;
          decodes = decode_on R F rs ts at t r e z ∙ l.decodes;
          count = omega (arith, l.count, f.1, c.0, a);
          begins = omega (arith, c.0, c.1, a, b);
          newest = newest_on R F rs at r e n m g l.newest;
        }

    -- all records are passed
    pub looks_end : length rs ≤ at → (eqb t (length ts) ≡ is_some (decode R F rs ts)) × NewestAt R F rs n
    looks_end h = (sym (some_end R F rs ts at t (omega (arith, l.records))) ∙ l.decodes, come_end R F rs at (NewestOf F n) h l.newest)
