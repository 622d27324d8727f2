-- The record at a place by its numbers: as the code reads them by the kind that its first byte names, and as the change c that stands there has
-- them. Assumes nothing.
use Prim.Native.Nat.{ℕ, ◌+◌, ◌-◌, ◌≤◌, ◌<◌}
use native.Mathlib.Omega.{arith}
use mathlib.Core.Path.{◌≡◌, refl, sym, ap, subst, ◌∙◌}
use mathlib.Core.List.{List, [], ◌∷◌, ◌++◌, reverse, append_assoc, reverse-append, reverse-cons, reverse-reverse}
use lib.ListN.{length, get_or, drop, length-take, length-append}
use borrow.Author.Tests.{eq-eqb, ne_eqb, le-leb, lt-leb}
use Rattle.std.specs.Prelude.{Option, Some, None}
use Rattle.std.proofs.lemmas.Option.{same_Some, none-some}
use Rattle.std.proofs.lemmas.List.{get_or_past}
use Rattle.lists.proofs.Bools.{by_less}
use Rattle.repertoire.specs.Repertoire.{Repertoire}
use Rattle.numbers.specs.Numbers.{num_at}
use Rattle.formats.specs.declared.Format.{Format}
use Rattle.log_model.specs.Change.{Change, begin, end, edit, insert, delete, replace}
use Rattle.log_model.specs.Layout.{kind_of, first_len, second_len, record_of, texts_of, encode_records, encode_texts, size_of, texts_at}
use Rattle.log_model.specs.Layout.{Layout}
use Rattle.log_model.specs.UndoBytes.{undo_records}
use Rattle.log_model.proofs.Decode.{KindIs, is-begin, is-end, is-insert, is-delete, is-replace, kind-is, size-begin, size-end, size-insert}
use Rattle.log_model.proofs.Decode.{size-delete, size-replace, size_none, texts-begin, texts-end, texts-insert, texts-delete, texts-replace}
use Rattle.log_model.proofs.Decode.{change_insert, change_delete, change_replace, Reads}
use Rattle.log_model.proofs.Walk.{Here, reads_at, whole-at}
use Rattle.log_records.specs.declared.EditKind.{EditKind}
use Rattle.log_records.specs.declared.EditKind.TheVariants.{Insert, Delete, Replace}
use Rattle.log_records.specs.declared.Kind.{Kind}
use Rattle.log_records.specs.declared.Kind.TheVariants.{Begin, End, Edit}
use Rattle.log_records.specs.declared.Record.{Record}
use Rattle.log_records.specs.Written.{edit_byte}
use Rattle.log_records.specs.Records.{numbers, numbers_of, kind_by, kind_size, record_by, IsWhole, record_if, record_at, Carries}

-- ---- the kind by its byte
module _ (F : Format) where
  abbrev pub kind_byte : Kind → ℕ
  kind_byte Begin = 1
  kind_byte End = 2
  kind_byte (Edit k) = edit_byte F k

  pub names : (k : Kind) → kind_by F (kind_byte k) ≡ Some k
  unfolding kind_by
  names Begin = refl
  names End = refl
  names (Edit Insert) = simp (ne_eqb (3 + F.offset) 1 (λ x. omega arith), ne_eqb (3 + F.offset) 2 (λ x. omega arith), eq-eqb (3 + F.offset) (3 + F.offset) refl)
  names (Edit Delete) =
      simp (
        ne_eqb (4 + F.offset) 1 (λ x. omega arith),
        ne_eqb (4 + F.offset) 2 (λ x. omega arith),
        ne_eqb (4 + F.offset) (3 + F.offset) (λ x. omega arith),
        eq-eqb (4 + F.offset) (4 + F.offset) refl,
      )
  names (Edit Replace) =
      simp (
        ne_eqb (5 + F.offset) 1 (λ x. omega arith),
        ne_eqb (5 + F.offset) 2 (λ x. omega arith),
        ne_eqb (5 + F.offset) (3 + F.offset) (λ x. omega arith),
        ne_eqb (5 + F.offset) (4 + F.offset) (λ x. omega arith),
        eq-eqb (5 + F.offset) (5 + F.offset) refl,
      )

  pub kind_len : (k : Kind) → size_of F (kind_byte k) ≡ kind_size F k
  kind_len Begin = size-begin F 1 refl
  kind_len End = size-end F 2 refl
  kind_len (Edit Insert) = size-insert F (3 + F.offset) refl
  kind_len (Edit Delete) = size-delete F (4 + F.offset) refl
  kind_len (Edit Replace) = size-replace F (5 + F.offset) refl

  pub kind_pos : (k : Kind) → 0 < kind_size F k
  kind_pos Begin = omega arith
  kind_pos End = omega arith
  kind_pos (Edit Insert) = omega arith
  kind_pos (Edit Delete) = omega arith
  kind_pos (Edit Replace) = omega arith

-- the byte b names the kind k
pub record Named (F : Format) (b : ℕ) (k : Kind) : Type 0 where
  pub byte : b ≡ kind_byte F k
  pub is : kind_by F b ≡ Some k

module _ (F : Format) (b : ℕ) where
  named : (k : Kind) → b ≡ kind_byte F k → Named F b k
  named k e = record { byte = e; is = ap (kind_by F) e ∙ names F k }

  -- a byte with a size names one
  kind-named : KindIs F b → (k : Kind) × Named F b k
  kind-named (is-begin e) = (Begin, named Begin e)
  kind-named (is-end e) = (End, named End e)
  kind-named (is-insert e) = (Edit Insert, named (Edit Insert) e)
  kind-named (is-delete e) = (Edit Delete, named (Edit Delete) e)
  kind-named (is-replace e) = (Edit Replace, named (Edit Replace) e)

  -- and one without a size names none
  no_kind : size_of F b ≡ 0 → kind_by F b ≡ None
  unfolding kind_by
  no_kind z =
      simp (
        ne_eqb b 1 (λ e. omega (arith, size-begin F b e)),
        ne_eqb b 2 (λ e. omega (arith, size-end F b e)),
        ne_eqb b (3 + F.offset) (λ e. omega (arith, size-insert F b e)),
        ne_eqb b (4 + F.offset) (λ e. omega (arith, size-delete F b e)),
        ne_eqb b (5 + F.offset) (λ e. omega (arith, size-replace F b e)),
      )

  pub by_kind : (k : Kind) → Some k ≡ kind_by F b → b ≡ kind_byte F k
  by_kind k e =
      by_less (b ≡ kind_byte F k) 0 (size_of F b)
      (λ h. let (m, n) = kind-named (kind-is F b h) in n.byte ∙ ap (kind_byte F) (same_Some m k (sym n.is ∙ sym e)))
      (λ h. absurd (none-some k (sym (no_kind (omega arith)) ∙ sym e)))

  -- its size
  pub size_by_kind : (k : Kind) (n : ℕ) → Some k ≡ kind_by F b → n ≡ kind_size F k → n ≡ size_of F b
  size_by_kind k n e f = f ∙ sym (ap (size_of F) (by_kind k e) ∙ kind_len F k)

-- the size of its texts
texts-read : (F : Format) (rs : List ℕ) (at : ℕ) (k : Kind) → (record_by F rs at k).old + (record_by F rs at k).new ≡ texts_at F rs at (kind_byte F k)
texts-read F rs at Begin = sym (texts-begin F rs at 1 refl)
texts-read F rs at End = sym (texts-end F rs at 2 refl)
texts-read F rs at (Edit Insert) = omega (arith, texts-insert F rs at (3 + F.offset) refl)
texts-read F rs at (Edit Delete) = omega (arith, texts-delete F rs at (4 + F.offset) refl)
texts-read F rs at (Edit Replace) = sym (texts-replace F rs at (5 + F.offset) refl)

kind-read : (F : Format) (rs : List ℕ) (at : ℕ) (k : Kind) → (record_by F rs at k).kind ≡ k
kind-read F rs at Begin = refl
kind-read F rs at End = refl
kind-read F rs at (Edit Insert) = refl
kind-read F rs at (Edit Delete) = refl
kind-read F rs at (Edit Replace) = refl

names_change : (F : Format) (c : Change) → kind_by F (kind_of F c) ≡ Some (numbers_of F c).kind
names_change F begin = names F Begin
names_change F end = names F End
names_change F (edit (insert p s)) = names F (Edit Insert)
names_change F (edit (delete p s)) = names F (Edit Delete)
names_change F (edit (replace p o n)) = names F (Edit Replace)

size-read : (F : Format) (rs : List ℕ) (at : ℕ) (k : Kind) → (record_by F rs at k).size ≡ kind_size F k
size-read F rs at Begin = refl
size-read F rs at End = refl
size-read F rs at (Edit Insert) = refl
size-read F rs at (Edit Delete) = refl
size-read F rs at (Edit Replace) = refl

-- ---- whether a whole record stands at the place
-- a whole record of the kind k
pub record Stands (F : Format) (rs : List ℕ) (at : ℕ) (k : Kind) : Type 0 where
  pub byte : get_or rs at 0 ≡ kind_byte F k
  pub room : at + kind_size F k ≤ length rs

module _ (F : Format) (rs : List ℕ) (at : ℕ) where
  -- it is read
  pub read_as : (k : Kind) → Stands F rs at k → record_at F rs at ≡ Some (record_by F rs at k)
  unfolding record_at
  read_as k s = ap (record_if F rs at) (ap (kind_by F) s.byte ∙ names F k) ∙ rw (le-leb (at + kind_size F k) (length rs) s.room)

  -- a whole record has a kind
  pub stands : IsWhole F rs at → (k : Kind) × Stands F rs at k
  stands w =
      let (k, n) = kind-named F (get_or rs at 0) (kind-is F (get_or rs at 0) w.0) in
      (k, record { byte = n.byte; room = omega (arith, w.1, ap (size_of F) n.byte, kind_len F k) })

  -- and its byte names that
  pub some_kind : IsWhole F rs at → None ≡ kind_by F (get_or rs at 0) → ⊥
  some_kind w e = let (k, s) = stands w in none-some k (e ∙ ap (kind_by F) s.byte ∙ names F k)

  whole : (k : Kind) → Stands F rs at k → IsWhole F rs at
  whole k s =
      let e = ap (size_of F) s.byte ∙ kind_len F k in
      (omega (arith, e, kind_pos F k), omega (arith, e, s.room))

  -- no kind, or no room for the record
  pub no_kind_at : None ≡ kind_by F (get_or rs at 0) → None ≡ record_at F rs at
  unfolding record_at
  no_kind_at e = ap (record_if F rs at) e

  pub no_room : (k : Kind) → Some k ≡ kind_by F (get_or rs at 0) → length rs < at + kind_size F k → None ≡ record_at F rs at
  unfolding record_at
  no_room k e h = sym (rw (lt-leb (at + kind_size F k) (length rs) h)) ∙ ap (record_if F rs at) e

  pub no_byte : length rs ≤ at → None ≡ record_at F rs at
  no_byte h =
      no_kind_at (sym (no_kind F (get_or rs at 0) (ap (size_of F) (get_or_past rs at 0 h)
      ∙ size_none F 0 (λ e. omega arith) (λ e. omega arith) (λ e. omega arith) (λ e. omega arith) (λ e. omega arith))))

  -- as the code finds it: by the kind k that the byte names, whose size is n
  pub stands-at : (k : Kind) (n : ℕ) → Some k ≡ kind_by F (get_or rs at 0) → n ≡ kind_size F k → n ≤ length rs - at → Stands F rs at k
  stands-at k n e f h = record { byte = by_kind F (get_or rs at 0) k e; room = omega (arith, kind_pos F k) }

  module _ (k : Kind) (s : Stands F rs at k) where
    read_with : (r : Record) → r ≡ record_by F rs at k → Some r ≡ record_at F rs at
    read_with r e = ap Some e ∙ sym (read_as k s)

    pub bare_read : (n : ℕ) → n ≡ kind_size F k → ((x : EditKind) → k ≡ Edit x → ⊥) → Some (numbers k 0 0 0 n) ≡ record_at F rs at
    bare_read n f h = read_with (numbers k 0 0 0 n) (bare k n f h)
      where
        bare : (j : Kind) (m : ℕ) → m ≡ kind_size F j → ((x : EditKind) → j ≡ Edit x → ⊥) → numbers j 0 0 0 m ≡ record_by F rs at j
        bare Begin m f h = rw f
        bare End m f h = rw f
        bare (Edit x) m f h = absurd (h x refl)

    module _ (x : EditKind) (e : k ≡ Edit x) (p m n : ℕ) (f : p ≡ num_at F.width rs (at + 1)) (g : m ≡ first_len F rs at) (h : n ≡ kind_size F k) where
      pub insert-read : x ≡ Insert → Some (numbers (Edit x) p 0 m n) ≡ record_at F rs at
      insert-read z = read_with (numbers (Edit x) p 0 m n) (rw (h, f, g, e, z))

      pub delete-read : x ≡ Delete → Some (numbers (Edit x) p m 0 n) ≡ record_at F rs at
      delete-read z = read_with (numbers (Edit x) p m 0 n) (rw (h, f, g, e, z))

      pub replace-read : (o : ℕ) → o ≡ second_len F rs at → x ≡ Replace → Some (numbers (Edit x) p m o n) ≡ record_at F rs at
      replace-read o i z = read_with (numbers (Edit x) p m o n) (rw (h, f, g, i, e, z))

  -- r is read there
  module _ (r : Record) (e : Some r ≡ record_at F rs at) where
    pub read : (k : Kind) × (Stands F rs at k × (r ≡ record_by F rs at k))
    read = go (kind_by F (get_or rs at 0)) refl
      where
        go : (o : Option Kind) → o ≡ kind_by F (get_or rs at 0) → (k : Kind) × (Stands F rs at k × (r ≡ record_by F rs at k))
        go None f = absurd (none-some r (no_kind_at f ∙ sym e))
        go (Some k) f =
            by_less ((j : Kind) × (Stands F rs at j × (r ≡ record_by F rs at j))) (length rs) (at + kind_size F k)
            (λ h. absurd (none-some r (no_room k f h ∙ sym e)))
            (λ h. let s : Stands F rs at k = record { byte = by_kind F (get_or rs at 0) k f; room = h } in (k, (s, same_Some r (record_by F rs at k) (e ∙ read_as k s))))

    -- a whole record stands there, and r has its size and the size of its texts
    pub whole_by : IsWhole F rs at
    whole_by = let (k, q) = read in whole k q.0

    pub size_is : r.size ≡ size_of F (get_or rs at 0)
    size_is =
        let (k, q) = read in
        ap (λ (x : Record). x.size) q.1 ∙ size-read F rs at k ∙ sym (ap (size_of F) q.0.byte ∙ kind_len F k)

    pub texts-size-is : r.old + r.new ≡ texts_at F rs at (get_or rs at 0)
    texts-size-is =
        let (k, q) = read in
        ap (λ (x : Record). x.old + x.new) q.1 ∙ texts-read F rs at k ∙ sym (ap (texts_at F rs at) q.0.byte)

    -- its kind is that of the change that stands there
    pub kind_at : (c : Change) → get_or rs at 0 ≡ kind_of F c → r.kind ≡ (numbers_of F c).kind
    kind_at c f =
        let (k, q) = read in
        ap (λ (x : Record). x.kind) q.1 ∙ kind-read F rs at k ∙ same_Some k (numbers_of F c).kind (sym (ap (kind_by F) q.0.byte ∙ names F k) ∙ ap (kind_by F) f ∙ names_change F c)

-- ---- the change c stands there
module _ (F : Format) (rs : List ℕ) (at : ℕ) (w : IsWhole F rs at) where
  module _ (k : Kind) (e : get_or rs at 0 ≡ kind_byte F k) where
    stands-as : Stands F rs at k
    stands-as = record { byte = e; room = omega (arith, w.1, ap (size_of F) e, kind_len F k) }

    sized-as : (n : ℕ) → size_of F (get_or rs at 0) ≡ n → kind_size F k ≡ n
    sized-as n f = sym (ap (size_of F) e ∙ kind_len F k) ∙ f

  -- its numbers
  module _ (ts : List ℕ) (t : ℕ) where
    pub record_is : (c : Change) → Reads F c rs ts at t → record_at F rs at ≡ Some (numbers_of F c)
    record_is begin q = read_as F rs at Begin (stands-as Begin q.kind)
    record_is end q = read_as F rs at End (stands-as End q.kind)
    record_is (edit (insert p s)) q =
        let e = ap (λ (x : Change). (numbers_of F x).place) (sym (change_insert F rs ts at t (get_or rs at 0) q.kind) ∙ q.change) in
        let f = sym (texts-insert F rs at (get_or rs at 0) q.kind) ∙ q.texts in
        read_as F rs at (Edit Insert) (stands-as (Edit Insert) q.kind) ∙ rw (e, f, sized-as (Edit Insert) q.kind _ q.size)
    record_is (edit (delete p s)) q =
        let e = ap (λ (x : Change). (numbers_of F x).place) (sym (change_delete F rs ts at t (get_or rs at 0) q.kind) ∙ q.change) in
        let f = sym (texts-delete F rs at (get_or rs at 0) q.kind) ∙ q.texts in
        read_as F rs at (Edit Delete) (stands-as (Edit Delete) q.kind) ∙ rw (e, f, sized-as (Edit Delete) q.kind _ q.size)
    record_is (edit (replace p o n)) q =
        let g = sym (change_replace F rs ts at t (get_or rs at 0) q.kind) ∙ q.change in
        let e = ap (λ (x : Change). (numbers_of F x).place) g in
        let a = ap (λ (x : Change). (numbers_of F x).old) g in
        let b = ap (λ (x : Change). (numbers_of F x).new) g in
        let d = length-take (first_len F rs at) (drop t ts) in
        let i = length-take (second_len F rs at) (drop (t + first_len F rs at) ts) in
        let j = sym (texts-replace F rs at (get_or rs at 0) q.kind) ∙ q.texts ∙ length-append o n in
        let x : first_len F rs at ≡ length o = omega arith in
        let y : second_len F rs at ≡ length n = omega arith in
        read_as F rs at (Edit Replace) (stands-as (Edit Replace) q.kind) ∙ rw (e, x, y, sized-as (Edit Replace) q.kind _ q.size)

-- in a list laid out in the bytes: behind the records of the changes us
module _ (R : Repertoire) (F : Format) (rs ts : List ℕ) where
  pub record_behind : (us vs : List Change) (c : Change) (at : ℕ) → Layout R F rs ts (us ++ (c ∷ vs)) → at ≡ length (encode_records F us) → record_at F rs at ≡ Some (numbers_of F c)
  record_behind us vs c at l e =
      let t = length (encode_texts us) in
      let w = whole-at R F rs ts us vs c at t l e refl in
      record_is F rs at (w.kind, w.body) ts t c (reads_at R F rs ts us vs c at t l e refl)

  -- in the list newest first: behind the records of the changes v
  pub record_back : (us ws v : List Change) (c : Change) (at : ℕ) → Layout R F rs ts us → reverse us ≡ ws ++ (c ∷ v) → at ≡ length (undo_records F v)
      → record_at F rs at ≡ Some (numbers_of F c)
  unfolding undo_records
  record_back us ws v c at l e f =
      let g : us ≡ reverse v ++ (c ∷ reverse ws) = sym (reverse-reverse us) ∙ ap reverse e ∙ reverse-append ws (c ∷ v)
      ∙ ap (λ (x : List Change). x ++ reverse ws) (reverse-cons c v) ∙ append_assoc (reverse v) (c ∷ []) (reverse ws) in
      record_behind (reverse v) (reverse ws) c at (subst (Layout R F rs ts) g l) f

  -- number i of the changes
  pub record_here : (cs : List Change) (i at t : ℕ) → Here R F rs ts cs i at t → record_at F rs at ≡ Some (numbers_of F (get_or cs i begin))
  record_here cs i at t h = record_is F rs at (h.all.kind, h.all.body) ts t (get_or cs i begin) h.reads

-- the lengths in a record are those of its texts, and its size is that of its bytes
numbers-texts : (F : Format) (c : Change) → (numbers_of F c).old + (numbers_of F c).new ≡ length (texts_of c)
numbers-texts F begin = refl
numbers-texts F end = refl
numbers-texts F (edit (insert p s)) = omega arith
numbers-texts F (edit (delete p s)) = omega arith
numbers-texts F (edit (replace p o n)) = sym (length-append o n)

numbers-size : (F : Format) (c : Change) → (numbers_of F c).size ≡ length (record_of F c)
numbers-size F begin = refl
numbers-size F end = refl
numbers-size F (edit x) = refl

module _ (F : Format) (c : Change) (r : Record) (ts : List ℕ) (t : ℕ) (h : Carries F c r ts t) where
  pub carried_texts : r.old + r.new ≡ length (texts_of c)
  carried_texts = ap (λ (x : Record). x.old + x.new) h.numbers ∙ numbers-texts F c

  pub carried_size : r.size ≡ length (record_of F c)
  carried_size = ap (λ (x : Record). x.size) h.numbers ∙ numbers-size F c
