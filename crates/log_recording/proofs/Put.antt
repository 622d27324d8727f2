-- What recording a change makes of a list, and that the dry run says it: the new list's tail, and where the texts go. Assumes nothing.
use Prim.Native.Nat.{ℕ, ◌+◌, ◌-◌, ◌≤◌, ◌<◌}
use native.Mathlib.Omega.{arith}
use mathlib.Core.Path.{◌≡◌, refl, sym, ap, ap₂, subst, ◌∙◌}
use mathlib.Core.List.{List, [], ◌∷◌, ◌++◌, reverse, append_assoc, append-nil}
use mathlib.Core.Bool.{Bool, true, false, cond}
use lib.Dec.{eqb}
use lib.ListN.{length, take, length-append}
use lib.Seq.{sets, length-sets, take-take, take_at}
use Rattle.std.specs.Prelude.{Some}
use Rattle.lists.proofs.Stores.{take-sets}
use Rattle.repertoire.specs.Repertoire.{Repertoire}
use Rattle.repertoire.specs.Text.{is_text}
use Rattle.repertoire.proofs.Text.{text-append}
use Rattle.buffer.specs.Edit.{inserted}
use Rattle.buffer.proofs.Inserted.{inserted-at, inserted-end, inserted-length}
use Rattle.log_model.specs.Change.{Edit, insert, delete, replace, Change, begin, end, edit, place, old, new}
use Rattle.numbers.specs.Numbers.{top}
use Rattle.formats.specs.declared.Format.{Format}
use Rattle.log_model.specs.Layout.{record_of, encode_records, encode_texts, ok_change, AllGood, Layout}
use Rattle.log_model.specs.Recording.{apart, join_if, on_joined, note}
use Rattle.log_model.specs.Holds.{Holds}
use Rattle.log_model.specs.UndoBytes.{undo_records, undo_texts, Sizes, fits}
use Rattle.log_model.proofs.Holds.{front, holds_alone}
use Rattle.log_model.proofs.UndoBytes.{records_cons, texts_cons, records-size, texts-size, good-newest, good_oldest, fits_yes, full_records}
use Rattle.log_model.proofs.UndoBytes.{full_texts, full_place}
use Rattle.log_records.specs.Written.{record_bytes, edit_size}
use Rattle.log_recording.specs.Tails as tails
use Rattle.log_records.specs.declared.EditRecord.{EditRecord}
use Rattle.log_records.specs.Records.{edit_kind, edit_record}
use Rattle.log_recording.specs.Tails.{tail_of, tail_after, joined, noted, Wrote}
use Rattle.log_recording.specs.declared.Tail.{Tail}
use Rattle.log_recording.specs.declared.Noted.{Noted}
use Rattle.log_recording.proofs.Numbers.{record-bytes, record-size, texts_are, ok_texts, texts_ok, representable_edit, tail-edit}
use Rattle.log_recording.proofs.Numbers.{tail-records, tail-texts}

-- the change x makes u' of u, and n are the numbers of it
pub record Put (F : Format) (x : Edit) (u u' : List Change) (n : Noted) : Type 0 where
  -- the record that is written, and the older ones
  pub head : Edit
  pub rest : List Change
  pub is : u' ≡ edit head ∷ rest
  -- what it is written over
  pub over : List ℕ
  pub records : undo_records F u ≡ undo_records F rest ++ over
  pub written : n.edit ≡ edit_record head
  pub tail : tail_after n ≡ tail_of F u'
  pub at : n.at ≤ length (undo_texts u)
  pub texts : inserted (undo_texts u) n.at (old x) ++ new x ≡ undo_texts u'
  pub good : (R : Repertoire) (w : ℕ) → AllGood R w u → ok_change R (edit x) ≡ true → (ok_change R (edit head) ≡ true) × AllGood R w rest

module _ (F : Format) where
  -- a record of its own
  pub put-apart : (x : Edit) (u : List Change) → Put F x u (edit x ∷ u) (tails.apart F (edit_record x) (tail_of F u))
  put-apart x u =
      let t = length (undo_texts u) in
      let r : (tail_of F u).records + edit_size F (edit_kind x) ≡ length (undo_records F (edit x ∷ u)) = ap₂ ◌+◌ (tail-records F u)
      (sym (record-size F x)) ∙ sym (records-size F (edit x) u) in
      let s : (tail_of F u).texts + (length (old x) + length (new x)) ≡ length (undo_texts (edit x ∷ u)) =
      ap₂ ◌+◌ (tail-texts F u) (sym (length-append (old x) (new x)) ∙ sym (ap length (texts_are x))) ∙ sym (texts-size (edit x) u) in
      record {
        head = x;
        rest = u;
        is = refl;
        over = [];
        records = sym (append-nil (undo_records F u));
        written = refl;
        tail = ap₂ (λ (a b : ℕ). tails.tail a b (Some (edit_record x))) r s ∙ sym (tail-edit F x u);
        at = omega (arith, tail-texts F u);
        texts =
            ap (λ (l : List ℕ). l ++ new x) (inserted-end (undo_texts u) (old x) (tail_of F u).texts (sym (tail-texts F u)))
            ∙ append_assoc (undo_texts u) (old x) (new x) ∙ ap (λ (l : List ℕ). undo_texts u ++ l) (sym (texts_are x)) ∙ sym (texts_cons (edit x) u);
        good = λ R w g o. (o, g);
      }

  -- joined to the newest record y as z: the lengths
  module _ (x y z : Edit) (r : List Change) (k : edit_kind z ≡ edit_kind y) where
    same-records : length (undo_records F (edit z ∷ r)) ≡ length (undo_records F (edit y ∷ r))
    same-records = records-size F (edit z) r ∙ ap (λ (m : ℕ). length (undo_records F r) + m)
        (record-size F z ∙ ap (edit_size F) k ∙ sym (record-size F y)) ∙ sym (records-size F (edit y) r)

    more_texts : length (old z) + length (new z) ≡ length (old y) + length (new y) + (length (old x) + length (new x))
        → length (undo_texts (edit z ∷ r)) ≡ length (undo_texts (edit y ∷ r)) + (length (old x) + length (new x))
    more_texts e =
        omega (arith, texts-size (edit z) r, texts-size (edit y) r, ap length (texts_are z), ap length (texts_are y), length-append (old z) (new z), length-append (old y) (new y))

    pub put-joined : (p o n at : ℕ) → place z ≡ p → length (old z) ≡ o → length (new z) ≡ n → o + n ≡ length (old y) + length (new y) + (length (old x) + length (new x))
        → at ≤ length (undo_texts (edit y ∷ r)) → inserted (undo_texts (edit y ∷ r)) at (old x) ++ new x ≡ undo_texts r ++ (old z ++ new z)
        → ((R : Repertoire) → ok_change R (edit y) ≡ true → ok_change R (edit x) ≡ true → ok_change R (edit z) ≡ true)
        → Put F x (edit y ∷ r) (edit z ∷ r)
        (record {
          edit = record { kind = edit_kind y; place = p; old = o; new = n };
          records = length (undo_records F (edit y ∷ r));
          texts = length (undo_texts (edit y ∷ r)) + (length (old x) + length (new x));
          at = at;
        })
    put-joined p o n at ep eo en e a t g =
        record {
          head = z;
          rest = r;
          is = refl;
          over = record_of F (edit y);
          records = records_cons F (edit y) r;
          written = sym (rw (k, ep, eo, en));
          tail =
              sym (tail-edit F z r
              ∙ ap₂ (λ (a b : ℕ). tails.tail a b (Some (edit_record z))) same-records (more_texts (omega arith))
              ∙ rw (k, ep, eo, en));
          at = a;
          texts = t ∙ ap (λ (l : List ℕ). undo_texts r ++ l) (sym (texts_are z)) ∙ sym (texts_cons (edit z) r);
          good = λ R w h i. (g R h.0.1 i, h.1);
        }

  -- behind its texts
  pub put-behind : (x y z : Edit) (r : List Change) → edit_kind z ≡ edit_kind y → place z ≡ place y → old z ≡ old y ++ old x → new z ≡ new y ++ new x
      → Put F x (edit y ∷ r) (edit z ∷ r) (tails.behind (edit_record y) (edit_record x) (tail_of F (edit y ∷ r)))
  unfolding tail_of
  put-behind x y z r k p o n =
      let A = undo_texts r in
      let lt : length (undo_texts (edit y ∷ r)) ≡ length A + (length (old y) + length (new y)) = texts-size (edit y) r
      ∙ ap (λ (l : List ℕ). length A + length l) (texts_are y) ∙ ap (λ (m : ℕ). length A + m) (length-append (old y) (new y)) in
      let lo : length (old z) ≡ length (old y) + length (old x) = ap length o ∙ length-append (old y) (old x) in
      let ln : length (new z) ≡ length (new y) + length (new x) = ap length n ∙ length-append (new y) (new x) in
      let at = length (undo_texts (edit y ∷ r)) - length (new y) in
      let here : undo_texts (edit y ∷ r) ≡ (A ++ old y) ++ new y = texts_cons (edit y) r ∙ ap (λ (l : List ℕ). A ++ l) (texts_are y) ∙ sym (append_assoc A (old y) (new y)) in
      let la : length (A ++ old y) ≡ at = length-append A (old y) ∙ omega arith in
      let flat : ((A ++ old y) ++ (old x ++ new y)) ++ new x ≡ A ++ ((old y ++ old x) ++ (new y ++ new x)) = simp append_assoc in
      put-joined x y z r k (place y) (length (old y) + length (old x)) (length (new y) + length (new x)) at p lo ln (omega arith) (omega arith)
      (ap (λ (l : List ℕ). inserted l at (old x) ++ new x) here
      ∙ ap (λ (l : List ℕ). l ++ new x) (inserted-at (A ++ old y) (new y) (old x) at la)
      ∙ flat ∙ sym (ap₂ (λ (a b : List ℕ). A ++ (a ++ b)) o n))
      (λ R e f.
      let a = ok_texts R y e in
      let b = ok_texts R x f in
      texts_ok R z (ap (is_text R) o ∙ text-append R (old y) (old x) a.0 ∙ b.0) (ap (is_text R) n ∙ text-append R (new y) (new x) a.1 ∙ b.1))

  -- a cut in front of the text cut last
  pub put_front : (p q : ℕ) (s s' : List ℕ) (r : List Change)
      → Put F (delete p s) (edit (delete q s') ∷ r) (edit (delete p (s ++ s')) ∷ r) (tails.in_front (edit_record (delete q s')) (edit_record (delete p s)) (tail_of F (edit (delete q s') ∷ r)))
  unfolding tail_of
  put_front p q s s' r =
      let A = undo_texts r in
      let y = delete q s' in
      let lt : length (undo_texts (edit y ∷ r)) ≡ length A + length s' = texts-size (edit y) r in
      let at = length (undo_texts (edit y ∷ r)) - (length s' + 0) in
      put-joined (delete p s) y (delete p (s ++ s')) r refl p (length s + length s') 0 at refl (length-append s s') refl (omega arith) (omega arith)
      (ap (λ (l : List ℕ). inserted l at s ++ []) (texts_cons (edit y) r)
      ∙ ap (λ (l : List ℕ). l ++ []) (inserted-at A s' s at (omega arith))
      ∙ append-nil (A ++ (s ++ s')) ∙ ap (λ (l : List ℕ). A ++ l) (sym (append-nil (s ++ s'))))
      (λ R e f. text-append R s s' f ∙ e)

  -- ---- recording, merged where it may be and follows
  pub put : (j : Bool) (x : Edit) (u : List Change) → Put F x u (note j x u) (noted F j (edit_record x) (tail_of F u))
  unfolding note noted joined tail_of
  put false x [] = put-apart x []
  put false x (begin ∷ u) = put-apart x (begin ∷ u)
  put false x (end ∷ u) = put-apart x (end ∷ u)
  put false x (edit y ∷ u) = put-apart x (edit y ∷ u)
  put true (insert p s) [] = put-apart (insert p s) []
  put true (delete p s) [] = put-apart (delete p s) []
  put true (replace p o n) [] = put-apart (replace p o n) []
  put true (insert p s) (begin ∷ u) = put-apart (insert p s) (begin ∷ u)
  put true (delete p s) (begin ∷ u) = put-apart (delete p s) (begin ∷ u)
  put true (replace p o n) (begin ∷ u) = put-apart (replace p o n) (begin ∷ u)
  put true (insert p s) (end ∷ u) = put-apart (insert p s) (end ∷ u)
  put true (delete p s) (end ∷ u) = put-apart (delete p s) (end ∷ u)
  put true (replace p o n) (end ∷ u) = put-apart (replace p o n) (end ∷ u)
  put true (insert p s) (edit (delete q s') ∷ u) = put-apart (insert p s) (edit (delete q s') ∷ u)
  put true (insert p s) (edit (replace q o' n') ∷ u) = put-apart (insert p s) (edit (replace q o' n') ∷ u)
  put true (delete p s) (edit (insert q s') ∷ u) = put-apart (delete p s) (edit (insert q s') ∷ u)
  put true (delete p s) (edit (replace q o' n') ∷ u) = put-apart (delete p s) (edit (replace q o' n') ∷ u)
  put true (replace p o n) (edit (insert q s') ∷ u) = put-apart (replace p o n) (edit (insert q s') ∷ u)
  put true (replace p o n) (edit (delete q s') ∷ u) = put-apart (replace p o n) (edit (delete q s') ∷ u)
  put true (insert p s) (edit (insert q s') ∷ u) = go (eqb (q + length s') p)
    where
      x : Edit
      x = insert p s

      y : Edit
      y = insert q s'

      go : (b : Bool) → Put F x (edit y ∷ u) (on_joined (join_if b (insert q (s' ++ s)) apart) y x u)
          (cond b (tails.behind (edit_record y) (edit_record x) (tail_of F (edit y ∷ u))) (tails.apart F (edit_record x) (tail_of F (edit y ∷ u))))
      go true = put-behind x y (insert q (s' ++ s)) u refl refl refl refl
      go false = put-apart x (edit y ∷ u)
  put true (replace p o n) (edit (replace q o' n') ∷ u) = go (eqb (q + length n') p)
    where
      x : Edit
      x = replace p o n

      y : Edit
      y = replace q o' n'

      go : (b : Bool) → Put F x (edit y ∷ u) (on_joined (join_if b (replace q (o' ++ o) (n' ++ n)) apart) y x u)
          (cond b (tails.behind (edit_record y) (edit_record x) (tail_of F (edit y ∷ u))) (tails.apart F (edit_record x) (tail_of F (edit y ∷ u))))
      go true = put-behind x y (replace q (o' ++ o) (n' ++ n)) u refl refl refl refl
      go false = put-apart x (edit y ∷ u)
  put true (delete p s) (edit (delete q s') ∷ u) = subst P (ap (λ (m : ℕ). eqb m p) (sym zero)) (go (eqb q p) (eqb q (p + length s)))
    where
      x : Edit
      x = delete p s

      y : Edit
      y = delete q s'

      zero : q + 0 ≡ q
      zero = omega arith

      P : Bool → Type 0
      P b = Put F x (edit y ∷ u) (on_joined (join_if (eqb q p) (delete q (s' ++ s)) (join_if (eqb q (p + length s)) (delete p (s ++ s')) apart)) y x u)
          (cond b (tails.behind (edit_record y) (edit_record x) (tail_of F (edit y ∷ u)))
          (cond (eqb q (p + length s)) (tails.in_front (edit_record y) (edit_record x) (tail_of F (edit y ∷ u)))
          (tails.apart F (edit_record x) (tail_of F (edit y ∷ u)))))

      go : (a b : Bool) → Put F x (edit y ∷ u) (on_joined (join_if a (delete q (s' ++ s)) (join_if b (delete p (s ++ s')) apart)) y x u)
          (cond a (tails.behind (edit_record y) (edit_record x) (tail_of F (edit y ∷ u)))
          (cond b (tails.in_front (edit_record y) (edit_record x) (tail_of F (edit y ∷ u)))
          (tails.apart F (edit_record x) (tail_of F (edit y ∷ u)))))
      go true b = put-behind x y (delete q (s' ++ s)) u refl refl refl refl
      go false true = put_front p q s s' u
      go false false = put-apart x (edit y ∷ u)

-- ---- what it leaves: the lengths, and numbers that fit
module _ (F : Format) (x : Edit) (u u' : List Change) (n : Noted) (q : Put F x u u' n) where
  pub put-records : n.records ≡ length (undo_records F u')
  put-records = ap (λ (t : Tail). t.records) q.tail ∙ tail-records F u'

  pub put-len : n.texts ≡ length (undo_texts u')
  put-len = ap (λ (t : Tail). t.texts) q.tail ∙ tail-texts F u'

  pub put-texts : n.texts ≡ length (undo_texts u) + length (old x) + length (new x)
  put-texts =
      put-len ∙ ap length (sym q.texts) ∙ length-append (inserted (undo_texts u) n.at (old x)) (new x)
      ∙ ap (λ (i : ℕ). i + length (new x)) (inserted-length (undo_texts u) n.at (old x) q.at)

  pub put-place : n.edit.place ≡ place q.head
  put-place = ap (λ (y : EditRecord). y.place) q.written

  pub put-kind : n.edit.kind ≡ edit_kind q.head
  put-kind = ap (λ (y : EditRecord). y.kind) q.written

  -- its record is behind the older ones
  pub put-size : n.records ≡ length (undo_records F q.rest) + edit_size F n.edit.kind
  put-size = put-records ∙ ap (λ (v : List Change). length (undo_records F v)) q.is ∙ records-size F (edit q.head) q.rest
      ∙ ap (λ (i : ℕ). length (undo_records F q.rest) + i) (record-size F q.head ∙ ap (edit_size F) (sym put-kind))

  pub put-good : (R : Repertoire) → AllGood R F.width u → ok_change R (edit x) ≡ true → n.edit.place < top F.width
      → n.texts < top F.width → AllGood R F.width u'
  put-good R a o p t = subst (AllGood R F.width) (sym q.is) (
    (
      representable_edit F.width q.head (omega (arith, put-place))
          (omega (arith, inside)) (omega (arith, inside)),
      g.0,
    ),
    g.1,
  )
    where
      g : (ok_change R (edit q.head) ≡ true) × AllGood R F.width q.rest
      g = q.good R F.width a o

      inside : length (old q.head) + length (new q.head) ≤ n.texts
      inside =
          omega (
            arith,
            put-len,
            ap (λ (v : List Change). length (undo_texts v)) q.is,
            texts-size (edit q.head)
                q.rest,
            ap length (texts_are q.head),
            length-append (old q.head) (new q.head),
          )

  -- ---- check 10 by the dry run alone
  module _ (z : Sizes) where
    pub room_yes : (R : Repertoire) → AllGood R F.width u → ok_change R (edit x) ≡ true → n.edit.place < top F.width → z.texts < top F.width
        → n.records ≤ z.records → n.texts ≤ z.texts → fits F z u' ≡ true
    room_yes R a o p t h i =
        fits_yes F z u' R (put-good R a o p (omega arith)) (omega (arith, put-records)) (omega (arith, put-len))

    pub no_records : z.records < n.records → fits F z u' ≡ false
    no_records h = full_records F z u' (omega (arith, put-records))

    pub no_texts : z.texts < length (undo_texts u) + length (old x) + length (new x) → fits F z u' ≡ false
    no_texts h = full_texts F z u' (omega (arith, put-texts, put-len))

    pub no_place : top F.width ≤ n.edit.place → fits F z u' ≡ false
    no_place h = ap (fits F z) q.is ∙ full_place F z q.head q.rest (omega (arith, put-place))

-- ---- the bytes written hold the new list
pub put_holds : (R : Repertoire) (F : Format) (rb tb rb' tb' : List ℕ) (ur ut rr rt : ℕ) (x : Edit) (u rs u' : List Change) (n : Noted)
    → Holds R F rb tb ur ut rr rt (reverse u) rs → Put F x u u' n → ok_change R (edit x) ≡ true → Wrote F n ut (old x) (new x) rb tb rb' tb'
    → n.records ≤ length rb → length tb' ≡ length tb → n.texts ≤ length tb → n.edit.place < top F.width → length tb < top F.width
    → Holds R F rb' tb' n.records n.texts 0 0 (reverse u') []
unfolding undo_records undo_texts
put_holds R F rb tb rb' tb' ur ut rr rt x u rs u' n h q o w hr lt ht hp hw =
    holds_alone R F rb' tb' n.records n.texts (reverse u')
    (rw w.records (simp length-sets (omega arith))) (omega arith)
    (record { records = recs; texts = txts; good = good_oldest R F.width u' (put-good F x u u' n q R (good-newest R F.width u f.good) o hp (omega arith)) })
  where
    f : Layout R F (take ur rb) (take ut tb) (reverse u)
    f = front R F rb tb ur ut rr rt (reverse u) rs h

    z : Edit
    z = q.head

    v : List ℕ
    v = record_bytes F n.edit

    bytes : v ≡ record_of F (edit z)
    bytes = ap (record_bytes F) q.written ∙ sym (record-bytes F z)

    m : ℕ
    m = length (undo_records F q.rest)

    ends : n.records ≡ m + length v
    ends = put-size F x u u' n q ∙ ap (λ (i : ℕ). m + i) (ap (edit_size F) (put-kind F x u u' n q) ∙ sym (record-size F z) ∙ ap length (sym bytes))

    at : n.records - edit_size F n.edit.kind ≡ m
    at = omega (arith, put-size F x u u' n q)

    lm : m ≤ ur
    lm = omega (arith, h.records, ap length q.records, length-append (undo_records F q.rest) q.over)

    pre : take m rb ≡ undo_records F q.rest
    pre = sym (take-take m ur rb lm) ∙ ap (take m) (f.records ∙ q.records) ∙ take_at (undo_records F q.rest) q.over m refl

    recs : take n.records rb' ≡ encode_records F (reverse u')
    recs =
        ap₂ take ends (w.records ∙ ap (λ (i : ℕ). sets rb i v) at)
        ∙ take-sets rb m v (omega (arith, ends))
        ∙ ap₂ ◌++◌ pre bytes ∙ sym (records_cons F (edit z) q.rest) ∙ ap (undo_records F) (sym q.is)

    txts : take n.texts tb' ≡ encode_texts (reverse u')
    txts =
        ap (λ (i : ℕ). take i tb') (put-texts F x u u' n q ∙ ap (λ (i : ℕ). i + length (old x) + length (new x)) (sym h.texts))
        ∙ w.texts ∙ ap (λ (l : List ℕ). inserted l n.at (old x) ++ new x) f.texts ∙ q.texts
