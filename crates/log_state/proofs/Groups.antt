-- begin, end, truncate and last_insert on the two buffers. Assumes nothing.
use Prim.Native.Nat.{ℕ, ◌+◌, ◌-◌, ◌≤◌, ◌<◌}
use native.Mathlib.Omega.{arith}
use mathlib.Core.Path.{◌≡◌, refl, sym, ap, ap₂, subst, ◌∙◌}
use mathlib.Core.Bool.{true, false, cond}
use mathlib.Core.List.{List, [], ◌∷◌, ◌++◌, map, reverse, reverse-cons, reverse-reverse, reverse-append}
use mathlib.Core.Logic.{⊎_elim}
use mathlib.Core.Option.{Option}
use lib.Dec.{ltb}
use lib.ListN.{length, take, drop, set, replicate, length-append, length-replicate, take-append-drop}
use lib.Seq.{sets, length-sets, length-take-le, take-take, take_at}
use borrow.Author.Tests.{lt-ltb, le-ltb}
use Rattle.lists.proofs.Stores.{take-sets}
use Rattle.std.specs.Prelude as std
use Rattle.std.specs.Prelude.{MatchOption}
use Rattle.std.proofs.lemmas.Option.{none-some, same_Some}
use Rattle.repertoire.specs.Repertoire.{catalogue}
use Rattle.checks.specs.Outcome.{Outcome, answered}
use Rattle.log_model.specs.Change.{insert, delete, replace, Change, begin, end, edit, turn}
use Rattle.formats.specs.declared.Format.{Format}
use Rattle.log_model.specs.Layout.{encode_records, encode_texts, AllGood, Layout}
use Rattle.log_model.specs.Holds.{Holds}
use Rattle.log_model.specs.Groups as groups
use Rattle.log_model.specs.Groups.{is_begin, is_end, passed}
use Rattle.log_model.specs.UndoBytes.{undo_records, undo_texts, fits, Places, last_insert_at}
use Rattle.log_model.proofs.Holds.{records-append, texts-append, holds_alone, pushed, closed}
use Rattle.log_model.proofs.UndoBytes.{records-size, texts-size, good_oldest, fits_yes, full_records}
use Rattle.log_model.proofs.Groups.{run, passed_short, passed_twice, begins_texts, ends-records, ends-texts, good-ends, good-drop, Ended}
use Rattle.log_model.proofs.Groups.{ended-least, truncated-is, ends-passed}
use Rattle.log_model.proofs.Newest.{turned_back}
use Rattle.log_records.specs.Walks.{first_of, Walks, NewestAt}
use Rattle.log_records.specs.declared.Newest.{Newest}
use Rattle.log_records.specs.Records.{numbers_of, record_at}
use Rattle.log_records.specs.declared.Record.{Record}
use Rattle.log_records.specs.declared.Span.{Span}
use Rattle.buffer.specs.Edit.{cut}
use Rattle.log_state.specs.declared.Log.{Log}
use Rattle.log_state.specs.Outcomes.{places_out, begin_out, end_out, truncate_out, last_insert_out}
use Rattle.log_state.specs.Calls.{Lent, sizes_of, says, log_of, answer_of, undos, redos, value_of, put_in, Logged, Ready}
use Rattle.log_state.proofs.Answers.{state, refuses, answers, holds_state}
use Rattle.log_state.proofs.Recorded.{lays, good, holding, records-used, texts-used}
use Rattle.log_state.proofs.Newest.{EndsAt, begins_are, InsideBy, inside}

-- m Begins that stand last are dropped, and k Ends put
pub record Dropped (F : Format) (l : Lent) (m k : ℕ) : Type 0 where
  pub begins : m ≤ run is_begin (value_of catalogue F l).undo
  pub ended : Ended l.log.level m k (value_of catalogue F l).undo

module _ (F : Format) (l : Lent) (h : Ready F l) where
  abbrev us : List Change
  us = undos catalogue F l

  abbrev u : List Change
  u = (value_of catalogue F l).undo

  abbrev ur : ℕ
  ur = l.log.undo.records

  abbrev ut : ℕ
  ut = l.log.undo.texts

  -- ---- begin
  pub begin_high : 255 ≤ l.log.level → Logged F l (begin_out F (sizes_of l) (value_of catalogue F l)) (says 10 l.log) l.records l.texts
  unfolding begin_out
  begin_high a = rw (le-ltb l.log.level 255 a) (refuses F l 10)

  pub begin_full : l.log.level < 255 → length l.records ≤ ur → Logged F l (begin_out F (sizes_of l) (value_of catalogue F l)) (says 10 l.log) l.records l.texts
  unfolding begin_out
  begin_full a b =
      let f : fits F (sizes_of l) (begin ∷ u) ≡ false = full_records F (sizes_of l) (begin ∷ u) (omega (arith, records-size F begin u, records-used F l h)) in
      rw (lt-ltb l.log.level 255 a, f) (refuses F l 10)

  -- the mark is the number of records
  pub begin-mark : (n : Newest) → NewestAt catalogue F (take ur l.records) n → n.count ≡ groups.mark (value_of catalogue F l)
  begin-mark n q = ap (λ (x : Newest). x.count) (q (take ut l.texts) us (lays F l h))

  pub begin_takes : (m : ℕ) → l.log.level < 255 → ur < length l.records → m ≡ groups.mark (value_of catalogue F l)
      → Logged F l (begin_out F (sizes_of l) (value_of catalogue F l)) (record
      { number = 0; from = m; to = 0; log = state (ur + 1) ut 0 0 (l.log.level + 1) }) (set l.records ur 1) l.texts
  unfolding begin_out
  begin_takes m a b e =
      let f : fits F (sizes_of l) (begin ∷ u) ≡ true =
      fits_yes F (sizes_of l) (begin ∷ u) catalogue ((tt, refl), good F l h) (omega (arith, records-size F begin u, records-used F l h))
      (omega (arith, texts-size begin u, texts-used F l h, h.hold.space)) in
      let q = pushed catalogue F l.records l.texts ur ut l.log.redo.records l.log.redo.texts us (redos catalogue F l) h.hold begin
      (tt, refl) (omega arith) (omega (arith, h.hold.space)) in
      let r : reverse (begin ∷ u) ≡ us ++ (begin ∷ []) = reverse-cons begin u ∙ ap (λ (v : List Change). v ++ (begin ∷ [])) (reverse-reverse us) in
      let z : ut + 0 ≡ ut = omega arith in
      rw (lt-ltb l.log.level 255 a, f, e)
      (answers catalogue F (set l.records ur 1) l.texts (ur + 1) ut 0 0 (l.log.level + 1) (begin ∷ u) []
      (rw r (subst (λ (i : ℕ). Holds catalogue F (set l.records ur 1) l.texts (ur + 1) i 0 0 (us ++ (begin ∷ [])) []) z q)) l 0 (groups.mark (value_of catalogue F l)) 0)

  -- ---- end
  -- the Begins that are dropped
  pub dropped : (n : Newest) (m : ℕ) → NewestAt catalogue F (take ur l.records) n
      → m ≡ cond (ltb n.begins l.log.level) n.begins l.log.level
      → (m ≤ n.begins) × (m ≤ l.log.level) × Dropped F l m (l.log.level - m)
  dropped n m q e =
      let z = begins_are F (take ur l.records) n q (take ut l.texts) us (lays F l h) in
      let r = ended-least l.log.level u m (e ∙ ap (λ (i : ℕ). cond (ltb i l.log.level) i l.log.level) z) in
      (omega (arith, z, r.0), r.1, record { begins = r.0; ended = r.2 })

  -- m Begins are dropped, k Ends put; what stays ends at i
  module _ (m k : ℕ) (d : Dropped F l m k) where
    abbrev v : List Change
    v = replicate k end ++ drop m u

    same-texts : undo_texts v ≡ undo_texts u
    same-texts = ends-texts k (drop m u) ∙ sym (begins_texts m u d.begins)

    module _ (i : ℕ) (s : EndsAt F (take ur l.records) m i) where
      stays : i ≡ length (undo_records F (drop m u))
      stays = s (take ut l.texts) us (lays F l h)

      -- the bytes of what stays, and of what is dropped
      apart : take ur l.records ≡ undo_records F (drop m u) ++ encode_records F (reverse (take m u))
      unfolding undo_records
      apart =
          (lays F l h).records
          ∙ ap (encode_records F) (sym (reverse-reverse us) ∙ ap reverse (sym (take-append-drop m u)) ∙ reverse-append (take m u) (drop m u))
          ∙ records-append F (reverse (drop m u)) (reverse (take m u))

      pub stays_within : i ≤ ur
      stays_within =
          let a = length-take-le ur l.records (omega (arith, h.hold.room)) in
          omega (arith, stays, a, ap length apart, length-append (undo_records F (drop m u)) (encode_records F (reverse (take m u))))

      size : length (undo_records F v) ≡ i + k
      size =
          ap length (ends-records F k (drop m u)) ∙ length-append (undo_records F (drop m u)) (replicate k 2)
          ∙ ap₂ ◌+◌ (sym stays) (length-replicate k 2)

      pub end_full : length l.records - i < k
          → Logged F l (end_out F (sizes_of l) (value_of catalogue F l)) (says 10 l.log) l.records l.texts
      unfolding end_out
      end_full a =
          let f : fits F (sizes_of l) v ≡ false = full_records F (sizes_of l) v (omega (arith, size)) in
          rw (d.ended.list, f) (refuses F l 10)

      front_bytes : take i l.records ≡ undo_records F (drop m u)
      front_bytes =
          sym (take-take i ur l.records stays_within) ∙ ap (take i) apart
          ∙ take_at (undo_records F (drop m u)) (encode_records F (reverse (take m u))) i (sym stays)

      module _ (a : k ≤ length l.records - i) where
        pub room : i + k ≤ length l.records
        room = omega (arith, stays_within, h.hold.room)

        good-ended : AllGood catalogue F.width v
        good-ended = good-ends catalogue F.width k (drop m u) (good-drop catalogue F.width m u (good F l h))

        ended-bytes : Layout catalogue F (take (i + k) (sets l.records i (replicate k 2))) (take ut l.texts) (reverse v)
        unfolding undo_records undo_texts
        ended-bytes =
            record {
              records =
                  subst (λ (j : ℕ). take (i + j) (sets l.records i (replicate k 2)) ≡ take i l.records ++ replicate k 2)
                  (length-replicate k 2)
                  (take-sets l.records i (replicate k 2) (rw (length-replicate {A = ℕ} k 2) room))
                  ∙ ap (λ (b : List ℕ). b ++ replicate k 2) front_bytes ∙ sym (ends-records F k (drop m u));
              texts = (lays F l h).texts ∙ ap encode_texts (sym (reverse-reverse us)) ∙ sym same-texts;
              good = good_oldest catalogue F.width v good-ended;
            }

        abbrev written : List ℕ
        written = sets l.records i (replicate k 2)

        pub end_takes : (j : ℕ) → j ≡ cond (ltb 0 k) 0 1
            → Logged F l (end_out F (sizes_of l) (value_of catalogue F l)) (says j (state (i + k) ut 0 0 0)) written l.texts
        unfolding end_out
        end_takes j f =
            let g : fits F (sizes_of l) v ≡ true =
            fits_yes F (sizes_of l) v catalogue good-ended (omega (arith, size, room))
            (omega (arith, ap length same-texts, texts-used F l h, h.hold.space)) in
            rw (d.ended.list, d.ended.any, g, ← f)
            (answers catalogue F written l.texts (i + k) ut 0 0 0 v []
            (holds_alone catalogue F written l.texts (i + k) ut (reverse v) (simp length-sets room) (omega (arith, h.hold.space))
            ended-bytes) l j 0 0)

  -- ---- truncate
  module _ (len : ℕ) (w : Span) (q : Walks catalogue F (take ur l.records) len w) where
    is-first : w ≡ first_of F len us
    is-first = q (take ut l.texts) us (lays F l h)

    parts : us ≡ take len us ++ drop len us
    parts = sym (take-append-drop len us)

    pub cut-within : (w.records ≤ ur) × (w.texts ≤ ut)
    cut-within = (
      omega (
        arith,
        ap (λ (x : Span). x.records) is-first,
        h.hold.records,
        ap (λ (x : List Change). length (encode_records F x)) parts,
        ap length
            (records-append F (take len us) (drop len us)),
        length-append (encode_records F (take len us)) (encode_records F (drop len us)),
      ),
      omega (
        arith,
        ap (λ (x : Span). x.texts) is-first,
        h.hold.texts,
        ap (λ (x : List Change). length (encode_texts x)) parts,
        ap length
            (texts-append (take len us) (drop len us)),
        length-append (encode_texts (take len us)) (encode_texts (drop len us)),
      ),
    )

    pub truncates : (rb tb : List ℕ) → length rb ≡ length l.records → length tb ≡ length l.texts
        → take (ur + l.log.redo.records - (ur - w.records)) rb ≡ cut (take (ur + l.log.redo.records) l.records) w.records ur
        → take (ut + l.log.redo.texts - (ut - w.texts)) tb ≡ cut (take (ut + l.log.redo.texts) l.texts) w.texts ut
        → Logged F l (truncate_out len (value_of catalogue F l)) (says 0 (state w.records w.texts l.log.redo.records l.log.redo.texts l.log.level)) rb tb
    unfolding cut
    truncates rb tb a b c d =
        answers catalogue F rb tb w.records w.texts l.log.redo.records l.log.redo.texts l.log.level (drop (length u - len) u) (map turn (redos catalogue F l))
        (rw (truncated-is len us, turned_back (redos catalogue F l))
        (closed catalogue F l.records l.texts rb tb ur ut l.log.redo.records l.log.redo.texts us (redos catalogue F l) len h.hold a b w.records w.texts
        (ap (λ (x : Span). x.records) is-first) (ap (λ (x : Span). x.texts) is-first) c d)) l 0 0 0

  -- ---- last_insert
  state_now : state ur ut l.log.redo.records l.log.redo.texts l.log.level ≡ log_of F (value_of catalogue F l)
  state_now =
      holds_state catalogue F l.records l.texts ur ut l.log.redo.records l.log.redo.texts l.log.level u
      (map turn (redos catalogue F l)) (rw (turned_back (redos catalogue F l)) (holding F l h))

  -- y is the length of the text that the newest record that is no End put in
  module _ (n : Newest) (q : NewestAt catalogue F (take ur l.records) n) (r : std.Option Record)
      (x : r ≡ record_at F (take ur l.records) n.inside) (y : std.Option ℕ) (g : MatchOption r (y ≡ std.None) (λ z. y ≡ put_in z)) where
    abbrev rest : List Change
    rest = passed is_end u

    texts-rest : ut ≡ length (undo_texts rest)
    texts-rest = texts-used F l h ∙ ap length (ends-passed u).1

    abbrev put_by : List Change → std.Option ℕ
    put_by [] = std.None
    put_by (c ∷ w) = put_in (numbers_of F c)

    put-is : (w : List Change) → (o : std.Option Record) → InsideBy F o w → (z : std.Option ℕ) → MatchOption o (z ≡ std.None) (λ a. z ≡ put_in a) → z ≡ put_by w
    put-is [] o i z m =
        ⊎_elim (λ e. subst (λ a. MatchOption a (z ≡ std.None) (λ b. z ≡ put_in b)) e m) (λ e. subst (λ a. MatchOption a (z ≡ std.None) (λ b. z ≡ put_in b)) e m) i
    put-is (c ∷ w) o i z m = subst (λ a. MatchOption a (z ≡ std.None) (λ b. z ≡ put_in b)) i m

    is_put : y ≡ put_by rest
    is_put = put-is rest r (inside F (take ur l.records) n q r x (take ut l.texts) us (lays F l h)) y g

    put_within : (w : List Change) → (k : ℕ) → std.Some k ≡ put_by w → k ≤ length (undo_texts w)
    put_within [] k e = absurd (none-some k (sym e))
    put_within (begin ∷ w) k e = absurd (none-some k (sym e))
    put_within (end ∷ w) k e = absurd (none-some k (sym e))
    put_within (edit (insert p s) ∷ w) k e = omega (arith, same_Some k (length s) e, texts-size (edit (insert p s)) w)
    put_within (edit (delete p s) ∷ w) k e = absurd (none-some k (sym e))
    put_within (edit (replace p o s) ∷ w) k e = omega (arith, same_Some k (length s) e, texts-size (edit (replace p o s)) w, length-append o s)

    pub new-within : (k : ℕ) → y ≡ std.Some k → k ≤ ut
    new-within k e = omega (arith, put_within rest k (sym e ∙ is_put), texts-rest)

    abbrev told_by : std.Option ℕ → Outcome groups.Log
    told_by std.None = answered 1 0 0 (value_of catalogue F l)
    told_by (std.Some k) = answered 0 (ut - k) ut (value_of catalogue F l)

    answer-is : (w : List Change) → passed is_end w ≡ w → ut ≡ length (undo_texts w) → places_out (last_insert_at w) (value_of catalogue F l) ≡ told_by (put_by w)
    unfolding last_insert_at passed
    answer-is [] f e = refl
    answer-is (begin ∷ w) f e = refl
    answer-is (end ∷ w) f e = absurd (omega (arith, ap length f, passed_short is_end w))
    answer-is (edit (delete p s) ∷ w) f e = refl
    answer-is (edit (insert p s) ∷ w) f e =
        let a : length (undo_texts w) ≡ ut - length s = omega (arith, texts-size (edit (insert p s)) w) in
        let b : length (undo_texts w) + length s ≡ ut = omega (arith, texts-size (edit (insert p s)) w) in
        ap₂ (λ (i j : ℕ). answered 0 i j (value_of catalogue F l)) a b
    answer-is (edit (replace p o s) ∷ w) f e =
        let t = texts-size (edit (replace p o s)) w in
        let a : length (undo_texts w) + length o ≡ ut - length s = omega (arith, t, length-append o s) in
        let b : length (undo_texts w) + length o + length s ≡ ut = omega (arith, t, length-append o s) in
        ap₂ (λ (i j : ℕ). answered 0 i j (value_of catalogue F l)) a b

    outcome : last_insert_out (value_of catalogue F l) ≡ told_by y
    outcome =
        ap (λ (z : Option Places). places_out z (value_of catalogue F l)) (ends-passed u).0
        ∙ answer-is rest (passed_twice is_end u) texts-rest ∙ ap told_by (sym is_put)

    pub finds : (k : ℕ) → y ≡ std.Some k → record { number = 0; from = ut - k; to = ut; log = l.log } ≡ answer_of F l (last_insert_out (value_of catalogue F l))
    finds k e =
        ap (λ (g : Log). record { number = 0; from = ut - k; to = ut; log = g }) state_now
        ∙ sym (ap (answer_of F l) (outcome ∙ ap told_by e))

    pub finds_none : y ≡ std.None → says 1 l.log ≡ answer_of F l (last_insert_out (value_of catalogue F l))
    finds_none e = ap (says 1) state_now ∙ sym (ap (answer_of F l) (outcome ∙ ap told_by e))
