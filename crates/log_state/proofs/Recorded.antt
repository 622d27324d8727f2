-- Recording into the two buffers: the ways it is refused, and what it leaves. Assumes nothing.
use Prim.Native.Nat.{ℕ, ◌+◌, ◌≤◌, ◌<◌}
use native.Mathlib.Omega.{arith}
use mathlib.Core.Path.{◌≡◌, sym, ap, ap₂, subst, ◌∙◌}
use mathlib.Core.Bool.{Bool, true}
use mathlib.Core.List.{List, reverse, reverse-reverse}
use lib.ListN.{length, take}
use lib.Seq.{length-take-le}
use Rattle.std.proofs.lemmas.Option.{IfSome_then}
use Rattle.repertoire.specs.Repertoire.{catalogue}
use Rattle.log_model.specs.Change.{Edit, Change, edit, old, new}
use Rattle.numbers.specs.Numbers.{top}
use Rattle.formats.specs.declared.Format.{Format}
use Rattle.log_model.specs.Layout.{ok_change, AllGood, Layout}
use Rattle.log_model.specs.Recording.{note}
use Rattle.log_model.specs.Holds.{Holds, Listed}
use Rattle.log_model.specs.UndoBytes.{undo_records, undo_texts, fits}
use Rattle.log_model.proofs.Holds.{front, cleared}
use Rattle.log_model.proofs.UndoBytes.{good-newest, fits_yes}
use Rattle.log_records.specs.declared.EditKind.{EditKind}
use Rattle.log_records.specs.declared.EditRecord.{EditRecord}
use Rattle.log_records.specs.Records.{edit_record}
use Rattle.log_recording.specs.Tails.{tail_of, tail_for, TailFor, noted, InRange, Wrote}
use Rattle.log_recording.specs.declared.Tail.{Tail}
use Rattle.log_recording.specs.declared.Noted.{Noted}
use Rattle.log_recording.proofs.Joins.{noted_for, in_range_for}
use Rattle.log_recording.proofs.Numbers.{tail-records, tail-texts, tail_bounded}
use Rattle.log_recording.proofs.Put.{Put, put, put_holds, put-size, put-texts, room_yes, no_records, no_texts, no_place}
use Rattle.log_records.specs.Written.{edit_size}
use Rattle.log_state.specs.Outcomes.{record_out}
use Rattle.log_state.specs.Calls.{Lent, sizes_of, says, undos, redos, value_of, Logged, Ready, Numbered}
use Rattle.log_state.proofs.Answers.{state, log_full, log_takes}

module _ (F : Format) (l : Lent) (h : Ready F l) where
  -- the undo list's bytes
  pub lays : Layout catalogue F (take l.log.undo.records l.records) (take l.log.undo.texts l.texts) (undos catalogue F l)
  lays = front catalogue F l.records l.texts l.log.undo.records l.log.undo.texts l.log.redo.records l.log.redo.texts
      (undos catalogue F l) (redos catalogue F l) h.hold

  pub listed : Listed catalogue F (take l.log.undo.records l.records)
  listed = record { texts = take l.log.undo.texts l.texts; changes = undos catalogue F l; lays = lays }

  -- newest first
  pub good : AllGood catalogue F.width (value_of catalogue F l).undo
  good = good-newest catalogue F.width (reverse (undos catalogue F l)) (subst (AllGood catalogue F.width) (sym (reverse-reverse (undos catalogue F l))) lays.good)

  pub holding : Holds catalogue F l.records l.texts l.log.undo.records l.log.undo.texts l.log.redo.records l.log.redo.texts
      (reverse (value_of catalogue F l).undo) (redos catalogue F l)
  holding = subst (λ (us : List Change). Holds catalogue F l.records l.texts l.log.undo.records l.log.undo.texts
      l.log.redo.records l.log.redo.texts us (redos catalogue F l)) (sym (reverse-reverse (undos catalogue F l))) h.hold

  pub records-used : l.log.undo.records ≡ length (undo_records F (value_of catalogue F l).undo)
  unfolding undo_records
  records-used = holding.records

  pub texts-used : l.log.undo.texts ≡ length (undo_texts (value_of catalogue F l).undo)
  unfolding undo_texts
  texts-used = holding.texts

  -- the list as it is fits
  pub fits_now : fits F (sizes_of l) (value_of catalogue F l).undo ≡ true
  fits_now = fits_yes F (sizes_of l) (value_of catalogue F l).undo catalogue good (omega (arith, records-used, h.hold.room)) (omega (arith, texts-used, h.hold.space))

  -- the list as it is, the redo list dropped
  pub only_dropped : (v : List Change) → (value_of catalogue F l).undo ≡ v
      → Logged F l (record_out F (sizes_of l) v (value_of catalogue F l))
      (says 0 (record { undo = l.log.undo; redo = record { records = 0; texts = 0 }; level = l.log.level })) l.records l.texts
  only_dropped v e =
      subst (λ (w : List Change). Logged F l (record_out F (sizes_of l) w (value_of catalogue F l))
      (says 0 (state l.log.undo.records l.log.undo.texts 0 0 l.log.level)) l.records l.texts) e
      (log_takes catalogue F l (value_of catalogue F l).undo (value_of catalogue F l) l.records l.texts l.log.undo.records l.log.undo.texts fits_now
      (cleared catalogue F l.records l.texts l.log.undo.records l.log.undo.texts l.log.redo.records l.log.redo.texts
      (reverse (value_of catalogue F l).undo) (redos catalogue F l) holding))

  -- ---- a change x of the kind k at the place p, whose old and new text are o and n
  module _ (j : Bool) (k : EditKind) (p : ℕ) (o n : List ℕ) (x : Edit) (d : Numbered x k p o n) (ok : ok_change catalogue (edit x) ≡ true) where
    abbrev u : List Change
    u = (value_of catalogue F l).undo

    abbrev refusing : Type 0
    refusing = Logged F l (record_out F (sizes_of l) (note j x u) (value_of catalogue F l)) (says 10 l.log) l.records l.texts

    lengths : length (old x) + length (new x) ≡ length o + length n
    lengths = ap₂ (λ (a b : List ℕ). length a + length b) d.old d.new

    pub full_texts : length l.texts < l.log.undo.texts + (length o + length n) → refusing
    full_texts a =
        log_full catalogue F l (note j x u) (value_of catalogue F l)
        (no_texts F x u (note j x u) (noted F j (edit_record x) (tail_of F u)) (put F j x u) (sizes_of l)
        (omega (arith, texts-used, lengths)))

    module _ (t : Tail) (is-tail : TailFor catalogue F j (take l.log.undo.records l.records) l.log.undo.texts t) where
      pub tail-is : t ≡ tail_for j (tail_of F u)
      tail-is = is-tail (take l.log.undo.texts l.texts) (undos catalogue F l) lays (sym (length-take-le l.log.undo.texts l.texts (omega (arith, h.hold.space))))

      -- the dry run's numbers are small
      pub in_range : l.log.undo.texts + (length o + length n) ≤ length l.texts → 0 < top F.width → top F.width ≤ 4294967296 → InRange t (length o) (length n)
      in_range a w v =
          rw tail-is
          (in_range_for j (tail_of F u) (length o) (length n)
          (record {
            records = omega (arith, tail-records F u, records-used, h.hold.room, h.records);
            texts = omega (arith, tail-texts F u, texts-used, h.hold.space, h.texts);
            newest = IfSome_then (tail_of F u).newest (tail_bounded F catalogue u good)
                (λ y b. record { place = omega (arith, b.place); within = omega (arith, b.within, tail-texts F u) });
            old = omega (arith, h.texts);
            new = omega (arith, h.texts);
          }))

      -- the change by its numbers
      abbrev noting : EditRecord
      noting = record { kind = k; place = p; old = length o; new = length n }

      is_noting : edit_record x ≡ noting
      is_noting = rw (d.kind, d.place, d.old, d.new)

      module _ (m : Noted) (is-noted : m ≡ noted F j noting t) where
        pub is-put : Put F x u (note j x u) m
        is-put =
            subst (λ (z : Noted). Put F x u (note j x u) z)
            (ap (λ (y : EditRecord). noted F j y (tail_of F u)) is_noting
            ∙ sym (ap (noted F j noting) tail-is ∙ noted_for F j noting (tail_of F u)) ∙ sym is-noted)
            (put F j x u)

        pub full_records : length l.records < m.records → refusing
        full_records a = log_full catalogue F l (note j x u) (value_of catalogue F l) (no_records F x u (note j x u) m is-put (sizes_of l) a)

        pub full_place : top F.width ≤ m.edit.place → refusing
        full_place a = log_full catalogue F l (note j x u) (value_of catalogue F l) (no_place F x u (note j x u) m is-put (sizes_of l) a)

        -- what writing asks
        pub size_fits : edit_size F m.edit.kind ≤ m.records
        size_fits = omega (arith, put-size F x u (note j x u) m is-put)

        pub at-fits : m.at ≤ l.log.undo.texts
        at-fits = omega (arith, is-put.at, texts-used)

        pub takes : (rb tb : List ℕ) → l.log.undo.texts + (length o + length n) ≤ length l.texts → m.records ≤ length l.records → m.edit.place < top F.width
            → Wrote F m l.log.undo.texts o n l.records l.texts rb tb → length tb ≡ length l.texts
            → Logged F l (record_out F (sizes_of l) (note j x u) (value_of catalogue F l)) (says 0 (state m.records m.texts 0 0 l.log.level)) rb tb
        takes rb tb a b c w e =
            let z = put-texts F x u (note j x u) m is-put in
            let w' : Wrote F m l.log.undo.texts (old x) (new x) l.records l.texts rb tb =
            subst (λ (s : List ℕ). Wrote F m l.log.undo.texts s (new x) l.records l.texts rb tb) (sym d.old)
            (subst (λ (s : List ℕ). Wrote F m l.log.undo.texts o s l.records l.texts rb tb) (sym d.new) w) in
            log_takes catalogue F l (note j x u) (value_of catalogue F l) rb tb m.records m.texts
            (room_yes F x u (note j x u) m is-put (sizes_of l) catalogue good ok c (omega (arith, h.texts, h.fit.lengths)) b (omega (arith, z, texts-used, lengths)))
            (put_holds catalogue F l.records l.texts rb tb l.log.undo.records l.log.undo.texts l.log.redo.records
            l.log.redo.texts x u (redos catalogue F l) (note j x u) m holding is-put ok w'
            b e (omega (arith, z, texts-used, lengths)) c (omega (arith, h.texts, h.fit.lengths)))
