-- One record of a lent log undone or redone: where it stands, and the seam behind it. Assumes nothing.
use Prim.Native.Nat.{ℕ, ◌+◌, ◌-◌, ◌≤◌, ◌<◌}
use native.Mathlib.Omega.{arith}
use mathlib.Core.Path.{◌≡◌, refl, sym, ap, subst, ◌∙◌}
use mathlib.Core.Bool.{Bool, true, false}
use mathlib.Core.List.{List, [], ◌∷◌, ◌++◌, map, reverse, reverse-cons, append_assoc}
use lib.ListN.{length, get_or, length-append}
use Rattle.numbers.proofs.Read.{top_max}
use Rattle.repertoire.specs.Repertoire.{catalogue}
use Rattle.log_model.specs.Change.{Change, turn}
use Rattle.formats.specs.declared.Format.{Format}
use Rattle.log_model.specs.Layout.{record_of, texts_of, encode_records, encode_texts}
use Rattle.log_model.specs.Groups as groups
use Rattle.log_model.specs.Holds.{Holds}
use Rattle.log_model.specs.UndoBytes.{undo_records, undo_texts}
use Rattle.log_model.proofs.Decode.{record_pos}
use Rattle.log_model.proofs.Newest.{turn-turn}
use Rattle.log_model.proofs.Holds.{seam_within, texts-within, seam_moved}
use Rattle.log_model.proofs.UndoBytes.{records-size, texts-size}
use Rattle.log_state.specs.declared.Log.{Log}
use Rattle.log_state.specs.Calls as log
use Rattle.log_state.proofs.Answers.{state, holds_state, holds_bytes}
use Rattle.log_state.proofs.Recorded.{records-used, texts-used}
use Rattle.edit.specs.Calls.{Lent, log_lent, state_of, Ready}
use Rattle.edit.proofs.Answers.{hold}
use Rattle.log_records.specs.Walks.{SizesOf}
use Rattle.undo.specs.Steps.{from_of, pass_log}
use Rattle.undo.proofs.Rows.{Stands, stands}

-- the row of records is the same on both sides of a record
pub row_back : (x : Change) (u r : List Change) → reverse (x ∷ u) ++ map turn r ≡ reverse u ++ (x ∷ map turn r)
row_back x u r = ap (λ (us : List Change). us ++ map turn r) (reverse-cons x u) ∙ append_assoc (reverse u) (x ∷ []) (map turn r)

-- the seam moved to at and t: the lists of v meet there, and their bytes are in the used parts
pub record Seam (F : Format) (l : Lent) (v : groups.Log) (at t : ℕ) : Type 0 where
  pub within : at ≤ l.log.undo.records + l.log.redo.records
  pub texts : t ≤ l.log.undo.texts + l.log.redo.texts
  pub state : state at t (l.log.undo.records + l.log.redo.records - at) (l.log.undo.texts + l.log.redo.texts - t) l.log.level ≡ log.log_of F v
  pub bytes : log.Stored F v l.records l.texts

module _ {F : Format} {l : Lent} (h : Ready F l) where
  abbrev v : groups.Log
  v = (state_of catalogue F l).log

  abbrev ur : ℕ
  ur = l.log.undo.records

  abbrev ut : ℕ
  ut = l.log.undo.texts

  abbrev rr : ℕ
  rr = l.log.redo.records

  abbrev rt : ℕ
  rt = l.log.redo.texts

  -- the lists that the bytes hold, in the buffers
  pub holds : Holds catalogue F l.records l.texts ur ut rr rt (reverse v.undo) (map turn v.redo)
  holds = hold F l h

  -- the log's texts are no more than a number says
  pub texts-below : length l.texts < 4294967296
  texts-below = omega (arith, h.log.texts, h.log.fit.lengths, top_max F.width h.log.fit.width.most)

  -- the seam between two lists that make the same row
  seam : (u r : List Change) → reverse v.undo ++ map turn v.redo ≡ reverse u ++ map turn r → {at t : ℕ}
      → at ≡ length (encode_records F (reverse u)) → t ≡ length (encode_texts (reverse u))
      → Seam F l (record { undo = u; redo = r; level = l.log.level }) at t
  seam u r row {at} {t} e f =
      let m = seam_moved holds (reverse u) (map turn r) row e f in
      record {
        within = seam_within holds (reverse u) (map turn r) row e f;
        texts = texts-within holds (reverse u) (map turn r) row e f;
        state = holds_state catalogue F l.records l.texts at t (ur + rr - at) (ut + rt - t) l.log.level u r m;
        bytes = holds_bytes catalogue F l.records l.texts at t (ur + rr - at) (ut + rt - t) l.log.level u r m;
      }

  -- ---- the newest record of the undo list
  -- there is one where the list has bytes
  pub some_newest : 0 < ur → (x : Change) × (u : List Change) × (v.undo ≡ x ∷ u)
  some_newest p = go v.undo refl
    where
      go : (w : List Change) → v.undo ≡ w → (x : Change) × (u : List Change) × (v.undo ≡ x ∷ u)
      go [] e = absurd (omega (arith, holds.records, ap (λ (w : List Change). length (encode_records F (reverse w))) e))
      go (x ∷ u) e = (x, u, e)

  module _ {x : Change} {u : List Change} (e : v.undo ≡ x ∷ u) where
    -- its record and its texts stand last
    pub newest-records : ur ≡ length (undo_records F u) + length (record_of F x)
    newest-records = records-used F (log_lent l) h.log ∙ ap (λ (w : List Change). length (undo_records F w)) e ∙ records-size F x u

    pub newest-texts : ut ≡ length (undo_texts u) + length (texts_of x)
    newest-texts = texts-used F (log_lent l) h.log ∙ ap (λ (w : List Change). length (undo_texts w)) e ∙ texts-size x u

    pub newest_some : 0 < ur
    newest_some = omega (arith, newest-records, record_pos F x)

    -- the row with it in the middle
    row : reverse v.undo ++ map turn v.redo ≡ reverse u ++ (x ∷ map turn v.redo)
    row = ap (λ (w : List Change). reverse w ++ map turn v.redo) e ∙ row_back x u v.redo

    module _ {at t : ℕ} (a : at ≡ length (undo_records F u)) (b : t ≡ length (undo_texts u)) where
      -- where it stands, and the seam before it
      pub newest-stands : Stands F l.records l.texts at t x
      unfolding undo_records undo_texts
      newest-stands = stands holds (reverse u) (map turn v.redo) x row a b

      pub newest_seam : Seam F l (pass_log true x u v) at t
      unfolding undo_records undo_texts
      newest_seam = seam u (turn x ∷ v.redo) (row ∙ ap (λ (c : Change). reverse u ++ (c ∷ map turn v.redo)) (sym (turn-turn x))) a b

    -- its size is the one written at the list's last byte
    pub newest-size : (sizes : List ℕ) → SizesOf F sizes v.undo → get_or sizes (ur - 1) 0 ≡ length (record_of F x)
    newest-size sizes z =
        ap (λ (n : ℕ). get_or sizes (n - 1) 0) (records-used F (log_lent l) h.log ∙ ap (λ (w : List Change). length (undo_records F w)) e) ∙ (subst (SizesOf F sizes) e z).0

    -- and what is written of those before it
    pub sizes-left : (sizes : List ℕ) → SizesOf F sizes v.undo → SizesOf F sizes u
    sizes-left sizes z = (subst (SizesOf F sizes) e z).1

  -- there is none where it has no bytes
  pub none_newest : ur ≡ 0 → v.undo ≡ []
  none_newest z = go v.undo refl
    where
      go : (w : List Change) → v.undo ≡ w → v.undo ≡ []
      go [] e = e
      go (x ∷ u) e = absurd (omega (arith, newest-records e, record_pos F x))

  -- ---- the next record of the redo list
  -- its bytes
  redo-records : rr ≡ length (encode_records F (map turn v.redo))
  redo-records = ap (λ (g : Log). g.redo.records) (holds_state catalogue F l.records l.texts ur ut rr rt l.log.level v.undo v.redo holds)

  -- there is one where the list has bytes
  pub some_next : 0 < rr → (x : Change) × (r : List Change) × (v.redo ≡ x ∷ r)
  some_next p = go v.redo refl
    where
      go : (w : List Change) → v.redo ≡ w → (x : Change) × (r : List Change) × (v.redo ≡ x ∷ r)
      go [] e = absurd (omega (arith, redo-records, ap (λ (w : List Change). length (encode_records F (map turn w))) e))
      go (x ∷ r) e = (x, r, e)

  -- there is none where it has no bytes
  pub none_next : rr ≡ 0 → v.redo ≡ []
  none_next z = go v.redo refl
    where
      go : (w : List Change) → v.redo ≡ w → v.redo ≡ []
      go [] e = e
      go (x ∷ r) e =
          absurd
          (omega (
            arith,
            redo-records,
            ap (λ (w : List Change). length (encode_records F (map turn w))) e,
            length-append (record_of F (turn x))
                (encode_records F (map turn r)),
            record_pos F (turn x),
          ))

  module _ {x : Change} {r : List Change} (e : v.redo ≡ x ∷ r) where
    -- the row with it in the middle
    row_on : reverse v.undo ++ map turn v.redo ≡ reverse v.undo ++ (turn x ∷ map turn r)
    row_on = ap (λ (w : List Change). reverse v.undo ++ map turn w) e

    -- where it stands, and the seam behind it
    pub next-stands : Stands F l.records l.texts ur ut (turn x)
    next-stands = stands holds (reverse v.undo) (map turn r) (turn x) row_on holds.records holds.texts

    pub next_seam : {at t : ℕ} → at ≡ ur + length (record_of F (turn x)) → t ≡ ut + length (texts_of (turn x)) → Seam F l (pass_log false x r v) at t
    unfolding undo_records undo_texts
    next_seam a b =
        seam (turn x ∷ v.undo) r (row_on ∙ sym (row_back (turn x) v.undo r))
        (a ∙ ap (λ (n : ℕ). n + length (record_of F (turn x))) (records-used F (log_lent l) h.log) ∙ sym (records-size F (turn x) v.undo))
        (b ∙ ap (λ (n : ℕ). n + length (texts_of (turn x))) (texts-used F (log_lent l) h.log) ∙ sym (texts-size (turn x) v.undo))

-- ---- the list that is walked over has fewer bytes behind a record
abbrev pub used_of : Bool → Log → ℕ
used_of true g = g.undo.records
used_of false g = g.redo.records

pub used_falls : (back : Bool) {F : Format} {l : Lent} (h : Ready F l) {x : Change} {f : List Change}
    → from_of back (state_of catalogue F l).log ≡ x ∷ f → {g : Log} → g ≡ log.log_of F (pass_log back x f (state_of catalogue F l).log)
    → used_of back g < used_of back l.log
unfolding undo_records
used_falls true {F} h {x} e q = omega (arith, ap (λ (a : Log). a.undo.records) q, newest-records h e, record_pos F x)
used_falls false {F} h {x} {f} e q =
    omega (
      arith,
      ap (λ (a : Log). a.redo.records) q,
      redo-records h,
      ap (λ (w : List Change). length (encode_records F (map turn w))) e,
      length-append
          (record_of F (turn x)) (encode_records F (map turn f)),
      record_pos F (turn x),
    )
