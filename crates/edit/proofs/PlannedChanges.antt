-- A planned change as a part of a text replaced by another text, and as the change that the log notes. Assumes nothing.
use Prim.Native.Nat.{ℕ, ◌+◌, ◌≤◌, ◌<◌}
use native.Mathlib.Omega.{arith}
use mathlib.Core.Path.{◌≡◌, refl, sym, ap, subst, ◌∙◌}
use mathlib.Core.Bool.{Bool, true, false, ◌&&◌}
use mathlib.Core.List.{List, [], ◌∷◌}
use lib.Dec.{eqb}
use lib.ListN.{length}
use Rattle.std.specs.Prelude.{Option, Some, None, IfSome}
use Rattle.std.proofs.lemmas.Option.{IfSome_then}
use Rattle.lists.proofs.Bools.{by_test, never}
use Rattle.lists.specs.Lists.{part}
use Rattle.utf8.specs.Chars.{In}
use Rattle.utf8.specs.Encode.{encode}
use Rattle.utf8.proofs.Chars.{size_pos}
use Rattle.utf8.proofs.Encode.{size-encode}
use Rattle.repertoire.specs.Repertoire.{Repertoire}
use Rattle.repertoire.specs.Text.{is_text}
use Rattle.repertoire.proofs.Typed.{char-text}
use Rattle.repertoire.proofs.Text.{text_nil}
use Rattle.cluster.specs.Clusters.{clusters_of}
use Rattle.log_model.specs.Change.{Edit, insert, delete, replace, Change, edit, place, old, new}
use Rattle.numbers.specs.Numbers.{top}
use Rattle.formats.specs.declared.Format.{Format}
use Rattle.log_model.specs.Layout.{ok_change, AllGood}
use Rattle.log_model.specs.Recording.{is_single, note, record_insert, record_replace}
use Rattle.log_model.specs.UndoBytes.{undo_records, undo_texts}
use Rattle.log_records.specs.declared.EditKind.TheVariants.{Delete}
use Rattle.log_records.specs.declared.EditRecord.{EditRecord}
use Rattle.log_records.specs.Records.{edit_record}
use Rattle.log_recording.specs.Tails.{tail_of, same_kind, joined, noted_at, noted}
use Rattle.log_recording.specs.declared.Tail.{Tail}
use Rattle.log_recording.proofs.Numbers.{tail-records, tail_bounded}
use Rattle.log_recording.proofs.Put.{put, put-records, put-len, put-texts, put-good}
use Rattle.edit.specs.Plan.{PlannedChange, typed, pasted, cutting, swapping, Suits, splice, made, recorded, blank, noted_or}
use Rattle.edit.proofs.Parts.{part-text}
use Rattle.edit.proofs.Once.{noted-insert, noted-delete}
use Rattle.edit.proofs.Splice.{splice-text, splice-start}

-- ---- a planned change puts a text in the place of the bytes from its start up to its end
abbrev pub start_of : PlannedChange → ℕ
start_of (typed p c) = p
start_of (pasted p s) = p
start_of (cutting a b) = a
start_of (swapping a b s) = a

abbrev pub end_of : PlannedChange → ℕ
end_of (typed p c) = p
end_of (pasted p s) = p
end_of (cutting a b) = b
end_of (swapping a b s) = b

abbrev pub text_in : PlannedChange → List ℕ
text_in (typed p c) = encode c
text_in (pasted p s) = s
text_in (cutting a b) = []
text_in (swapping a b s) = s

pub made-is : (x : PlannedChange) (t : List ℕ) → made x t ≡ splice t (start_of x) (end_of x) (text_in x)
made-is (typed p c) t = refl
made-is (pasted p s) t = refl
made-is (cutting a b) t = refl
made-is (swapping a b s) t = refl

module _ (R : Repertoire) where
  pub suits_in : (x : PlannedChange) (t : List ℕ) → Suits R x t → In t (start_of x) (end_of x)
  suits_in (typed p c) t h = h.0
  suits_in (pasted p s) t h = h.0
  suits_in (cutting a b) t h = h
  suits_in (swapping a b s) t h = h.0

  pub suits_text : (x : PlannedChange) (t : List ℕ) → Suits R x t → is_text R (text_in x) ≡ true
  suits_text (typed p c) t h = char-text R c h.1
  suits_text (pasted p s) t h = h.1
  suits_text (cutting a b) t h = text_nil R
  suits_text (swapping a b s) t h = h.1

module _ (R : Repertoire) (x : PlannedChange) (t : List ℕ) (h : Suits R x t) where
  pub made-text : is_text R t ≡ true → is_text R (made x t) ≡ true
  made-text v = ap (is_text R) (made-is x t) ∙ splice-text t (start_of x) (end_of x) (text_in x) (suits_in R x t h) R v (suits_text R x t h)

  -- its start is a place between characters afterwards too
  pub start_in : In (made x t) (start_of x) (start_of x)
  start_in = subst (λ (l : List ℕ). In l (start_of x) (start_of x)) (sym (made-is x t)) (splice-start t (start_of x) (end_of x) (text_in x) (suits_in R x t h))

-- ---- the change that the log notes
abbrev pub edit_at : PlannedChange → List ℕ → Edit
edit_at (typed p c) t = insert p (encode c)
edit_at (pasted p s) t = insert p s
edit_at (cutting a b) t = delete a (part t a b)
edit_at (swapping a b s) t = replace a (part t a b) s

abbrev pub joins_at : Repertoire → PlannedChange → List ℕ → Bool
joins_at R (typed p c) t = R.alnum c
joins_at R (pasted p s) t = false
joins_at R (cutting a b) t = is_single R (clusters_of R (part t a b))
joins_at R (swapping a b s) t = true

pub place_at : (x : PlannedChange) (t : List ℕ) → place (edit_at x t) ≡ start_of x
place_at (typed p c) t = refl
place_at (pasted p s) t = refl
place_at (cutting a b) t = refl
place_at (swapping a b s) t = refl

-- one of some bytes is not blank
pub blank-insert : (p : ℕ) (s : List ℕ) → 0 < length s → blank (insert p s) ≡ false
blank-insert p [] h = absurd (omega arith)
blank-insert p (b ∷ s) h = refl

pub blank-delete : (p : ℕ) (s : List ℕ) → 0 < length s → blank (delete p s) ≡ false
blank-delete p [] h = absurd (omega arith)
blank-delete p (b ∷ s) h = refl

module _ (R : Repertoire) where
  pub recorded_as : (x : PlannedChange) (t : List ℕ) (u : List Change) → recorded R x t u ≡ noted_or (joins_at R x t) (edit_at x t) u
  unfolding record_insert record_replace
  recorded_as (typed p c) t u = sym (rw (blank-insert p (encode c) (omega (arith, size-encode c, size_pos c))))
  recorded_as (pasted p s) t u = noted-insert p s u
  recorded_as (cutting a b) t u = noted-delete R a (part t a b) u
  recorded_as (swapping a b s) t u = refl

  -- its texts are of the repertoire
  pub ok_at : (x : PlannedChange) (t : List ℕ) → is_text R t ≡ true → Suits R x t → ok_change R (edit (edit_at x t)) ≡ true
  ok_at (typed p c) t v h = char-text R c h.1
  ok_at (pasted p s) t v h = h.1
  ok_at (cutting a b) t v h = part-text R t a b h v
  ok_at (swapping a b s) t v h = rw (part-text R t a b h.0 v, h.1)

-- ---- what noting a change makes of a list
module _ (F : Format) (x : EditRecord) (t : Tail) where
  joined_grows : (y : EditRecord) → t.records ≤ (joined F y x t).records
  unfolding joined
  joined_grows y =
      by_test _ (eqb (y.place + y.new) x.place) (λ f. rw f (omega arith))
      (λ f. by_test _ (same_kind x.kind Delete && eqb y.place (x.place + x.old)) (λ g. rw (f, g) (omega arith)) (λ g. rw (f, g) (omega arith)))

  pub noted_grows : (j : Bool) → t.records ≤ (noted F j x t).records
  unfolding noted
  noted_grows j = go t.newest
    where
      go : (y : Option EditRecord) → t.records ≤ (noted_at F j x t y).records
      go None = omega arith
      go (Some y) = by_test _ (j && same_kind y.kind x.kind) (λ e. rw e (joined_grows y)) (λ e. rw e (omega arith))

  joined_place : (y : EditRecord) (m : ℕ) → y.place < m → x.place < m → (joined F y x t).edit.place < m
  unfolding joined
  joined_place y m a b =
      by_test _ (eqb (y.place + y.new) x.place) (λ f. rw f a)
      (λ f. by_test _ (same_kind x.kind Delete && eqb y.place (x.place + x.old)) (λ g. rw (f, g) b) (λ g. rw (f, g) b))

  pub noted-place : (j : Bool) (m : ℕ) → IfSome t.newest (λ y. y.place < m) → x.place < m → (noted F j x t).edit.place < m
  unfolding noted
  noted-place j m a b = go t.newest a
    where
      go : (y : Option EditRecord) → IfSome y (λ z. z.place < m) → (noted_at F j x t y).edit.place < m
      go None c = b
      go (Some y) c = by_test _ (j && same_kind y.kind x.kind) (λ e. rw e (joined_place y m c b)) (λ e. rw e b)

module _ (F : Format) (j : Bool) (x : Edit) (u : List Change) where
  abbrev after : List Change
  after = note j x u

  note-records : length (undo_records F u) ≤ length (undo_records F after)
  note-records = omega (arith, noted_grows F (edit_record x) (tail_of F u) j, tail-records F u, put-records F x u after _ (put F j x u))

  note-texts : length (undo_texts after) ≡ length (undo_texts u) + length (old x) + length (new x)
  note-texts = sym (put-len F x u after _ (put F j x u)) ∙ put-texts F x u after _ (put F j x u)

  note-good : (R : Repertoire) → AllGood R F.width u → ok_change R (edit x) ≡ true → place x < top F.width
      → length (undo_texts after) < top F.width → AllGood R F.width after
  note-good R g o p t =
      put-good F x u after _ (put F j x u) R g o
      (noted-place F (edit_record x) (tail_of F u) j (top F.width) (IfSome_then (tail_of F u).newest (tail_bounded F R u g) (λ y k. k.place)) p)
      (omega (arith, put-len F x u after _ (put F j x u)))

-- a change of nothing has no text
pub blank-texts : (x : Edit) → blank x ≡ true → (old x ≡ []) × (new x ≡ [])
blank-texts (insert p []) h = (refl, refl)
blank-texts (insert p (b ∷ s)) h = never _ false h refl
blank-texts (delete p []) h = (refl, refl)
blank-texts (delete p (b ∷ s)) h = never _ false h refl
blank-texts (replace p o n) h = never _ false h refl

blank_none : (x : Edit) → blank x ≡ true → length (old x) + length (new x) ≡ 0
blank_none x e = omega (arith, ap length (blank-texts x e).0, ap length (blank-texts x e).1)

module _ (F : Format) (j : Bool) (x : Edit) (u : List Change) where
  pub more_records : length (undo_records F u) ≤ length (undo_records F (noted_or j x u))
  more_records = by_test _ (blank x) (λ e. rw e (omega arith)) (λ e. rw e (note-records F j x u))

  pub more_texts : length (undo_texts (noted_or j x u)) ≡ length (undo_texts u) + (length (old x) + length (new x))
  more_texts = by_test _ (blank x) (λ e. rw (e, blank_none x e) (omega arith)) (λ e. rw e (note-texts F j x u ∙ omega arith))

  pub more_good : (R : Repertoire) → AllGood R F.width u → ok_change R (edit x) ≡ true → place x < top F.width
      → length (undo_texts (noted_or j x u)) < top F.width → AllGood R F.width (noted_or j x u)
  more_good R g o p t =
      by_test (AllGood R F.width (noted_or j x u)) (blank x) (λ e. rw e g) (λ e. rw e (note-good F j x u R g o p (rw e at t)))
