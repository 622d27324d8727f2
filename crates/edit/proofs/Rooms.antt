-- The dry run of a plan: it says of each change what recording it makes of the log, and so whether there is room for all. Assumes nothing.
use Prim.Native.Nat.{ℕ, ◌-◌, ◌≤◌, ◌<◌}
use native.Mathlib.Omega.{arith}
use mathlib.Core.Path.{◌≡◌, refl, sym, ap, ap₂, subst, ◌∙◌}
use mathlib.Core.Bool.{Bool, true, false, cond, ◌&&◌}
use mathlib.Core.List.{List, []}
use lib.Dec.{eqb, leb}
use lib.ListN.{length, take}
use lib.Seq.{length-take-le}
use borrow.Author.Tests.{eq-eqb, ne_eqb, eqb-true, eqb-false, leb-true}
use Rattle.std.specs.Prelude.{Result, Ok, Err, is_ok, IfOk}
use Rattle.std.proofs.lemmas.Option.{IfSome_then}
use Rattle.lists.proofs.Parts.{none_left}
use Rattle.lists.specs.Lists.{part}
use Rattle.lists.proofs.Bools.{by_test, and_both, never}
use Rattle.utf8.specs.Chars.{In}
use Rattle.repertoire.specs.Repertoire.{Repertoire, catalogue}
use Rattle.repertoire.specs.Text.{is_text}
use Rattle.cluster.specs.Clusters.{clusters_of}
use Rattle.log_model.specs.Change.{Edit, insert, delete, Change}
use Rattle.numbers.specs.Numbers.{top}
use Rattle.formats.specs.declared.Format.{Format}
use Rattle.formats.specs.Formats.{text_max, records_max}
use Rattle.log_model.specs.Layout.{AllGood}
use Rattle.log_model.specs.Recording.{is_single}
use Rattle.log_model.specs.UndoBytes.{undo_records, undo_texts, Sizes, fits}
use Rattle.log_model.proofs.UndoBytes.{fits_yes}
use Rattle.log_records.specs.Records.{edit_record}
use Rattle.log_recording.specs.Tails.{tail_of, tail_after, TailAt, noted, InRange}
use Rattle.log_recording.specs.declared.Tail.{Tail}
use Rattle.log_recording.specs.declared.Noted.{Noted}
use Rattle.log_recording.proofs.Numbers.{tail-records, tail-texts, tail_bounded}
use Rattle.log_recording.proofs.Put.{put}
use Rattle.log_state.specs.Calls as log
use Rattle.log_state.proofs.Recorded.{lays, good, fits_now}
use Rattle.edit.specs.Plan.{cutting, pasted, PlannedChange, Suits, recorded, blank, noted_or}
use Rattle.edit.specs.Calls.{Lent, log_lent, sizes_of, state_of, Ready}
use Rattle.edit.specs.Room.{room_for, a_cut, a_put, tail_cut, tail_put, room_cut, room_put}
use Rattle.edit.proofs.Parts.{part_length}
use Rattle.edit.proofs.PlannedChanges.{recorded_as, blank-insert, blank-delete}
use Rattle.edit.proofs.Steps.{records_grow, texts_grow, good_step, fits-lengths}

-- ---- the definitions by their tests
module _ (F : Format) (j : Bool) (a b : ℕ) (t : Tail) where
  pub cut_none : a ≡ b → t ≡ tail_cut F j a b t
  unfolding tail_cut
  cut_none e = rw (eq-eqb a b e)

  pub cut_some : (n : Noted) → (a ≡ b → ⊥) → n ≡ noted F j (a_cut a (b - a)) t → tail_after n ≡ tail_cut F j a b t
  unfolding tail_cut
  cut_some n h e = ap tail_after e ∙ sym (rw (ne_eqb a b h))

module _ (F : Format) (p n : ℕ) (t : Tail) where
  pub put_none : n ≡ 0 → t ≡ tail_put F p n t
  unfolding tail_put
  put_none e = rw (eq-eqb n 0 e)

  pub put_some : (m : Noted) → (n ≡ 0 → ⊥) → m ≡ noted F false (a_put p n) t → tail_after m ≡ tail_put F p n t
  unfolding tail_put
  put_some m h e = ap tail_after e ∙ sym (rw (ne_eqb n 0 h))

-- ---- the tail after a change
module _ (F : Format) where
  tail-noted : (j : Bool) (x : Edit) (u : List Change) → blank x ≡ false
      → tail_after (noted F j (edit_record x) (tail_of F u)) ≡ tail_of F (noted_or j x u)
  tail-noted j x u e = (put F j x u).tail ∙ ap (tail_of F) (sym (rw e))

  pub tail-cut : (R : Repertoire) (t : List ℕ) (a b : ℕ) (j : Bool) (u : List Change) → In t a b → j ≡ is_single R (clusters_of R (part t a b))
      → tail_cut F j a b (tail_of F u) ≡ tail_of F (recorded R (cutting a b) t u)
  unfolding tail_cut
  tail-cut R t a b j u i e =
      let n = part_length R t a b i in
      let h = i.0 in
      ap (λ (c : Bool). cond (eqb a b) (tail_of F u) (tail_after (noted F c (a_cut a (b - a)) (tail_of F u)))) e
      ∙ by_test (cond (eqb a b) (tail_of F u) (tail_after (noted F (is_single R (clusters_of R (part t a b))) (a_cut a (b - a)) (tail_of F u))) ≡ tail_of F
      (recorded R (cutting a b) t u)) (eqb a b)
      (λ f.
      let g = eqb-true a b f in
      let none : part t a b ≡ [] = none_left (part t a b) (omega arith) in
      rw f (ap (tail_of F) (sym (recorded_as R (cutting a b) t u ∙ ap (λ (s : List ℕ). noted_or (is_single R (clusters_of R (part t a b))) (delete a s) u) none))))
      (λ f.
      let g = eqb-false a b f in
      let k = blank-delete a (part t a b) (omega (arith, g)) in
      rw f
      (ap (λ (m : ℕ). tail_after (noted F (is_single R (clusters_of R (part t a b))) (a_cut a m) (tail_of F u))) (sym n)
      ∙ tail-noted (is_single R (clusters_of R (part t a b))) (delete a (part t a b)) u k ∙ ap (tail_of F) (sym (recorded_as R (cutting a b) t u))))

  pub tail-put : (R : Repertoire) (t : List ℕ) (p : ℕ) (s : List ℕ) (u : List Change) → tail_put F p (length s) (tail_of F u) ≡ tail_of F (recorded R (pasted p s) t u)
  unfolding tail_put
  tail-put R t p s u =
      by_test (cond (eqb (length s) 0) (tail_of F u) (tail_after (noted F false (a_put p (length s)) (tail_of F u))) ≡ tail_of F (recorded R (pasted p s) t u)) (eqb (length s) 0)
      (λ f.
      let none : s ≡ [] = none_left s (eqb-true (length s) 0 f) in
      rw f (ap (tail_of F) (sym (recorded_as R (pasted p s) t u ∙ ap (λ (x : List ℕ). noted_or false (insert p x) u) none))))
      (λ f. rw f (tail-noted false (insert p s) u (blank-insert p s (omega (arith, eqb-false (length s) 0 f))) ∙ ap (tail_of F) (sym (recorded_as R (pasted p s) t u))))

-- ---- r is the tail of the list u, where there is room for it
pub record Roomy (R : Repertoire) (F : Format) (z : Sizes) (u : List Change) (r : Result Tail Tail) : Type 0 where
  pub fit : is_ok r ≡ fits F z u
  pub tail : IfOk r (λ t. t ≡ tail_of F u)
  pub good : length (undo_texts u) < top F.width → AllGood R F.width u

module _ (R : Repertoire) (F : Format) (z : Sizes) (w : z.texts < top F.width) where
  -- the dry run's numbers are small
  pub roomy_in_range : (u : List Change) (r : Result Tail Tail) (o n : ℕ) → Roomy R F z u r → top F.width ≤ 4294967296
      → z.records ≤ records_max → o ≤ text_max → n ≤ text_max → IfOk r (λ t. InRange t o n)
  roomy_in_range u (Err t) o n q b c d e = tt
  roomy_in_range u (Ok t) o n q b c d e =
      let g = and_both (leb (length (undo_records F u)) z.records) (leb (length (undo_texts u)) z.texts) (sym (fits-lengths R F z w u q.good) ∙ sym q.fit) in
      let h = leb-true (length (undo_records F u)) z.records g.0 in
      let i = leb-true (length (undo_texts u)) z.texts g.1 in
      subst (λ (t : Tail). InRange t o n) (sym q.tail)
      (record {
        records = omega (arith, tail-records F u);
        texts = omega (arith, tail-texts F u);
        newest = IfSome_then (tail_of F u).newest (tail_bounded F R u (q.good (omega arith)))
            (λ y k. record { place = omega (arith, k.place); within = omega (arith, k.within, tail-texts F u) });
        old = omega arith;
        new = omega arith;
      })

  -- one change more
  module _ (C : ℕ) (v : C < top F.width) (x : PlannedChange) (t : List ℕ) (u : List Change) (s : Suits R x t) (is : is_text R t ≡ true) (h : length t ≤ C)
    where
      abbrev y : List Change
      y = recorded R x t u

      -- there was no room before it
      pub roomy_shut : (n : Tail) → Roomy R F z u (Err n) → Roomy R F z y (Err n)
      roomy_shut n q = record { fit = sym (shut q); tail = tt; good = next-good q.good }
        where
          next-good : (length (undo_texts u) < top F.width → AllGood R F.width u) → length (undo_texts y) < top F.width → AllGood R F.width y
          next-good g k = good_step R F C v x t u s is h (g (omega (arith, texts_grow R F x t u))) k

          shut : Roomy R F z u (Err n) → fits F z y ≡ false
          shut q =
              by_test (fits F z y ≡ false) (fits F z y)
              (λ f.
              let g = and_both (leb (length (undo_records F y)) z.records) (leb (length (undo_texts y)) z.texts)
              (sym (fits-lengths R F z w y (next-good q.good)) ∙ f) in
              let a = leb-true (length (undo_records F y)) z.records g.0 in
              let b = leb-true (length (undo_texts y)) z.texts g.1 in
              let c = fits_yes F z u R (q.good (omega (arith, texts_grow R F x t u))) (omega (arith, records_grow R F x t u)) (omega (arith, texts_grow R F x t u)) in
              never (fits F z y ≡ false) (fits F z u) c (sym q.fit))
              (λ f. f)

      pub roomy_open : (n : Tail) → Roomy R F z u (Ok n) → (m : Tail) → m ≡ tail_of F y → Roomy R F z y (room_for z m)
      roomy_open n q m e =
          record {
            fit =
                ok-if (leb m.records z.records && leb m.texts z.texts)
                ∙ ap (λ (k : Tail). leb k.records z.records && leb k.texts z.texts) e
                ∙ ap₂ (λ (a b : ℕ). leb a z.records && leb b z.texts) (tail-records F y) (tail-texts F y) ∙ sym (fits-lengths R F z w y next-good);
            tail = if-room (leb m.records z.records && leb m.texts z.texts);
            good = next-good;
          }
        where
          next-good : length (undo_texts y) < top F.width → AllGood R F.width y
          next-good k = good_step R F C v x t u s is h (q.good (omega (arith, texts_grow R F x t u))) k

          ok-if : (b : Bool) → is_ok (cond b (Ok m) (Err m)) ≡ b
          ok-if true = refl
          ok-if false = refl

          if-room : (b : Bool) → IfOk (cond b (Ok m) (Err m)) (λ k. k ≡ tail_of F y)
          if-room true = e
          if-room false = tt

  module _ (C : ℕ) (v : C < top F.width) (t : List ℕ) (u : List Change) (is : is_text R t ≡ true) (h : length t ≤ C) where
    pub roomy_cut : (r : Result Tail Tail) → Roomy R F z u r → (a b : ℕ) (j : Bool) → Suits R (cutting a b) t → j ≡ is_single R (clusters_of R (part t a b))
        → Roomy R F z (recorded R (cutting a b) t u) (room_cut F z j a b r)
    roomy_cut (Err n) q a b j s e = roomy_shut C v (cutting a b) t u s is h n q
    roomy_cut (Ok n) q a b j s e =
        roomy_open C v (cutting a b) t u s is h n q (tail_cut F j a b n) (ap (tail_cut F j a b) q.tail ∙ tail-cut F R t a b j u s e)

    pub roomy_put : (r : Result Tail Tail) → Roomy R F z u r → (p : ℕ) (x : List ℕ) → Suits R (pasted p x) t
        → Roomy R F z (recorded R (pasted p x) t u) (room_put F z p (length x) r)
    roomy_put (Err n) q p x s = roomy_shut C v (pasted p x) t u s is h n q
    roomy_put (Ok n) q p x s =
        roomy_open C v (pasted p x) t u s is h n q (tail_put F p (length x) n) (ap (tail_put F p (length x)) q.tail ∙ tail-put F R t p x u)

-- ---- the dry run's beginning: the list as it is
module _ (F : Format) (l : log.Lent) (h : log.Ready F l) where
  pub tail_now : (t : Tail) → TailAt catalogue F (take l.log.undo.records l.records) l.log.undo.texts t → t ≡ tail_of F (log.value_of catalogue F l).undo
  tail_now t is-tail =
      is-tail (take l.log.undo.texts l.texts) (log.undos catalogue F l) (lays F l h) (sym (length-take-le l.log.undo.texts l.texts (omega (arith, h.hold.space))))

  pub roomy_now : Roomy catalogue F (log.sizes_of l) (log.value_of catalogue F l).undo (Ok (tail_of F (log.value_of catalogue F l).undo))
  roomy_now = record { fit = sym (fits_now F l h); tail = refl; good = λ e. good F l h }

-- ---- the same of an edit that is lent l, whose log has buffers of its sizes and whose texts stay within C
module _ (F : Format) (l : Lent) (h : Ready F l) where
  below_top : length l.texts < top F.width
  below_top = omega (arith, h.log.texts, h.log.fit.lengths)

  high : length l.text < top F.width
  high = omega (arith, h.limit, h.log.fit.places, h.log.fit.lengths)

  pub dry_now : Roomy catalogue F (sizes_of l) (state_of catalogue F l).log.undo (Ok (tail_of F (state_of catalogue F l).log.undo))
  dry_now = roomy_now F (log_lent l) h.log

  module _ (u : List Change) (r : Result Tail Tail) (q : Roomy catalogue F (sizes_of l) u r) where
    pub dry_in_range : (o n : ℕ) → top F.width ≤ 4294967296 → o ≤ text_max → n ≤ text_max → IfOk r (λ t. InRange t o n)
    dry_in_range o n w a b = roomy_in_range catalogue F (sizes_of l) below_top u r o n q w (omega (arith, h.log.records, h.log.fit.records)) a b

    module _ (t : List ℕ) (is : is_text catalogue t ≡ true) (m : length t ≤ length l.text) where
      pub dry_cut : (a b : ℕ) (j : Bool) → Suits catalogue (cutting a b) t → j ≡ is_single catalogue (clusters_of catalogue (part t a b))
          → Roomy catalogue F (sizes_of l) (recorded catalogue (cutting a b) t u) (room_cut F (sizes_of l) j a b r)
      dry_cut a b j s e = roomy_cut catalogue F (sizes_of l) below_top (length l.text) high t u is m r q a b j s e

      pub dry_put : (p : ℕ) (x : List ℕ) → Suits catalogue (pasted p x) t
          → Roomy catalogue F (sizes_of l) (recorded catalogue (pasted p x) t u) (room_put F (sizes_of l) p (length x) r)
      dry_put p x s = roomy_put catalogue F (sizes_of l) below_top (length l.text) high t u is m r q p x s
