-- Cancel keeps the invariant: the records down to the mark are undone without a stop, and the groups below the mark stay open. Assumes nothing.
use Prim.Native.Nat.{ℕ, zero, suc, ◌+◌, ◌-◌, ◌≤◌}
use native.Mathlib.Omega.{arith}
use mathlib.Core.Path.{◌≡◌, refl, ap, ◌∙◌}
use mathlib.Core.Bool.{true, false≢true}
use mathlib.Core.List.{List, [], ◌∷◌}
use lib.Dec.{eqb}
use lib.ListN.{length}
use borrow.Author.Tests.{eqb-true, le-leb, lt-leb}
use Rattle.lists.proofs.Bools.{by_test}
use Rattle.utf8.specs.Chars.{In}
use Rattle.repertoire.specs.Repertoire.{Repertoire}
use Rattle.repertoire.specs.Text.{is_text}
use Rattle.checks.specs.Outcome.{leaves}
use Rattle.log_model.specs.Change.{Change, begin, end, edit, place, old, turn}
use Rattle.formats.specs.declared.Format.{Format}
use Rattle.log_model.specs.UndoBytes.{all_numbers_fit}
use Rattle.edit.specs.Plan.{State}
use Rattle.undo_step.specs.UndoStep.{StepState, undoing}
use Rattle.undo.specs.Undo.{Walked, step_state_of}
use Rattle.undo_cancel.specs.Cancel.{opens, walk_to, begins_down, cancel_out}
use Rattle.undo_cancel.proofs.Cancels.{opens-within}
use Rattle.calls.specs.Calls.{cancel}
use Rattle.session.specs.Calls.{asked}
use Rattle.session.specs.Runs.{below}
use Rattle.session.proofs.Values.{open_after}
use Rattle.session.proofs.Invariant.{open_marks, Groups, Bound, Chain, Inv, no_redo}
use Rattle.session.proofs.Links.{undo_link, cursor_link, text_link}
use Rattle.session.proofs.Walks.{numbers-tail}
use Rattle.session.proofs.Recorded.{groups_drop}

-- a mark that is no lower goes
below-first : (m b : ℕ) (bs : List ℕ) → m ≤ b → below m (b ∷ bs) ≡ below m bs
unfolding below
below-first m b bs h = rw (le-leb m b h)

-- the marks of a list no longer than m stay
below_all : (m k : ℕ) (u : List Change) → length u ≤ m → below m (open_marks k u) ≡ open_marks k u
unfolding below
below_all m zero u h = refl
below_all m (suc k) [] h = refl
below_all m (suc k) (begin ∷ u) h = rw (lt-leb m (length u) h, below_all m k u (omega arith))
below_all m (suc k) (end ∷ u) h = refl
below_all m (suc k) (edit x ∷ u) h = below_all m (suc k) u (omega arith)

module _ (R : Repertoire) (F : Format) (Q : List ℕ → Type 0) (t₀ : List ℕ) where
  -- an undo list u that leads from the text to the first one, at level k with the groups g open
  record From (k : ℕ) (g : List ℕ) (u : List Change) (s : StepState) : Type 0 where
    chain : Chain R Q t₀ u s.text
    groups : Groups k g u
    numbers : all_numbers_fit F.width u ≡ true
    text : is_text R s.text ≡ true
    allowed : Q s.text
    cursor : In s.text s.cursor s.cursor

  -- a walk that was not stopped, and the list that it leaves
  record Down (k : ℕ) (g : List ℕ) (w : Walked) : Type 0 where
    runs : w.stopped ≡ 0
    left : From k g w.from w.reached

  -- down to the mark, the level is lowered by the Begins, and the groups below the mark stay open
  down : (C : ℕ) → Bound Q C → (m : ℕ) (u r : List Change) (k : ℕ) (g : List ℕ) (s : StepState) → opens m u ≡ true → From k g u s
      → Down (k - begins_down m u) (below m g) (walk_to C m u r s)
  unfolding walk_to opens undoing begins_down
  down C h m [] r k g s o z = absurd (false≢true o)
  down C h m (begin ∷ u) r zero g s o z = absurd z.groups.opened
  down C h m (begin ∷ u) r (suc k) g s o z =
      let f : From k (open_marks k u) u s =
      record {
        chain = z.chain;
        groups = record { opened = z.groups.opened; marks = refl };
        numbers = numbers-tail F.width begin u z.numbers;
        text = z.text;
        allowed = z.allowed;
        cursor = z.cursor;
      }
      in
      by_test _ (eqb (length u) m)
      (λ b.
      let l = eqb-true (length u) m b in
      let e : suc k - 1 ≡ k = omega arith in
      let marks : below m g ≡ open_marks k u =
      ap (below m) z.groups.marks ∙ below-first m (length u) (open_marks k u) (omega arith) ∙ below_all m k u (omega arith)
      in
      rw (b, e, marks) (record { runs = refl; left = f }))
      (λ b.
      let o' : opens m u ≡ true = rw b at o in
      let l = opens-within m u o' in
      let e : suc k - suc (begins_down m u) ≡ k - begins_down m u = omega arith in
      let marks : below m g ≡ below m (open_marks k u) = ap (below m) z.groups.marks ∙ below-first m (length u) (open_marks k u) (omega arith) in
      rw (b, e, marks) (down C h m u (end ∷ r) k (open_marks k u) s o' f))
  down C h m (end ∷ u) r k g s o z = absurd (false≢true o)
  down C h m (edit x ∷ u) r k g s o z =
      let l = z.chain.1 in
      rw (undo_link R C x z.chain.0 s h l)
      (by_test _ (eqb (length u) m)
      (λ b. absurd (omega (arith, eqb-true (length u) m b, opens-within m u o)))
      (λ b.
      rw b
      (down C h m u (turn (edit x) ∷ r) k g (record { text = z.chain.0; cursor = place x + length (old x); undone = true }) o
      (record {
        chain = z.chain.2;
        groups = groups_drop k g x u z.groups;
        numbers = numbers-tail F.width (edit x) u z.numbers;
        text = text_link R l;
        allowed = l.first;
        cursor = cursor_link R l;
      }))))

  -- cancel keeps the invariant, whether the mark is an open group's or not
  pub cancel_keeps : (C m : ℕ) (s : State) (g : List ℕ) → Bound Q C → Inv R F Q t₀ s g
      → Inv R F Q t₀ (leaves (cancel_out C m s) s) (open_after (asked (cancel m)) (cancel_out C m s) g)
  unfolding cancel_out
  cancel_keeps C m s g h v =
      by_test _ (opens m s.log.undo)
      (λ o.
      let d =
      down C h m s.log.undo s.log.redo s.log.level g (step_state_of s) o
      (record { chain = v.here.chain; groups = v.here.groups; numbers = v.undo-numbers; text = v.here.text; allowed = v.here.allowed; cursor = v.cursor })
      in
      let z = d.left in
      rw (o, d.runs)
      (no_redo R F Q t₀ _ _ _ _ _ (record { chain = z.chain; text = z.text; allowed = z.allowed; groups = z.groups }) z.cursor z.numbers))
      (λ o. rw o v)
