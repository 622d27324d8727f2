-- The laws of a link: its record is undone without a stop, and turned round it leads back. Assumes nothing.
use Prim.Native.Nat.{ℕ, ◌+◌, ◌-◌, ◌≤◌}
use native.Mathlib.Omega.{arith}
use mathlib.Core.Path.{◌≡◌, ap, ◌∙◌}
use mathlib.Core.Bool.{true}
use mathlib.Core.List.{List, ◌++◌}
use lib.ListN.{length, length-append}
use lib.Seq.{take-append_seam, drop-append_seam, take-append-add, drop-append-add}
use Rattle.utf8.specs.Chars.{boundary, In, valid}
use Rattle.utf8.proofs.Append.{valid-append}
use Rattle.repertoire.specs.Repertoire.{Repertoire}
use Rattle.repertoire.specs.Text.{is_text}
use Rattle.repertoire.proofs.Text.{text-append, text-valid}
use Rattle.log_model.specs.Change.{Edit, insert, delete, replace, edit, place, old, new, flipped}
use Rattle.edit.specs.Plan.{splice}
use Rattle.undo_step.specs.UndoStep.{StepState, done, exchanging, undoing}
use Rattle.undo_step.proofs.Exchanges.{swaps}
use Rattle.session.proofs.Invariant.{Bound, Link}

-- ---- a text n between two others, a and b
-- the place before it is a boundary
boundary-before : (a b : List ℕ) → valid a ≡ true → boundary (a ++ b) (length a) ≡ true
boundary-before a b v = ap valid (take-append_seam a b) ∙ v

-- and so is the place behind it
boundary-behind : (a n b : List ℕ) → valid a ≡ true → valid n ≡ true → boundary (a ++ (n ++ b)) (length a + length n) ≡ true
boundary-behind a n b v w =
    ap valid (take-append-add a (n ++ b) (length n) ∙ ap (λ (l : List ℕ). a ++ l) (take-append_seam n b)) ∙ valid-append a n v ∙ w

-- it ends within the text
within : (a n b : List ℕ) → length a + length n ≤ length (a ++ (n ++ b))
within a n b = simp length-append (omega arith)

-- o in its place
splice-between : (a n b o : List ℕ) → splice (a ++ (n ++ b)) (length a) (length a + length n) o ≡ a ++ (o ++ b)
unfolding splice
splice-between a n b o = rw (take-append_seam, drop-append-add, drop-append_seam)

-- it is taken out without a stop by 12, and where the text is then no longer than C, without a stop by 9
exchanged : (C : ℕ) (a n b o : List ℕ) → valid a ≡ true → valid n ≡ true → length (a ++ (o ++ b)) ≤ C
    → exchanging C (length a) (length n) o (a ++ (n ++ b)) ≡ done (record { text = a ++ (o ++ b); cursor = length a + length o; undone = true })
exchanged C a n b o v w h =
    swaps C (length a) (length n) o (a ++ (n ++ b))
    (record { ends = within a n b; first = boundary-before a (n ++ b) v; last = boundary-behind a n b v w; room = room })
    ∙ ap (λ (t : List ℕ). done (record { text = t; cursor = length a + length o; undone = true })) (splice-between a n b o)
  where
    room : length (a ++ (n ++ b)) - length n + length o ≤ C
    room = omega (arith, length-append a (n ++ b), length-append n b, length-append a (o ++ b), length-append o b)

module _ (R : Repertoire) {Q : List ℕ → Type 0} where
  -- the record of a link undone: its first text, with the cursor behind what was put back
  pub undo_link : (C : ℕ) (x : Edit) (t : List ℕ) (s : StepState) → Bound Q C → Link R Q (place x) (old x) (new x) t s.text
      → undoing C (edit x) s ≡ done (record { text = t; cursor = place x + length (old x); undone = true })
  unfolding undoing
  undo_link C x t s h l =
      let a = l.before in
      let b = l.behind in
      let k : length (a ++ (old x ++ b)) ≤ C = h (a ++ (old x ++ b)) (rw l.here at l.first) in
      rw (← l.place, l.there, l.here) (exchanged C a (new x) b (old x) (text-valid R a l.before_text) (text-valid R (new x) l.new-text) k)

  -- a link seen from its other text
  pub turned : {p : ℕ} {o n t t' : List ℕ} → Link R Q p o n t t' → Link R Q p n o t' t
  turned l =
      record {
        before = l.before;
        behind = l.behind;
        here = l.there;
        there = l.here;
        place = l.place;
        before_text = l.before_text;
        behind-text = l.behind-text;
        old-text = l.new-text;
        new-text = l.old-text;
        first = l.second;
        second = l.first;
      }

  -- the record turned round is a link the other way
  pub flip_link : (x : Edit) {t t' : List ℕ} → Link R Q (place x) (old x) (new x) t t' → Link R Q (place (flipped x)) (old (flipped x)) (new (flipped x)) t' t
  flip_link (insert p s) l = turned l
  flip_link (delete p s) l = turned l
  flip_link (replace p o n) l = turned l

  -- behind what was put back stands a boundary
  pub cursor_link : {p : ℕ} {o n t t' : List ℕ} → Link R Q p o n t t' → In t (p + length o) (p + length o)
  cursor_link {p} {o} l =
      let a = l.before in
      let b = l.behind in
      let e = boundary-behind a o b (text-valid R a l.before_text) (text-valid R o l.old-text) in
      rw (← l.place, l.here) (omega arith, within a o b, e, e)

  -- and the text is of the repertoire
  pub text_link : {p : ℕ} {o n t t' : List ℕ} → Link R Q p o n t t' → is_text R t ≡ true
  text_link {o = o} l =
      ap (is_text R) l.here ∙ text-append R l.before (o ++ l.behind) l.before_text ∙ text-append R o l.behind l.old-text ∙ l.behind-text
