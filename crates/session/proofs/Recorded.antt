-- A change that is recorded, merged or not, keeps the chain of the undo list and its groups; so does a plan of changes that suit the text. Assumes nothing.
use Prim.Native.Nat.{ℕ, zero, suc, ◌+◌, ◌≤◌}
use native.Mathlib.Omega.{arith}
use mathlib.Core.Path.{◌≡◌, refl, sym, subst, ◌∙◌}
use mathlib.Core.Bool.{Bool, true, false}
use mathlib.Core.List.{List, [], ◌∷◌, ◌++◌, append_assoc}
use lib.Dec.{eqb, ltb}
use lib.ListN.{length, take, drop, length-append}
use lib.Seq.{length-take-le}
use borrow.Author.Tests.{eqb-true, ltb-false}
use Rattle.lists.specs.Lists.{part}
use Rattle.lists.proofs.Bools.{and_both, or_none, by_test}
use Rattle.lists.proofs.Parts.{halves}
use Rattle.utf8.specs.Chars.{In}
use Rattle.repertoire.specs.Repertoire.{Repertoire}
use Rattle.repertoire.specs.Text.{is_text}
use Rattle.repertoire.proofs.Text.{text-append, text-cut, text_nil}
use Rattle.checks.specs.Outcome.{Outcome, refused, answered, leaves}
use Rattle.log_model.specs.Change.{Edit, insert, delete, replace, Change, begin, end, edit, place, old, new}
use Rattle.formats.specs.declared.Format.{Format}
use Rattle.log_model.specs.Recording.{Joined, apart, joined, join_if, join, on_joined, note}
use Rattle.log_model.specs.UndoBytes.{Sizes, all_numbers_fit, fits}
use Rattle.edit.specs.Plan.{PlannedChange, typed, pasted, cutting, swapping, Plan, State, Suits, AllSuit, splice, made, recorded, blank}
use Rattle.edit.specs.Plan.{noted_or}
use Rattle.edit.specs.Plan.{text_after, list_after, redo_after, too_long, planned, edited}
use Rattle.edit.proofs.Parts.{part_none, part-between, part-text}
use Rattle.edit.proofs.PlannedChanges.{edit_at, joins_at, recorded_as, suits_text, made-text, blank-texts}
use Rattle.session.proofs.Invariant.{Nest, Groups, Link, Chain, Here, Inv}
use Rattle.session.proofs.Links.{turned}

-- ---- groups
-- one change more on top
pub groups_add : (k : ℕ) (g : List ℕ) (x : Edit) (u : List Change) → Groups k g u → Groups k g (edit x ∷ u)
groups_add zero g x u h = record { opened = h.opened; marks = h.marks }
groups_add (suc k) g x u h = record { opened = h.opened; marks = h.marks }

-- and one less
pub groups_drop : (k : ℕ) (g : List ℕ) (x : Edit) (u : List Change) → Groups k g (edit x ∷ u) → Groups k g u
groups_drop zero g x u h = record { opened = h.opened; marks = h.marks }
groups_drop (suc k) g x u h = record { opened = h.opened; marks = h.marks }

-- on top of the change y: beside it, or joined with it
groups_joined : (j : Joined) (k : ℕ) (g : List ℕ) (y x : Edit) (u : List Change) → Groups k g (edit y ∷ u) → Groups k g (on_joined j y x u)
groups_joined apart k g y x u h = groups_add k g x (edit y ∷ u) h
groups_joined (joined z) k g y x u h = groups_add k g z u (groups_drop k g y u h)

-- a change recorded, merged where i says so and it follows the last one
groups_note : (i : Bool) (k : ℕ) (g : List ℕ) (x : Edit) (u : List Change) → Groups k g u → Groups k g (note i x u)
unfolding note
groups_note false k g x u h = groups_add k g x u h
groups_note true k g x [] h = groups_add k g x [] h
groups_note true k g x (begin ∷ u) h = groups_add k g x (begin ∷ u) h
groups_note true k g x (end ∷ u) h = groups_add k g x (end ∷ u) h
groups_note true k g x (edit y ∷ u) h = groups_joined (join y x) k g y x u h

module _ (R : Repertoire) where
  -- two texts are one text
  both-text : (a b : List ℕ) → is_text R a ≡ true → is_text R b ≡ true → is_text R (a ++ b) ≡ true
  both-text a b v w = text-append R a b v ∙ w

  -- ---- links
  -- a change and one right behind it, as one change
  link_after : {Q : List ℕ → Type 0} {q p : ℕ} {o' n' o n t₀ t₁ t₂ : List ℕ} → Link R Q q o' n' t₀ t₁ → Link R Q p o n t₁ t₂ → q + length n' ≡ p
      → Link R Q q (o' ++ o) (n' ++ n) t₀ t₂
  link_after {Q} {q} {p} {o'} {n'} {o} {n} {t₀} {t₁} {t₂} l m h =
      let x : length (l.before ++ n') ≡ length m.before = rw length-append (omega (arith, l.place, m.place)) in
      let y : (l.before ++ n') ++ l.behind ≡ m.before ++ (o ++ m.behind) = append_assoc l.before n' l.behind ∙ (sym l.there ∙ m.here) in
      let z : (l.before ++ n' ≡ m.before) × (l.behind ≡ o ++ m.behind) = halves (l.before ++ n') l.behind m.before (o ++ m.behind) x y in
      record {
        before = l.before;
        behind = m.behind;
        here = rw (l.here, z.1) (simp append_assoc);
        there = rw (m.there, ← z.0) (simp append_assoc);
        place = l.place;
        before_text = l.before_text;
        behind-text = m.behind-text;
        old-text = both-text o' o l.old-text m.old-text;
        new-text = both-text n' n l.new-text m.new-text;
        first = l.first;
        second = m.second;
      }

  -- a change and one right in front of it, as one change
  link_before : {Q : List ℕ → Type 0} {q p : ℕ} {o' n' o n t₀ t₁ t₂ : List ℕ} → Link R Q q o' n' t₀ t₁ → Link R Q p o n t₁ t₂ → q ≡ p + length o
      → Link R Q p (o ++ o') (n ++ n') t₀ t₂
  link_before l m h = turned R (link_after (turned R m) (turned R l) (sym h))

  -- no text there and none put in: nothing is changed
  blank_link : {Q : List ℕ → Type 0} {p : ℕ} {o n t t' : List ℕ} → Link R Q p o n t t' → o ≡ [] → n ≡ [] → t' ≡ t
  blank_link l x y = rw (l.there, l.here, x, y)

  -- ---- a change recorded
  -- the change x leads from t to t'
  abbrev Leads : (List ℕ → Type 0) → Edit → List ℕ → List ℕ → Type 0
  Leads Q x t t' = Link R Q (place x) (old x) (new x) t t'

  -- where two changes are joined, the one leads from t to t'
  abbrev OnJoined : (List ℕ → Type 0) → List ℕ → List ℕ → Joined → Type 0
  OnJoined Q t t' apart = Unit {0}
  OnJoined Q t t' (joined z) = Leads Q z t t'

  -- joined by a test that is met, or as the tests behind it say
  join-if : (Q : List ℕ → Type 0) (t t' : List ℕ) (b : Bool) (z : Edit) (j : Joined) → (b ≡ true → Leads Q z t t') → OnJoined Q t t' j → OnJoined Q t t' (join_if b z j)
  join-if Q t t' true z j f h = f refl
  join-if Q t t' false z j f h = h

  -- joined, two changes lead where they led one after the other
  join_leads : (Q : List ℕ → Type 0) (t₀ t₁ t₂ : List ℕ) (y x : Edit) → Leads Q y t₀ t₁ → Leads Q x t₁ t₂ → OnJoined Q t₀ t₂ (join y x)
  join_leads Q t₀ t₁ t₂ (insert q s') (insert p s) l m = join-if Q t₀ t₂ (eqb (q + length s') p) (insert q (s' ++ s)) apart (λ h. link_after l m (eqb-true (q + length s') p h)) tt
  join_leads Q t₀ t₁ t₂ (insert q s') (delete p s) l m = tt
  join_leads Q t₀ t₁ t₂ (insert q s') (replace p o n) l m = tt
  join_leads Q t₀ t₁ t₂ (delete q s') (insert p s) l m = tt
  join_leads Q t₀ t₁ t₂ (delete q s') (delete p s) l m =
      join-if Q t₀ t₂ (eqb q p) (delete q (s' ++ s)) _ (λ h. link_after l m (omega (arith, eqb-true q p h)))
      (join-if Q t₀ t₂ (eqb q (p + length s)) (delete p (s ++ s')) apart (λ h. link_before l m (eqb-true q (p + length s) h)) tt)
  join_leads Q t₀ t₁ t₂ (delete q s') (replace p o n) l m = tt
  join_leads Q t₀ t₁ t₂ (replace q o' n') (insert p s) l m = tt
  join_leads Q t₀ t₁ t₂ (replace q o' n') (delete p s) l m = tt
  join_leads Q t₀ t₁ t₂ (replace q o' n') (replace p o n) l m =
      join-if Q t₀ t₂ (eqb (q + length n') p) (replace q (o' ++ o) (n' ++ n)) apart (λ h. link_after l m (eqb-true (q + length n') p h)) tt

  -- the chain on behind two changes, joined or apart
  joined_chain : (Q : List ℕ → Type 0) (e t₀ t₁ t₂ : List ℕ) (j : Joined) (y x : Edit) (u : List Change) → OnJoined Q t₀ t₂ j → Leads Q y t₀ t₁
      → Leads Q x t₁ t₂ → Chain R Q e u t₀ → Chain R Q e (on_joined j y x u) t₂
  joined_chain Q e t₀ t₁ t₂ apart y x u h l m c = (t₁, m, (t₀, l, c))
  joined_chain Q e t₀ t₁ t₂ (joined z) y x u h l m c = (t₀, h, c)

  -- a change recorded, merged where j says so and it follows the last one
  note_chain : (j : Bool) (Q : List ℕ → Type 0) (e t t' : List ℕ) (x : Edit) (u : List Change) → Leads Q x t t' → Chain R Q e u t → Chain R Q e (note j x u) t'
  unfolding note
  note_chain false Q e t t' x u m c = (t, m, c)
  note_chain true Q e t t' x [] m c = (t, m, c)
  note_chain true Q e t t' x (begin ∷ u) m c = (t, m, c)
  note_chain true Q e t t' x (end ∷ u) m c = (t, m, c)
  note_chain true Q e t t' x (edit y ∷ u) m c = joined_chain Q e c.0 t t' (join y x) y x u (join_leads Q c.0 t t' y x c.1 m) c.1 m c.2

  -- ---- a change that suits the text
  -- a part replaced is a link
  splice_link : (Q : List ℕ → Type 0) (t : List ℕ) (a b : ℕ) (s : List ℕ) → is_text R t ≡ true → is_text R s ≡ true → In t a b → Q t
      → Q (splice t a b s) → Link R Q a (part t a b) s t (splice t a b s)
  unfolding splice
  splice_link Q t a b s v w i q q' =
      let h = i.0 in
      let k = i.1 in
      record {
        before = take a t;
        behind = drop b t;
        here = part-between t a b h;
        there = refl;
        place = length-take-le a t (omega arith);
        before_text = (text-cut R t a v i.2).0;
        behind-text = (text-cut R t b v i.3).1;
        old-text = part-text R t a b i v;
        new-text = w;
        first = q;
        second = q';
      }

  -- so is a text put in at a place
  put_link : (Q : List ℕ → Type 0) (t : List ℕ) (p : ℕ) (s : List ℕ) → is_text R t ≡ true → is_text R s ≡ true → In t p p → Q t → Q (splice t p p s)
      → Link R Q p [] s t (splice t p p s)
  put_link Q t p s v w i q q' = subst (λ (o : List ℕ). Link R Q p o s t (splice t p p s)) (part_none t p) (splice_link Q t p p s v w i q q')

  -- the change that the log notes of a planned change leads to the text that this makes
  change_leads : (Q : List ℕ → Type 0) (x : PlannedChange) (t : List ℕ) → is_text R t ≡ true → Suits R x t → Q t → Q (made x t) → Leads Q (edit_at x t) t (made x t)
  change_leads Q (typed p c) t v h q q' = put_link Q t p _ v (suits_text R (typed p c) t h) h.0 q q'
  change_leads Q (pasted p s) t v h q q' = put_link Q t p s v h.1 h.0 q q'
  change_leads Q (cutting a b) t v h q q' = splice_link Q t a b [] v (text_nil R) h q q'
  change_leads Q (swapping a b s) t v h q q' = splice_link Q t a b s v h.1 h.0 q q'

  -- the change recorded, or nothing where it changes nothing
  noted_here : (Q : List ℕ → Type 0) (t₀ : List ℕ) (k : ℕ) (g : List ℕ) (j : Bool) (x : Edit) (t t' : List ℕ) (u : List Change) → Leads Q x t t'
      → is_text R t' ≡ true → Here R Q t₀ k g t u → Here R Q t₀ k g t' (noted_or j x u)
  noted_here Q t₀ k g j x t t' u l v h =
      by_test (Here R Q t₀ k g t' (noted_or j x u)) (blank x)
      (λ e. let b = blank-texts x e in
      rw e (record { chain = subst (Chain R Q t₀ u) (sym (blank_link l b.0 b.1)) h.chain; text = v; allowed = l.second; groups = h.groups }))
      (λ e. rw e (record { chain = note_chain j Q t₀ t t' x u l h.chain; text = v; allowed = l.second; groups = groups_note j k g x u h.groups }))

  -- a change made and recorded
  pub change_here : (Q : List ℕ → Type 0) (t₀ : List ℕ) (k : ℕ) (g : List ℕ) (x : PlannedChange) (t : List ℕ) (u : List Change) → Suits R x t → Q (made x t)
      → Here R Q t₀ k g t u → Here R Q t₀ k g (made x t) (recorded R x t u)
  change_here Q t₀ k g x t u s q h =
      subst (Here R Q t₀ k g (made x t)) (sym (recorded_as R x t u))
      (noted_here Q t₀ k g (joins_at R x t) (edit_at x t) t (made x t) u (change_leads Q x t h.text s h.allowed q) (made-text R x t s h.text) h)

-- ---- a plan
-- not refused
abbrev pub Answered : Outcome State → Type 0
Answered (refused k) = ⊥
Answered (answered k a b s) = Unit {0}

-- each text that the changes lead to is of Q where it is not longer than C
abbrev pub New : (List ℕ → Type 0) → ℕ → List PlannedChange → List ℕ → Type 0
New Q C [] t = Unit {0}
New Q C (x ∷ xs) t = (length (made x t) ≤ C → Q (made x t)) × New Q C xs (made x t)

module _ (R : Repertoire) where
  -- changes that suit, none too long, made and recorded one after the other
  pub plan_here : (Q : List ℕ → Type 0) (C : ℕ) (t₀ : List ℕ) (k : ℕ) (g : List ℕ) (xs : List PlannedChange) (t : List ℕ) (u : List Change)
      → New Q C xs t → AllSuit R xs t → too_long C xs t ≡ false → Here R Q t₀ k g t u → Here R Q t₀ k g (text_after xs t) (list_after R xs t u)
  unfolding text_after list_after AllSuit too_long
  plan_here Q C t₀ k g [] t u n s e h = h
  plan_here Q C t₀ k g (x ∷ xs) t u n s e h =
      let m = or_none (ltb C (length (made x t))) (too_long C xs (made x t)) e in
      plan_here Q C t₀ k g xs (made x t) (recorded R x t u) n.1 s.1 m.1 (change_here R Q t₀ k g x t u s.0 (n.0 (ltb-false _ _ m.0)) h)

  module _ (F : Format) (Q : List ℕ → Type 0) (t₀ : List ℕ) where
    -- the redo list is dropped, or leads on as it did where there is no change
    redo-after : (xs : List PlannedChange) (t : List ℕ) (r : List Change) (goal : List ℕ) → Chain R Q goal r t → Nest 0 r → all_numbers_fit F.width r ≡ true
        → (goal' : List ℕ) × Chain R Q goal' (redo_after xs r) (text_after xs t) × Nest 0 (redo_after xs r) × (all_numbers_fit F.width (redo_after xs r) ≡ true)
    unfolding text_after all_numbers_fit
    redo-after [] t r goal c n e = (goal, c, n, e)
    redo-after (x ∷ xs) t r goal c n e = (text_after xs (made x t), refl, refl, refl)

    -- refused by none
    planned_keeps : (z : Sizes) (C : ℕ) (p : Plan) (s : State) (g : List ℕ) → New Q C p.changes s.text → AllSuit R p.changes s.text
        → In (text_after p.changes s.text) p.cursor p.cursor
        → Inv R F Q t₀ s g → too_long C p.changes s.text ≡ false → fits F z (list_after R p.changes s.text s.log.undo) ≡ true → Inv R F Q t₀ (planned R p s) g
    unfolding fits
    planned_keeps z C p s g n a i v e f =
        let r = redo-after p.changes s.text s.log.redo v.goal v.forth v.nested v.redo-numbers in
        record {
          here = plan_here Q C t₀ s.log.level g p.changes s.text s.log.undo n a e v.here;
          goal = r.0;
          forth = r.1;
          nested = r.2;
          cursor = i;
          undo-numbers = (and_both (all_numbers_fit F.width (list_after R p.changes s.text s.log.undo)) _ f).0;
          redo-numbers = r.3;
        }

    -- a plan that suits the text, refused by 9, by 10 or by none; where it is refused, nothing is asked of its texts
    pub plan_keeps : (z : Sizes) (C : ℕ) (p : Plan) (s : State) (g : List ℕ) → (Answered (edited R F z C p s) → New Q C p.changes s.text)
        → AllSuit R p.changes s.text → In (text_after p.changes s.text) p.cursor p.cursor
        → Inv R F Q t₀ s g → Inv R F Q t₀ (leaves (edited R F z C p s) s) g
    unfolding edited
    plan_keeps z C p s g n a i v =
        by_test (Inv R F Q t₀ (leaves (edited R F z C p s) s) g) (too_long C p.changes s.text) (λ e. rw e v)
        (λ e. by_test (Inv R F Q t₀ (leaves (edited R F z C p s) s) g) (fits F z (list_after R p.changes s.text s.log.undo))
        (λ f. rw (e, f) (planned_keeps z C p s g (n (rw (e, f) tt)) a i v e f)) (λ f. rw (e, f) v))
