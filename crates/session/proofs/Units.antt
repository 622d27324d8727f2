-- Undo and redo where no group is open: the invariant is kept, and what demand 3 says of units. Assumes nothing.
use Prim.Native.Nat.{ℕ, zero, suc, ◌+◌, ◌-◌, ◌≤◌}
use native.Mathlib.Omega.{arith}
use mathlib.Core.Path.{◌≡◌, refl, sym, ap, ◌∙◌, subst}
use mathlib.Core.Bool.{Bool, true, false, cond, ◌&&◌}
use mathlib.Core.List.{List, [], ◌∷◌, nil≢cons}
use lib.Dec.{eqb}
use lib.ListN.{length}
use Rattle.lists.proofs.Bools.{by_test}
use Rattle.utf8.specs.Chars.{In}
use Rattle.repertoire.specs.Repertoire.{Repertoire}
use Rattle.checks.specs.Outcome.{Outcome, refused, answered, number_in, leaves}
use Rattle.log_model.specs.Change.{Change, begin, end, edit}
use Rattle.formats.specs.declared.Format.{Format}
use Rattle.edit.specs.Plan.{State}
use Rattle.undo.specs.Undo.{owed, Walked, walk, number_of, step_state_of, undone_state, undo_walk, undo_out}
use Rattle.undo_redo.specs.Redo.{redo_walk, redone_state, behind_number, redo_out}
use Rattle.session.proofs.Values.{Units, SameTextAndLog}
use Rattle.session.proofs.Invariant.{Nest, Open, Groups, Bound, Chain, Inv}
use Rattle.session.proofs.Walks.{At, at_turned, Good, good, WalkedBack, walk_back, more, further, walk_cap, walk_lt, forget, walk-undone}

-- ---- groups
-- with no mark, no group is open
pub no_marks : (k : ℕ) (u : List Change) → Groups k [] u → k ≡ 0
no_marks zero u h = refl
no_marks (suc k) [] h = absurd h.opened
no_marks (suc k) (begin ∷ u) h = absurd (nil≢cons h.marks)
no_marks (suc k) (end ∷ u) h = absurd h.opened
no_marks (suc k) (edit x ∷ u) h = no_marks (suc k) u (record { opened = h.opened; marks = h.marks })

-- and the other way round
closed : (k : ℕ) (u : List Change) → k ≡ 0 → Nest 0 u → Groups k [] u
closed zero u q h = record { opened = h; marks = refl }
closed (suc k) u q h = absurd (omega arith)

-- ---- numbers
-- not stopped, 0 or 1
number-le : (k : ℕ) (b : Bool) → k ≡ 0 → number_of k b ≤ 1
number-le zero true h = omega arith
number-le zero false h = omega arith
number-le (suc k) b h = absurd (omega arith)

-- 0, or k
cond-le : (b : Bool) (k : ℕ) → k ≤ 1 → cond b 0 k ≤ 1
cond-le true k h = omega arith
cond-le false k h = h

-- a number behind another is 0 or 1 where it was so alone
behind-le : (n : ℕ) (o : Outcome State) → number_in o ≤ 1 → number_in (behind_number n o) ≤ 1
behind-le n (refused k) h = h
behind-le n (answered k a b s) h = cond-le (eqb n 0 && eqb k 1) k h

-- and it leaves the same
behind-leaves : (n : ℕ) (o : Outcome State) (s : State) → leaves (behind_number n o) s ≡ leaves o s
behind-leaves n (refused k) s = refl
behind-leaves n (answered k a b s') s = refl

-- ---- what undo and redo leave
abbrev after_undo : ℕ → ℕ → State → State
after_undo C n s = leaves (undo_out C n s) s

abbrev after_redo : ℕ → ℕ → State → State
after_redo C n s = leaves (redo_out C n s) s

-- one unit redone
abbrev pub after_one : ℕ → State → State
after_one C s = redone_state (redo_walk C s) s.log.level

-- redo is never refused
redo-leaves : (C n : ℕ) (s a b : State) → leaves (redo_out C n s) a ≡ leaves (redo_out C n s) b
unfolding redo_out
redo-leaves C zero s a b = refl
redo-leaves C (suc n) s a b =
    let o = redo_out C n (after_one C s) in
    let k = number_of 0 (redo_walk C s).reached.undone in
    by_test _ (eqb (redo_walk C s).stopped 0)
    (λ e. rw e (behind-leaves k o a ∙ redo-leaves C n (after_one C s) a b ∙ sym (behind-leaves k o b)))
    (λ e. rw e)

module _ (R : Repertoire) (F : Format) (Q : List ℕ → Type 0) (t₀ : List ℕ) where
  -- where no group is open, a state is a place in the log that no group holds
  pub at : (s : State) (v : Inv R F Q t₀ s []) → At R F Q t₀ v.goal 0 s.log.undo s.log.redo s.text
  at s v =
      record {
        nested = subst (λ (k : ℕ). Open k s.log.undo) (no_marks s.log.level s.log.undo v.here.groups) v.here.groups.opened;
        nested' = v.nested;
        chain = v.here.chain;
        chain' = v.forth;
        numbers = v.undo-numbers;
        numbers' = v.redo-numbers;
        text = v.here.text;
        allowed = v.here.allowed;
      }

  -- and such a place is a state
  inv : (s : State) (e : List ℕ) → s.log.level ≡ 0 → At R F Q t₀ e 0 s.log.undo s.log.redo s.text → In s.text s.cursor s.cursor → Inv R F Q t₀ s []
  inv s e k z c =
      record {
        here = record { chain = z.chain; text = z.text; allowed = z.allowed; groups = closed s.log.level s.log.undo k z.nested };
        goal = e;
        forth = z.chain';
        nested = z.nested';
        cursor = c;
        undo-numbers = z.numbers;
        redo-numbers = z.numbers';
      }

  -- its level is 0
  level_none : (s : State) → Inv R F Q t₀ s [] → s.log.level ≡ 0
  level_none s v = no_marks s.log.level s.log.undo v.here.groups

  -- ---- undo is answered by 0 or 1 and keeps the invariant
  pub undo_keeps : (C n : ℕ) (s : State) → Bound Q C → Inv R F Q t₀ s [] → (number_in (undo_out C n s) ≤ 1) × Inv R F Q t₀ (leaves (undo_out C n s) s) []
  unfolding undo_out
  undo_keeps C n s h v =
      let w = undo_walk C n s in
      let q = good R F Q C t₀ v.goal h s.log.undo s.log.redo (n - 1) 0 (step_state_of s) (at s v) v.cursor in
      (number-le w.stopped w.reached.undone q.runs, inv (undone_state w s.log.level) v.goal (level_none s v) q.at q.cursor)

  -- ---- and so does redo
  -- one unit redone never stops
  one-good : (C : ℕ) (s : State) → Bound Q C → (v : Inv R F Q t₀ s []) → Good R F Q v.goal t₀ (redo_walk C s)
  one-good C s h v = good R F Q C v.goal t₀ h s.log.redo s.log.undo 0 0 (step_state_of s) (at_turned R F Q (at s v)) v.cursor

  -- it keeps the invariant
  pub one_keeps : (C : ℕ) (s : State) → Bound Q C → Inv R F Q t₀ s [] → Inv R F Q t₀ (after_one C s) []
  one_keeps C s h v =
      let q = one-good C s h v in
      inv (after_one C s) v.goal (level_none s v) (at_turned R F Q q.at) q.cursor

  -- one unit, and then n
  redo_step : (C n : ℕ) (s : State) → Bound Q C → Inv R F Q t₀ s [] → redo_out C (suc n) s ≡ behind_number (number_of 0 (redo_walk C s).reached.undone) (redo_out C n (after_one C s))
  unfolding redo_out
  redo_step C n s h v = rw (one-good C s h v).runs

  -- by what it leaves
  redo_more : (C n : ℕ) (s : State) → Bound Q C → Inv R F Q t₀ s [] → after_redo C (suc n) s ≡ after_redo C n (after_one C s)
  redo_more C n s h v =
      ap (λ (o : Outcome State). leaves o s) (redo_step C n s h v)
      ∙ behind-leaves (number_of 0 (redo_walk C s).reached.undone) (redo_out C n (after_one C s)) s
      ∙ redo-leaves C n (after_one C s) s (after_one C s)

  -- n units
  pub redo_keeps : (C n : ℕ) (s : State) → Bound Q C → Inv R F Q t₀ s [] → (number_in (redo_out C n s) ≤ 1) × Inv R F Q t₀ (leaves (redo_out C n s) s) []
  unfolding redo_out
  redo_keeps C zero s h v = (omega arith, v)
  redo_keeps C (suc n) s h v =
      let i = redo_keeps C n (after_one C s) h (one_keeps C s h v) in (
        subst (λ (o : Outcome State). number_in o ≤ 1) (sym (redo_step C n s h v)) (behind-le (number_of 0 (redo_walk C s).reached.undone) (redo_out C n (after_one C s)) i.0),
        subst (λ (x : State). Inv R F Q t₀ x []) (sym (redo_more C n s h v)) i.1,
      )

  -- ---- the length of the text buffer has no say
  -- in undo
  pub undo_cap : (C C' n : ℕ) (s : State) → Bound Q C → Bound Q C' → Inv R F Q t₀ s [] → undo_out C n s ≡ undo_out C' n s
  unfolding undo_out
  undo_cap C C' n s h h' v = rw (walk_cap R F Q C C' t₀ v.goal h h' s.log.undo s.log.redo (n - 1) 0 (step_state_of s) (at s v))

  -- in one unit redone
  one_cap : (C C' : ℕ) (s : State) → Bound Q C → Bound Q C' → Inv R F Q t₀ s [] → after_one C s ≡ after_one C' s
  one_cap C C' s h h' v = rw (walk_cap R F Q C C' v.goal t₀ h h' s.log.redo s.log.undo 0 0 (step_state_of s) (at_turned R F Q (at s v)))

  -- in n units redone
  pub redo_cap : (C C' n : ℕ) (s : State) → Bound Q C → Bound Q C' → Inv R F Q t₀ s [] → leaves (redo_out C n s) s ≡ leaves (redo_out C' n s) s
  unfolding redo_out
  redo_cap C C' zero s h h' v = refl
  redo_cap C C' (suc n) s h h' v =
      redo_more C n s h v ∙ redo_cap C C' n (after_one C s) h h' (one_keeps C s h v) ∙ ap (after_redo C' n) (one_cap C C' s h h' v) ∙ sym (redo_more C' n s h' v)

  -- ---- n units and then m are n + m
  -- in one buffer
  sum : (C n m : ℕ) (s : State) → Bound Q C → Inv R F Q t₀ s [] → 1 ≤ n → 1 ≤ m → after_undo C m (after_undo C n s) ≡ after_undo C (n + m) s
  unfolding undo_out more forget
  sum C n m s h v i j =
      let w = undo_walk C n s in
      let e : n + m - 1 ≡ (n - 1) + suc (m - 1) = omega arith in
      rw (e, further R F Q C t₀ v.goal h (m - 1) s.log.undo s.log.redo (n - 1) 0 (step_state_of s) (at s v))
      (ap (λ (x : Walked). undone_state x s.log.level) (walk-undone C w.from w.to (m - 1) (owed 0) w.reached.text w.reached.cursor false w.reached.undone))

  -- in any
  pub undo-sum : (C C' C'' n m : ℕ) (s : State) → Bound Q C → Bound Q C' → Bound Q C'' → Inv R F Q t₀ s [] → 1 ≤ n → 1 ≤ m
      → leaves (undo_out C' m (leaves (undo_out C n s) s)) (leaves (undo_out C n s) s) ≡ leaves (undo_out C'' (n + m) s) s
  undo-sum C C' C'' n m s h h' h'' v i j =
      let s₁ = after_undo C n s in
      ap (λ (o : Outcome State). leaves o s₁) (undo_cap C' C m s₁ h' h (undo_keeps C n s h v).1)
      ∙ sum C n m s h v i j
      ∙ ap (λ (o : Outcome State). leaves o s) (undo_cap C C'' (n + m) s h h'' v)

  -- ---- units
  -- a unit is one record at least
  one_less : (C : ℕ) (s : State) (x : Change) (u : List Change) → Bound Q C → Inv R F Q t₀ s [] → s.log.undo ≡ x ∷ u → length (after_undo C 1 s).log.undo ≤ length u
  unfolding undo_out
  one_less C s x u h v q =
      rw q
      (walk_lt R F Q C t₀ v.goal h x u s.log.redo (1 - 1) 0 (step_state_of s) (subst (λ (l : List Change). At R F Q t₀ v.goal 0 l s.log.redo s.text) q (at s v)))

  -- N records or fewer have N units or fewer
  units-to : (C : ℕ) → Bound Q C → (N : ℕ) (u : List Change) (s : State) → s.log.undo ≡ u → length u ≤ N → Inv R F Q t₀ s [] → (k : ℕ) × (k ≤ N) × Units C k s
  unfolding Units
  units-to C h zero [] s q l v = (0, omega arith, q)
  units-to C h (suc N) [] s q l v = (0, omega arith, q)
  units-to C h zero (x ∷ u) s q l v = absurd (omega arith)
  units-to C h (suc N) (x ∷ u) s q l v =
      let s₁ = after_undo C 1 s in
      let r = units-to C h N s₁.log.undo s₁ refl (omega (arith, one_less C s x u h v q)) (undo_keeps C 1 s h v).1 in
      (suc r.0, omega (arith, r.1), ((λ e. nil≢cons (sym e ∙ q)), r.2))

  -- there are no more units than records
  pub units_are : (C : ℕ) (s : State) → Bound Q C → Inv R F Q t₀ s [] → (k : ℕ) × (k ≤ length s.log.undo) × Units C k s
  units_are C s h v = units-to C h (length s.log.undo) s.log.undo s refl (omega arith) v

  -- one, and then n
  undo_more : (C n : ℕ) (s : State) → Bound Q C → Inv R F Q t₀ s [] → after_undo C (suc (suc n)) s ≡ after_undo C (suc n) (after_undo C 1 s)
  undo_more C n s h v =
      let e : suc (suc n) ≡ 1 + suc n = omega arith in
      ap (λ (i : ℕ). after_undo C i s) e ∙ sym (sum C 1 (suc n) s h v (omega arith) (omega arith))

  -- an empty list stays empty
  pub nothing_left : (C n : ℕ) (s : State) → s.log.undo ≡ [] → (leaves (undo_out C n s) s).log.undo ≡ []
  unfolding undo_out walk
  nothing_left C n s q = rw q

  -- undo of as many units as there are empties the list
  pub in-one : (C k : ℕ) (s : State) → Bound Q C → Inv R F Q t₀ s [] → Units C k s → (leaves (undo_out C k s) s).log.undo ≡ []
  unfolding Units
  in-one C zero s h v q = nothing_left C 0 s q
  in-one C (suc zero) s h v q = q.1
  in-one C (suc (suc k)) s h v q =
      ap (λ (x : State). x.log.undo) (undo_more C k s h v) ∙ in-one C (suc k) (after_undo C 1 s) h (undo_keeps C 1 s h v).1 q.1

  -- ---- undo n, redo n
  abbrev with_cursor : State → ℕ → State
  with_cursor s c = record { text = s.text; cursor = c; log = s.log }

  -- a unit undone and redone, whatever the cursor between
  back_forth : (C : ℕ) (s : State) (u : List Change) → s.log.undo ≡ u → Bound Q C → Inv R F Q t₀ s [] → (s.log.undo ≡ [] → ⊥) → (c : ℕ)
      → (c' : ℕ) × (after_one C (with_cursor (after_undo C 1 s) c) ≡ with_cursor s c')
  unfolding undo_out WalkedBack
  back_forth C s [] q h v ne c = absurd (ne q)
  back_forth C s (x ∷ u) q h v ne c =
      let z = subst (λ (l : List Change). At R F Q t₀ v.goal 0 l s.log.redo s.text) q (at s v) in
      let e : 1 - 1 ≡ 0 = omega arith in
      let b : WalkedBack C 0 s.log.undo s.log.redo s.text (undo_walk C 1 s) = rw (e, q) (walk_back R F Q C t₀ v.goal h x u s.log.redo 0 (step_state_of s) z) in
      let r = b (record { text = []; cursor = c; undone = false }) in
      (r.0.cursor, ap (λ (w : Walked). redone_state w s.log.level) r.1)

  -- the last redo apart
  redo_last : (C n : ℕ) (s : State) → Bound Q C → Inv R F Q t₀ s [] → after_redo C (suc n) s ≡ after_one C (after_redo C n s)
  unfolding redo_out
  redo_last C zero s h v = redo_more C 0 s h v
  redo_last C (suc n) s h v =
      redo_more C (suc n) s h v ∙ redo_last C n (after_one C s) h (one_keeps C s h v) ∙ ap (after_one C) (sym (redo_more C n s h v))

  -- n + 1 units undone and redone in one buffer: all but the cursor is back
  round : (C n k : ℕ) (s : State) → Bound Q C → Inv R F Q t₀ s [] → Units C k s → suc n ≤ k → (c : ℕ) × (after_redo C (suc n) (after_undo C (suc n) s) ≡ with_cursor s c)
  unfolding Units redo_out
  round C n zero s h v q l = absurd (omega arith)
  round C zero (suc k) s h v q l =
      let s₁ = after_undo C 1 s in
      let b = back_forth C s s.log.undo refl h v q.0 s₁.cursor in
      (b.0, redo_last C 0 s₁ h (undo_keeps C 1 s h v).1 ∙ b.1)
  round C (suc n) (suc k) s h v q l =
      let s₁ = after_undo C 1 s in
      let v₁ = (undo_keeps C 1 s h v).1 in
      let i = round C n k s₁ h v₁ q.1 (omega arith) in
      let b = back_forth C s s.log.undo refl h v q.0 i.0 in (
        b.0,
        ap (after_redo C (suc (suc n))) (undo_more C n s h v)
            ∙ redo_last C (suc n) (after_undo C (suc n) s₁) h (undo_keeps C (suc n) s₁ h v₁).1
            ∙ ap (after_one C) i.1
            ∙ b.1,
      )

  -- in any buffer
  round_same : (C C' k n : ℕ) (s : State) → Bound Q C → Bound Q C' → Inv R F Q t₀ s [] → Units C k s → 1 ≤ n → n ≤ k → (c : ℕ) × (after_redo C' n (after_undo C n s) ≡ with_cursor s c)
  round_same C C' k zero s h h' v q l l' = absurd (omega arith)
  round_same C C' k (suc n) s h h' v q l l' =
      let r = round C n k s h v q l' in
      (r.0, redo_cap C' C (suc n) (after_undo C (suc n) s) h' h (undo_keeps C (suc n) s h v).1 ∙ r.1)

  -- text and both lists are back
  pub undo-redo : (C C' k n : ℕ) (s : State) → Bound Q C → Bound Q C' → Inv R F Q t₀ s [] → Units C k s → 1 ≤ n → n ≤ k
      → SameTextAndLog s (leaves (redo_out C' n (leaves (undo_out C n s) s)) (leaves (undo_out C n s) s))
  undo-redo C C' k n s h h' v q l l' =
      let e = (round_same C C' k n s h h' v q l l').1 in
      record {
        text = ap (λ (x : State). x.text) e;
        undo = ap (λ (x : State). x.log.undo) e;
        redo = ap (λ (x : State). x.log.redo) e;
        level = ap (λ (x : State). x.log.level) e;
      }

  -- ---- with nothing left to undo, the text is the first one
  pub first-text : (s : State) → Inv R F Q t₀ s [] → s.log.undo ≡ [] → s.text ≡ t₀
  first-text s v q = subst (λ (u : List Change). Chain R Q t₀ u s.text) q v.here.chain
