-- Demand 3, as one theorem about runs of the program, over any repertoire; and with 01's as the instance. Assumes nothing.
use Prim.Native.Nat.{ℕ, zero, suc, ◌+◌, ◌≤◌}
use native.Mathlib.Omega.{arith}
use mathlib.Core.Path.{◌≡◌, refl, sym, ap, ap₂, subst, ◌∙◌}
use mathlib.Core.Bool.{true, false}
use mathlib.Core.List.{List, [], ◌∷◌}
use lib.ListN.{length}
use Rattle.utf8.specs.Chars.{In}
use Rattle.repertoire.specs.Repertoire.{Repertoire, Lawful, catalogue}
use Rattle.repertoire.specs.Text.{is_text}
use Rattle.repertoire.proofs.Catalogue.{catalogue_lawful}
use Rattle.checks.specs.Checks.{own_tests}
use Rattle.checks.specs.Outcome.{Outcome, called, number_in, leaves}
use Rattle.checks.specs.declared.Line.{Line}
use Rattle.log_model.specs.Change.{Change}
use Rattle.log_model.specs.Groups as groups
use Rattle.formats.specs.declared.Format.{Format}
use Rattle.formats.specs.Formats.{log_format}
use Rattle.formats.proofs.Formats.{format-fit}
use Rattle.edit.specs.Plan.{State}
use Rattle.edit.specs.Calls.{Lent, format_of, text_of, checked, state_of}
use Rattle.edit.specs.declared.EditAnswer.{EditAnswer}
use Rattle.undo.specs.Undo.{undo_call, undo_out}
use Rattle.undo_redo.specs.Redo.{redo_call, redo_out}
use Rattle.calls.specs.CallContracts.{Buffers}
use Rattle.session.specs.Calls.{Call, undo, redo}
use Rattle.session.specs.Runs.{Sized, buffers_of, Step, AnyStep, left, SameText, SameLog, HandedOn, Run, left_by, open_after, Allowed}
use Rattle.session.specs.Runs.{Closed}
use Rattle.session.specs.Demand3.{Starts, undos, ones, AllAnswered, Emptied, Demand3}
use Rattle.session.proofs.Formats.{one_format, passes_in, MeetsIn, RunIn, run_in}
use Rattle.session.proofs.Values as values
use Rattle.session.proofs.Values.{Handed, lent_for, outcome_of, Units}
use Rattle.session.proofs.Invariant.{Bound, Inv}
use Rattle.session.proofs.Handed.{read-back, passes, few}
use Rattle.session.proofs.Units.{no_marks, undo_keeps, redo_keeps, undo_cap, redo_cap, units_are, in-one, nothing_left, undo-sum, undo-redo}
use Rattle.session.proofs.Units.{first-text}
use Rattle.session.proofs.Moves.{move_keeps}
use Rattle.session.proofs.Steps.{Short, inv_more, short_keeps}
use Rattle.session.proofs.Starts.{start_keeps, start-sized, start-stands}
use Rattle.session.proofs.HandOver.{Stands, text-is, none_emptied, emptied_none, same_text, same_log, handed_stands, handed_is}
use Rattle.session.proofs.HandOver.{handed_on, step_leaves, walked_leaves, edit-number, opened}

-- ---- from the start to the end of a run
module _ (R : Repertoire) (law : Lawful R) (F : Format) (one : (l : Lent) → format_of l ≡ F) (t₀ : List ℕ) where
  -- a call keeps the invariant of the state that stands in what it is handed
  step_kept : (l : Lent) (s : State) (g : List ℕ) (c : Call) (x : Step c) → Stands F s l → Inv R F (Short (length l.text)) t₀ s g → HandedOn l x.lent
      → MeetsIn R F c x.lent x.answer x.after → Allowed R c g
      → Stands F (leaves (outcome_of R F x.lent c) s) (left c x) × Inv R F (Short (length x.after.text)) t₀ (leaves (outcome_of R F x.lent c) s) (open_after c x g)
  step_kept l s g c x h v k m q =
      let b = x.lent in
      let C = length b.text in
      let hb = handed_stands F one s l b h k in
      let e = handed_is F one s l b h k in
      let on = handed_on F one s l b h k in
      let w = inv_more R (Short (length l.text)) (Short C) (λ t j. omega (arith, k.no_smaller.text)) F t₀ s g v in
      let is : state_of R F b ≡ s = ap (state_of R F) e ∙ read-back R F (Short C) t₀ (buffers_of l) s g w (buffers_of b) on in
      let text : is_text R (text_of b) ≡ true = subst (λ (y : State). is_text R y.text ≡ true) (sym is) w.here.text in
      let cursor : In (text_of b) b.line.cursor b.line.cursor = subst (λ (y : State). In y.text y.cursor y.cursor) (sym is) w.cursor in
      let len : b.line.len ≡ length (text_of b) = ap (λ (y : Line). y.len) hb.line ∙ ap length (sym (text-is F s b hb)) in
      let z = short_keeps R law F t₀ (buffers_of l) (buffers_of b) c s g on q v in
      let z₁ = subst (λ (y : Lent). Inv R F (Short C) t₀ (leaves (outcome_of R F y c) s) (values.open_after c (outcome_of R F y c) g)) (sym e) z in
      let z₂ = subst (Inv R F (Short C) t₀ (leaves (outcome_of R F b c) s)) (sym (opened R F c x g m)) z₁ in (
        step_leaves R F s c x hb is (λ y. move_keeps R F b text cursor len y) m,
        subst (λ (n : ℕ). Inv R F (Short n) t₀ (leaves (outcome_of R F b c) s) (open_after c x g)) (sym x.lengths.text) z₂,
      )

  -- and so does a run
  run_kept : (xs : List AnyStep) (l : Lent) (s : State) (g : List ℕ) → Stands F s l → Inv R F (Short (length l.text)) t₀ s g
      → Sized F (buffers_of l) → RunIn R F l xs → Closed R xs g
      → (s' : State) × Stands F s' (left_by l xs) × Inv R F (Short (length (left_by l xs).text)) t₀ s' [] × Sized F (buffers_of (left_by l xs))
  unfolding RunIn left_by Closed
  run_kept [] l s g h v z r c = (s, h, subst (Inv R F (Short (length l.text)) t₀ s) c v, z)
  run_kept (x ∷ xs) l s g h v z r c =
      let k = step_kept l s g x.0 x.1 h v r.0 r.1 c.0 in
      let n = x.1.lengths in
      let d = subst (λ (G : Format). Sized G (buffers_of x.1.lent)) (one x.1.lent) r.0.sized in
      run_kept xs (left x.0 x.1) (leaves (outcome_of R F x.1.lent x.0) s) (open_after x.0 x.1 g) k.0 k.1
      (record { text = omega (arith, n.text, d.text); records = omega (arith, n.records, d.records); texts = omega (arith, n.texts, d.texts) }) r.2 c.1

-- ---- at the end: undo and redo, from what was left
module _ (R : Repertoire) (F : Format) (Q : List ℕ → Type 0) (t₀ : List ℕ) where
  -- a call that is handed such a state passes its checks and finds the state
  called_on : (before : Buffers) (s : State) (b : Buffers) → Handed F before s b → Inv R F Q t₀ s [] → (f : State → Outcome State)
      → called (checked R F (lent_for F s b) (own_tests false false false)) (f (state_of R F (lent_for F s b))) ≡ f s
  called_on before s b h v f =
      rw (passes R F Q t₀ before s [] v b h (omega (arith, no_marks s.log.level s.log.undo v.here.groups))) (ap f (read-back R F Q t₀ before s [] v b h))

  -- undo
  undid_is : (before : Buffers) (s : State) (b : Buffers) (n : ℕ) → Handed F before s b → Inv R F Q t₀ s [] → undo_call R F (lent_for F s b) n ≡ undo_out (length b.text) n s
  undid_is before s b n h v = called_on before s b h v (undo_out (length b.text) n)

  -- redo
  redid_is : (before : Buffers) (s : State) (b : Buffers) (n : ℕ) → Handed F before s b → Inv R F Q t₀ s [] → redo_call R F (lent_for F s b) n ≡ redo_out (length b.text) n s
  redid_is before s b n h v = called_on before s b h v (redo_out (length b.text) n)

module _ (R : Repertoire) (F : Format) (one : (l : Lent) → format_of l ≡ F) (Q : List ℕ → Type 0) (t₀ : List ℕ) (C : ℕ) (top : Bound Q C) where
  -- a state without open groups stands in what was left, and no text of Q is longer than its buffer
  record Kept (l : Lent) (s : State) : Type 0 where
    stands : Stands F s l
    inv : Inv R F Q t₀ s []
    fits : Bound Q (length l.text)

  abbrev after_undo : ℕ → State → State
  after_undo n s = leaves (undo_out C n s) s

  abbrev after_redo : ℕ → State → State
  after_redo n s = leaves (redo_out C n s) s

  module _ (l : Lent) (s : State) (h : Kept l s) where
    -- no text of Q is longer than the next buffer
    fits_next : (b : Lent) → HandedOn l b → Bound Q (length b.text)
    fits_next b k t q = omega (arith, h.fits t q, k.no_smaller.text)

    -- an undo call is answered by 0 or 1, and leaves what undo leaves on values
    undone : (n : ℕ) (x : Step (undo n)) → HandedOn l x.lent → MeetsIn R F (undo n) x.lent x.answer x.after → (x.answer.number ≤ 1)
        × Kept (left (undo n) x) (after_undo n s)
    undone n x k m =
        let b = x.lent in
        let top' = fits_next b k in
        let v = h.inv in
        let o = outcome_of R F b (undo n) in
        let e : o ≡ undo_out C n s =
        ap (λ (y : Lent). undo_call R F y n) (handed_is F one s l b h.stands k)
        ∙ undid_is R F Q t₀ (buffers_of l) s (buffers_of b) n (handed_on F one s l b h.stands k) v
        ∙ undo_cap R F Q t₀ (length b.text) C n s top' top v in
        let u = undo_keeps R F Q t₀ C n s top v in (
          subst (λ (i : ℕ). i ≤ 1) (sym (ap (λ (r : EditAnswer). r.number) m.0.answer ∙ edit-number R F b o ∙ ap number_in e)) u.0,
          record {
            stands = walked_leaves R F s (after_undo n s) b o x.answer x.after (handed_stands F one s l b h.stands k) m (ap (λ (y : Outcome State). leaves y s) e);
            inv = u.1;
            fits = λ t q. omega (arith, top' t q, x.lengths.text);
          },
        )

    -- and so is a redo call
    redone : (n : ℕ) (x : Step (redo n)) → HandedOn l x.lent → MeetsIn R F (redo n) x.lent x.answer x.after → (x.answer.number ≤ 1)
        × Stands F (after_redo n s) (left (redo n) x)
    redone n x k m =
        let b = x.lent in
        let top' = fits_next b k in
        let v = h.inv in
        let o = outcome_of R F b (redo n) in
        let e : o ≡ redo_out (length b.text) n s =
        ap (λ (y : Lent). redo_call R F y n) (handed_is F one s l b h.stands k)
        ∙ redid_is R F Q t₀ (buffers_of l) s (buffers_of b) n (handed_on F one s l b h.stands k) v in
        let u = redo_keeps R F Q t₀ (length b.text) n s top' v in
        let i = ap (λ (y : Outcome State). leaves y s) e ∙ redo_cap R F Q t₀ (length b.text) C n s top' top v in (
          subst (λ (i : ℕ). i ≤ 1) (sym (ap (λ (r : EditAnswer). r.number) m.0.answer ∙ edit-number R F b o ∙ ap number_in e)) u.0,
          walked_leaves R F s (after_redo n s) b o x.answer x.after (handed_stands F one s l b h.stands k) m i,
        )

  -- ---- undoing to the end
  to-end : (xs : List ((n : ℕ) × Step (undo n))) (l : Lent) (s : State) → Kept l s → RunIn R F l (undos xs) → AllAnswered xs × ((s' : State) × Kept (left_by l (undos xs)) s')
  unfolding RunIn left_by
  to-end [] l s h r = (tt, (s, h))
  to-end (x ∷ xs) l s h r =
      let u = undone l s h x.0 x.1 r.0 r.1 in
      let i = to-end xs (left (undo x.0) x.1) (after_undo x.0 s) u.1 r.2 in
      ((u.0, i.0), i.1)

  -- ---- the units, by the undo calls with n = 1 that empty the list
  counted : (xs : List (Step (undo 1))) (l : Lent) (s : State) (k : ℕ) → Kept l s → Units C k s → RunIn R F l (ones xs)
      → (Emptied (left_by l (ones xs)) → k ≤ length xs) × (k ≤ length xs → Emptied (left_by l (ones xs)))
  unfolding RunIn left_by Units
  counted [] l s zero h u r = ((λ e. omega arith), (λ e. none_emptied F s l h.stands u))
  counted [] l s (suc k) h u r = ((λ e. absurd (u.0 (emptied_none F s l h.stands e))), (λ e. absurd (omega arith)))
  counted (x ∷ xs) l s zero h u r =
      let i = counted xs (left (undo 1) x) (after_undo 1 s) 0 (undone l s h 1 x r.0 r.1).1 (nothing_left R F Q t₀ C 1 s u) r.2 in
      ((λ e. omega arith), (λ e. i.1 (omega arith)))
  counted (x ∷ xs) l s (suc k) h u r =
      let i = counted xs (left (undo 1) x) (after_undo 1 s) k (undone l s h 1 x r.0 r.1).1 u.1 r.2 in
      ((λ e. let j = i.0 e in omega arith), (λ e. i.1 (omega arith)))

  module _ (l₀ l : Lent) (s₀ s : State) (h₀ : Stands F s₀ l₀) (first : s₀.text ≡ t₀) (h : Kept l s) where
    -- undo, and redo of the same
    round : (k n : ℕ) → Units C k s → (x : Step (undo n)) (y : Step (redo n)) → 1 ≤ n → n ≤ k → RunIn R F l ((undo n, x) ∷ (redo n, y) ∷ [])
        → (x.answer.number ≤ 1) × (y.answer.number ≤ 1) × SameText l (left (redo n) y) × SameLog l (left (redo n) y)
    unfolding RunIn
    round k n u x y i j r =
        let p = undone l s h n x r.0 r.1 in
        let q = redone (left (undo n) x) (after_undo n s) p.1 n y r.2.0 r.2.1 in
        let e = undo-redo R F Q t₀ C C k n s top top h.inv u i j in (
          p.0,
          q.0,
          same_text F s _ l _ h.stands q.1 e.text,
          same_log F s _ l _ h.stands q.1
              (log_back (after_redo n (after_undo n s)).log s.log e.undo e.redo e.level),
        )
      where
        log_back : (a b : groups.Log) → a.undo ≡ b.undo → a.redo ≡ b.redo → a.level ≡ b.level → a ≡ b
        log_back a b p q r = ap₂ (λ (u v : List Change). record { undo = u; redo = v; level = a.level }) p q
            ∙ ap (λ (i : ℕ). record { undo = b.undo; redo = b.redo; level = i }) r

    -- undo n then m
    sum : (n m : ℕ) (x : Step (undo n)) (y : Step (undo m)) (z : Step (undo (n + m))) → 1 ≤ n → 1 ≤ m → RunIn R F l ((undo n, x) ∷ (undo m, y) ∷ [])
        → RunIn R F l ((undo (n + m), z) ∷ [])
        → (x.answer.number ≤ 1) × (y.answer.number ≤ 1) × (z.answer.number ≤ 1)
        × SameText (left (undo m) y) (left (undo (n + m)) z) × (z.answer.line ≡ y.answer.line) × SameLog (left (undo m) y) (left (undo (n + m)) z)
    unfolding RunIn
    sum n m x y z i j r r' =
        let p = undone l s h n x r.0 r.1 in
        let q = undone (left (undo n) x) (after_undo n s) p.1 m y r.2.0 r.2.1 in
        let w = undone l s h (n + m) z r'.0 r'.1 in
        let a = q.1.stands in
        let b = w.1.stands in
        let e = sym (undo-sum R F Q t₀ C C C n m s top top top h.inv i j) in (
          p.0,
          q.0,
          w.0,
          same_text F _ _ _ _ a b (ap (λ (x : State). x.text) e),
          b.line ∙ ap (λ (x : State). record { len = length x.text; cursor = x.cursor }) e ∙ sym a.line,
          same_log F _ _ _ _ a b (ap (λ (x : State). x.log) e),
        )

    -- all of it, for runs in their own formats
    demanded : ((xs : List AnyStep) (l : Lent) → Run R l xs → RunIn R F l xs) → length s.log.undo ≤ 65535 → Demand3 R l₀ l
    unfolding RunIn left_by
    demanded in-one-format some =
        let u = units_are R F Q t₀ C s top h.inv in
        let k = u.0 in
        record {
          to_end = λ xs r.
              let e = to-end xs l s h (in-one-format (undos xs) l r) in
              let d = e.1.1 in (
                e.0,
                (λ z. same_text F s₀ e.1.0 l₀ (left_by l (undos xs)) h₀ d.stands
                    (first-text R F Q t₀ e.1.0 d.inv (emptied_none F e.1.0 (left_by l (undos xs)) d.stands z) ∙ sym first)),
              );
          units = k;
          counted = λ xs r. counted xs l s k h u.2 (in-one-format (ones xs) l r);
          few = omega (arith, u.1);
          in_one = λ x r.
              let q = in-one-format ((undo k, x) ∷ []) l r in
              let d = (undone l s h k x q.0 q.1).1 in
              none_emptied F (after_undo k s) (left (undo k) x) d.stands (in-one R F Q t₀ C k s top h.inv u.2);
          round = λ n x y i j r. round k n u.2 x y i j (in-one-format ((undo n, x) ∷ (redo n, y) ∷ []) l r);
          sum = λ n m x y z i j r r'. sum n m x y z i j (in-one-format ((undo n, x) ∷ (undo m, y) ∷ []) l r) (in-one-format ((undo (n + m), z) ∷ []) l r');
        }

-- ---- after every run, from an empty log at level 0 and any text, cursor and buffers that the checks pass
pub demand_3 : (R : Repertoire) → Lawful R → (l : Lent) → Starts R l → (xs : List AnyStep) → Run R l xs → Closed R xs [] → Demand3 R l (left_by l xs)
demand_3 R law l z xs r c =
    let F = log_format in
    let p = passes_in R l z in
    let e = run_kept R law F one_format (text_of l) xs l (state_of R F l) [] (start-stands R F l z p) (start_keeps R F l z p) (start-sized R F l z p) (run_in R xs l r) c in
    let s = e.0 in
    let b = left_by l xs in
    let C = length b.text in
    let on : Handed F (buffers_of b) s (buffers_of b) =
    record { stored = e.1.stored; no_smaller = record { text = omega arith; records = omega arith; texts = omega arith }; sized = e.3 } in
    demanded R F one_format (Short C) (text_of l) C (λ t k. k) l b (state_of R F l) s (start-stands R F l z p) refl
    (record { stands = e.1; inv = e.2; fits = λ t k. k }) (run_in R)
    (omega (arith, few R F (Short C) (text_of l) (buffers_of b) s [] e.2 (buffers_of b) on (format-fit 0).records))

-- 01's repertoire
pub demand_3_catalogue : (l : Lent) → Starts catalogue l → (xs : List AnyStep) → Run catalogue l xs → Closed catalogue xs [] → Demand3 catalogue l (left_by l xs)
demand_3_catalogue = demand_3 catalogue catalogue_lawful
