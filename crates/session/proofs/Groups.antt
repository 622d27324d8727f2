-- begin, end and last_insert keep the invariant. Assumes nothing.
use Prim.Native.Nat.{ℕ, zero, suc, ◌+◌, ◌<◌}
use native.Mathlib.Omega.{arith}
use mathlib.Core.Path.{◌≡◌, refl, sym, ap, subst}
use mathlib.Core.Bool.{Bool, true, false, cond, ◌&&◌}
use mathlib.Core.List.{List, [], ◌∷◌}
use mathlib.Core.Option.{Option, some, none}
use lib.Dec.{ltb}
use lib.ListN.{length}
use borrow.Author.Tests.{lt-leb, ne_eqb}
use Rattle.lists.proofs.Bools.{and_both, by_test}
use Rattle.repertoire.specs.Repertoire.{Repertoire}
use Rattle.checks.specs.Checks.{Tests, later_number, refusal, both, own_tests}
use Rattle.checks.specs.Outcome.{Outcome, refused, called, leaves}
use Rattle.log_model.specs.Change.{Change, begin, end, edit}
use Rattle.formats.specs.declared.Format.{Format}
use Rattle.log_model.specs.Groups.{Log, end_all, ends_any, ended}
use Rattle.log_model.specs.UndoBytes.{Places, all_numbers_fit, fits, last_insert_at}
use Rattle.log_state.specs.Logs.{log_tests}
use Rattle.log_state.specs.Outcomes.{begin_out, end_out, places_out, last_insert_out}
use Rattle.log_state.specs.Calls as logs
use Rattle.edit.specs.Plan.{State}
use Rattle.edit.specs.Calls.{Lent, log_lent, sizes_of, state_of}
use Rattle.calls.specs.Calls.{Asked, logged_by, outcome_of}
use Rattle.calls.specs.Calls as calls
use Rattle.session.specs.Calls.{Call, asked}
use Rattle.session.proofs.Values.{open_after}
use Rattle.session.proofs.Invariant.{Nest, Open, Groups, Chain, Inv, no_redo}

-- ---- end's loop
-- a list that has no Begin on top
abbrev NotBegin : List Change → Type 0
NotBegin [] = Unit {0}
NotBegin (begin ∷ u) = ⊥
NotBegin (end ∷ u) = Unit {0}
NotBegin (edit x ∷ u) = Unit {0}

-- where no Begin stands on top, each level puts an End
ends_nest : (k : ℕ) (u : List Change) → Nest k u → NotBegin u → Nest 0 (end_all k u)
unfolding end_all
ends_nest zero u h b = h
ends_nest (suc k) [] h b = absurd (omega arith)
ends_nest (suc k) (begin ∷ u) h b = absurd b
ends_nest (suc k) (end ∷ u) h b = ends_nest k (end ∷ end ∷ u) h tt
ends_nest (suc k) (edit x ∷ u) h b = ends_nest k (end ∷ edit x ∷ u) h tt

-- as many Ends as groups are open would close them
pub open_nest : (k : ℕ) (u : List Change) → Open k u → Nest k u
open_nest zero u h = h
open_nest (suc k) [] h = absurd h
open_nest (suc k) (begin ∷ u) h = open_nest k u h
open_nest (suc k) (end ∷ u) h = absurd h
open_nest (suc k) (edit x ∷ u) h = open_nest (suc k) u h

-- end closes the open groups
pub end_closes : (k : ℕ) (u : List Change) → Open k u → Nest 0 (end_all k u)
unfolding end_all
end_closes zero u h = h
end_closes (suc k) [] h = absurd h
end_closes (suc k) (begin ∷ u) h = end_closes k u h
end_closes (suc k) (end ∷ u) h = absurd h
end_closes (suc k) (edit x ∷ u) h = ends_nest k (end ∷ edit x ∷ u) (open_nest (suc k) u h) tt

-- and the list leads where it led
pub end_chain : (R : Repertoire) (Q : List ℕ → Type 0) (e : List ℕ) (k : ℕ) (u : List Change) (t : List ℕ) → Chain R Q e u t → Chain R Q e (end_all k u) t
unfolding end_all
end_chain R Q e zero u t h = h
end_chain R Q e (suc k) [] t h = end_chain R Q e k (end ∷ []) t h
end_chain R Q e (suc k) (begin ∷ u) t h = end_chain R Q e k u t h
end_chain R Q e (suc k) (end ∷ u) t h = end_chain R Q e k (end ∷ end ∷ u) t h
end_chain R Q e (suc k) (edit x ∷ u) t h = end_chain R Q e k (end ∷ edit x ∷ u) t h

-- ---- a refusal by a check
-- met or not, a test of a number over 1 does not give 1
later : (b : Bool) (n m : ℕ) → 1 < n → (m ≡ 1 → ⊥) → cond b n m ≡ 1 → ⊥
later true n m h f e = omega arith
later false n m h f e = f e

order_number : (k : ℕ) → later_number k ≡ 1 → ⊥
order_number zero e = omega arith
order_number (suc k) e = omega arith

-- a check refuses by 2 or more
pub not-one : (t : Tests) → refusal t ≡ 1 → ⊥
unfolding refusal
not-one t =
    later t.sizes 2 _ (omega arith)
    (later t.code 3 _ (omega arith)
    (later t.foreign 4 _ (omega arith)
    (later t.place 5 _ (omega arith)
    (later t.split 6 _ (omega arith)
    (later t.prompt 7 _ (omega arith)
    (later t.damaged 8 _ (omega arith) (order_number t.later)))))))

module _ (R : Repertoire) (F : Format) (Q : List ℕ → Type 0) (t₀ : List ℕ) where
  -- the invariant of what an outcome leaves of a state, with the groups that are open then
  abbrev pub KeepsCall : Call → Outcome State → State → List ℕ → Type 0
  KeepsCall c o s g = Inv R F Q t₀ (leaves o s) (open_after c o g)

  abbrev pub Keeps : Asked → Outcome State → State → List ℕ → Type 0
  Keeps a o s g = KeepsCall (asked a) o s g

  -- a refusal by 2 or more changes nothing, and opens and closes no group
  pub refused_keeps : (a : Asked) (k : ℕ) (s : State) (g : List ℕ) → Inv R F Q t₀ s g → Keeps a (refused (suc (suc k))) s g
  refused_keeps (calls.edit x) k s g v = v
  refused_keeps (calls.move x) k s g v = v
  refused_keeps (calls.log calls.begin) k s g v = rw (lt-leb (suc (suc k)) 1 (omega arith)) v
  refused_keeps (calls.log calls.end) k s g v = rw (lt-leb (suc (suc k)) 1 (omega arith)) v
  refused_keeps (calls.log calls.last_insert) k s g v = v
  refused_keeps (calls.undo n) k s g v = v
  refused_keeps (calls.redo n) k s g v = v
  refused_keeps (calls.cancel m) k s g v = rw (ne_eqb (suc (suc k)) 0 (λ e. omega arith)) v

  -- ---- on the log that the lent bytes hold
  module _ (l : Lent) (g : List ℕ) (v : Inv R F Q t₀ (state_of R F l) g) where
    abbrev s : State
    s = state_of R F l

    abbrev level : ℕ
    level = s.log.level

    abbrev u : List Change
    u = s.log.undo

    -- a Begin on top is one group more, and its mark the number of records before it
    opened : Groups level g u → Groups (level + 1) (length u ∷ g) (begin ∷ u)
    opened h =
        let e : level + 1 ≡ suc level = omega arith in
        rw e (record { opened = h.opened; marks = ap (λ (m : List ℕ). length u ∷ m) h.marks })

    -- a Begin: check 10, then a group open with its mark
    begin-made : Keeps (calls.log calls.begin) (logged_by R F l (begin_out F (sizes_of l) s.log)) s g
    unfolding begin_out fits all_numbers_fit
    begin-made =
        by_test (Keeps (calls.log calls.begin) (logged_by R F l (begin_out F (sizes_of l) s.log)) s g) (ltb level 255 && fits F (sizes_of l) (begin ∷ u))
        (λ e. rw e
        (no_redo R F Q t₀ _ _ _ _ _ (record {
          chain = v.here.chain;
          text = v.here.text;
          allowed = v.here.allowed;
          groups = opened
              v.here.groups;
        }) v.cursor v.undo-numbers))
        (λ e. rw e v)

    -- the Ends: check 10, then no group open, whether one was put or not
    end-made : Keeps (calls.log calls.end) (logged_by R F l (end_out F (sizes_of l) s.log)) s g
    unfolding end_out fits
    end-made =
        by_test (Keeps (calls.log calls.end) (logged_by R F l (end_out F (sizes_of l) s.log)) s g) (fits F (sizes_of l) (end_all level u))
        (λ e. by_test (Keeps (calls.log calls.end) (logged_by R F l (end_out F (sizes_of l) s.log)) s g) (ends_any level u) (λ f. rw (e, f) (left e)) (λ f. rw (e, f) (left e)))
        (λ e. rw e v)
      where
        left : fits F (sizes_of l) (end_all level u) ≡ true → Inv R F Q t₀ (record { text = s.text; cursor = s.cursor; log = ended s.log }) []
        left e =
            no_redo R F Q t₀ s.text s.cursor 0 (end_all level u) []
            (record {
              chain = end_chain R Q t₀ level u s.text v.here.chain;
              text = v.here.text;
              allowed = v.here.allowed;
              groups = record { opened = end_closes level u v.here.groups.opened; marks = refl };
            })
            v.cursor (and_both (all_numbers_fit F.width (end_all level u)) _ e).0

    -- places found or none: all is as it was
    last_insert-made : (p : Option Places) → Keeps (calls.log calls.last_insert) (logged_by R F l (places_out p s.log)) s g
    last_insert-made none = v
    last_insert-made (some p) = v

  -- ---- the calls
  module _ (l : Lent) (s : State) (g : List ℕ) (is : state_of R F l ≡ s) (v : Inv R F Q t₀ s g) where
    -- the invariant of what the lent bytes hold
    abbrev invariant : Inv R F Q t₀ (state_of R F l) g
    invariant = subst (λ (x : State). Inv R F Q t₀ x g) (sym is) v

    -- refused by 2 or more, or what the call does
    pub by_checks : (a : Asked) (n : ℕ) (o : Outcome State) → (n ≡ 1 → ⊥) → (n ≡ 0 → Keeps a o (state_of R F l) g) → Keeps a (called n o) s g
    by_checks a zero o h k = subst (λ (x : State). Keeps a o x g) is (k refl)
    by_checks a (suc zero) o h k = absurd (h refl)
    by_checks a (suc (suc n)) o h k = refused_keeps a n s g v

    -- the log's refusals are the call's
    logged : (n : ℕ) (o : Outcome Log) → called n (logged_by R F l o) ≡ logged_by R F l (called n o)
    logged zero o = refl
    logged (suc n) o = refl

    -- so by the checks of a lent log
    checked_keeps : (a : Asked) (o : Outcome Log) → Keeps a (logged_by R F l o) (state_of R F l) g → Keeps a (logged_by R F l (called (logs.checked R F (log_lent l) false) o)) s g
    checked_keeps a o k =
        let n = logs.checked R F (log_lent l) false in
        subst (λ (x : Outcome State). Keeps a x s g) (logged n o) (by_checks a n (logged_by R F l o)
        (not-one (both (log_tests R F l.log l.records l.texts) (own_tests false false false))) (λ e. k))

    -- begin opens a group with the mark that it answers
    pub begin_keeps : Keeps (calls.log calls.begin) (outcome_of R F l (calls.log calls.begin)) s g
    begin_keeps = checked_keeps (calls.log calls.begin) (begin_out F (sizes_of l) (state_of R F l).log) (begin-made l g invariant)

    -- end closes all groups
    pub end_keeps : Keeps (calls.log calls.end) (outcome_of R F l (calls.log calls.end)) s g
    end_keeps = checked_keeps (calls.log calls.end) (end_out F (sizes_of l) (state_of R F l).log) (end-made l g invariant)

    -- last_insert changes nothing
    pub last_insert_keeps : Keeps (calls.log calls.last_insert) (outcome_of R F l (calls.log calls.last_insert)) s g
    last_insert_keeps = checked_keeps (calls.log calls.last_insert) (last_insert_out (state_of R F l).log) (last_insert-made l g invariant (last_insert_at (state_of R F l).log.undo))
