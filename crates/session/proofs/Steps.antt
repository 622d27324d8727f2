-- Every call keeps the invariant. Q is what holds of every text on the way. Assumes nothing.
use Prim.Native.Nat.{ℕ, ◌≤◌}
use native.Mathlib.Omega.{arith}
use mathlib.Core.Path.{◌≡◌, sym, ap, subst}
use mathlib.Core.Bool.{true, false}
use mathlib.Core.List.{List, [], ◌∷◌}
use mathlib.Core.Option.{some}
use lib.ListN.{length}
use Rattle.utf8.specs.Chars.{In}
use Rattle.repertoire.specs.Repertoire.{Repertoire, Lawful}
use Rattle.repertoire.specs.Text.{is_text}
use Rattle.checks.specs.Checks.{both, line_tests, own_tests}
use Rattle.checks.specs.Outcome.{Outcome, called, leaves}
use Rattle.log_model.specs.Change.{Change, begin as Change·begin, end as Change·end, edit as Change·edit}
use Rattle.formats.specs.declared.Format.{Format}
use Rattle.log_state.specs.Logs.{log_tests}
use Rattle.edit.specs.Plan.{PlannedChange, made, State}
use Rattle.edit.specs.Calls.{Lent, text_of, sizes_of, checked, state_of}
use Rattle.undo.specs.Undo.{undo_out}
use Rattle.undo_redo.specs.Redo.{redo_out}
use Rattle.undo_cancel.specs.Cancel.{cancel_out}
use Rattle.calls.specs.Calls.{EditCall, edit_outcome, Asked, edit, move, log, begin, end, last_insert, undo, redo, cancel}
use Rattle.calls.specs.Calls as calls
use Rattle.calls.specs.CallContracts.{Buffers}
use Rattle.kill_ring.specs.Calls as rings
use Rattle.key_press.specs.declared.Press.{Press}
use Rattle.key_press.specs.Keys.{press_of}
use Rattle.key_model.specs.Stands.{stands_for}
use Rattle.key_model.specs.Keyed.{on_line}
use Rattle.key_model.proofs.Lines.{key-line}
use Rattle.session.specs.Calls.{Call, asked, key}
use Rattle.session.specs.Runs.{AllowedKey, Allowed}
use Rattle.session.proofs.Values.{Handed, lent_for, outcome_of, open_after}
use Rattle.session.proofs.Invariant.{Bound, Chain, Inv}
use Rattle.session.proofs.Handed.{read-back}
use Rattle.session.proofs.Recorded.{Answered, New, plan_keeps}
use Rattle.session.proofs.Plans.{planned}
use Rattle.session.proofs.Moves.{moved_keeps}
use Rattle.session.proofs.Groups.{not-one, KeepsCall, Keeps, by_checks, begin_keeps, end_keeps, last_insert_keeps}
use Rattle.session.proofs.Keys.{on-line}
use Rattle.session.proofs.Units.{undo_keeps, redo_keeps}
use Rattle.session.proofs.Cancel.{cancel_keeps}

-- ---- what holds of fewer texts holds of more
module _ (R : Repertoire) (Q Q' : List ℕ → Type 0) (more : (t : List ℕ) → Q t → Q' t) where
  chain_more : (e : List ℕ) (u : List Change) (t : List ℕ) → Chain R Q e u t → Chain R Q' e u t
  chain_more e [] t c = c
  chain_more e (Change·begin ∷ u) t c = chain_more e u t c
  chain_more e (Change·end ∷ u) t c = chain_more e u t c
  chain_more e (Change·edit x ∷ u) t c =
      let l = c.1 in (
        c.0,
        record {
          before = l.before;
          behind = l.behind;
          here = l.here;
          there = l.there;
          place = l.place;
          before_text = l.before_text;
          behind-text = l.behind-text;
          old-text = l.old-text;
          new-text = l.new-text;
          first = more c.0 l.first;
          second = more t l.second;
        },
        chain_more e u c.0 c.2,
      )

  pub inv_more : (F : Format) (t₀ : List ℕ) (s : State) (g : List ℕ) → Inv R F Q t₀ s g → Inv R F Q' t₀ s g
  inv_more F t₀ s g v =
      record {
        here = record {
          chain = chain_more t₀ s.log.undo s.text v.here.chain;
          text = v.here.text;
          allowed = more s.text
              v.here.allowed;
          groups = v.here.groups;
        };
        goal = v.goal;
        forth = chain_more v.goal s.log.redo s.text v.forth;
        nested = v.nested;
        cursor = v.cursor;
        undo-numbers = v.undo-numbers;
        redo-numbers = v.redo-numbers;
      }

-- ---- a call
-- the texts that a call of 01 leads to are of Q: those of an edit that is not refused, change by change; no other call makes a text
abbrev pub NewByAsked : (R : Repertoire) → Lawful R → Format → (List ℕ → Type 0) → Lent → Asked → Type 0
NewByAsked R law F Q l (edit x) =
    (v : is_text R (text_of l) ≡ true) (i : In (text_of l) l.line.cursor l.line.cursor) (len : l.line.len ≡ length (text_of l)) → Answered (edit_outcome R F l x)
    → New Q (length l.text) (planned R law F l v i len x).plan.changes (text_of l)
NewByAsked R law F Q l (move x) = Unit {0}
NewByAsked R law F Q l (log x) = Unit {0}
NewByAsked R law F Q l (undo n) = Unit {0}
NewByAsked R law F Q l (redo n) = Unit {0}
NewByAsked R law F Q l (cancel m) = Unit {0}

-- a key leads to those of its call on the line
abbrev pub NewBy : (R : Repertoire) → Lawful R → Format → (List ℕ → Type 0) → Lent → Call → Type 0
NewBy R law F Q l (asked a) = NewByAsked R law F Q l a
NewBy R law F Q l (key k h) = (a : Asked) → on_line R F l h (stands_for (press_of R k)) ≡ some a → NewByAsked R law F Q l a

module _ (R : Repertoire) (law : Lawful R) (F : Format) (Q : List ℕ → Type 0) (t₀ : List ℕ) where
  module _ (l : Lent) (s : State) (g : List ℕ) (is : state_of R F l ≡ s) (len : l.line.len ≡ length (text_of l)) (v : Inv R F Q t₀ s g) where
    invariant : Inv R F Q t₀ (state_of R F l) g
    invariant = subst (λ (x : State). Inv R F Q t₀ x g) (sym is) v

    -- an edit, where the texts that it leads to are of Q
    edit_keeps : (x : EditCall) → NewByAsked R law F Q l (edit x) → Keeps R F Q t₀ (edit x) (edit_outcome R F l x) s g
    edit_keeps x n =
        let p = planned R law F l invariant.here.text invariant.cursor len x in
        subst (λ (o : Outcome State). Keeps R F Q t₀ (edit x) o s g) (sym p.is)
        (by_checks R F Q t₀ l s g is v (edit x) (checked R F l p.own) _
        (not-one (both (line_tests R F l.text l.line) (both (log_tests R F l.log l.records l.texts) p.own)))
        (λ e.
        plan_keeps R F Q t₀ (sizes_of l) (length l.text) p.plan (state_of R F l) g
        (λ q. n invariant.here.text invariant.cursor len (subst Answered (sym p.is) (rw e q))) (p.suits e).0 (p.suits e).1 invariant))

    -- a call of the log that is lent the text too
    log_keeps : (a : Asked) (f : State → Outcome State) → Keeps R F Q t₀ a (f (state_of R F l)) (state_of R F l) g
        → Keeps R F Q t₀ a (called (checked R F l (own_tests false false false)) (f (state_of R F l))) s g
    log_keeps a f k = by_checks R F Q t₀ l s g is v a (checked R F l (own_tests false false false)) (f (state_of R F l))
        (not-one (both (line_tests R F l.text l.line) (both (log_tests R F l.log l.records l.texts) (own_tests false false false)))) (λ e. k)

    -- each call of 01, where the texts that it leads to are of Q
    asked_keeps : Bound Q (length l.text) → (a : Asked) → NewByAsked R law F Q l a → Allowed R (asked a) g → Keeps R F Q t₀ a (calls.outcome_of R F l a) s g
    asked_keeps b (edit x) n q = edit_keeps x n
    asked_keeps b (move x) n q = moved_keeps R F l invariant.here.text invariant.cursor len Q t₀ s g v is x
    asked_keeps b (log begin) n q = begin_keeps R F Q t₀ l s g is v
    asked_keeps b (log end) n q = end_keeps R F Q t₀ l s g is v
    asked_keeps b (log last_insert) n q = last_insert_keeps R F Q t₀ l s g is v
    asked_keeps b (undo i) n q =
        log_keeps (undo i) (undo_out (length l.text) i) (subst (Inv R F Q t₀ (leaves (undo_out (length l.text) i (state_of R F l)) (state_of R F l))) (sym q)
        (undo_keeps R F Q t₀ (length l.text) i (state_of R F l) b (subst (Inv R F Q t₀ (state_of R F l)) q invariant)).1)
    asked_keeps b (redo i) n q =
        log_keeps (redo i) (redo_out (length l.text) i) (subst (Inv R F Q t₀ (leaves (redo_out (length l.text) i (state_of R F l)) (state_of R F l))) (sym q)
        (redo_keeps R F Q t₀ (length l.text) i (state_of R F l) b (subst (Inv R F Q t₀ (state_of R F l)) q invariant)).1)
    asked_keeps b (cancel m) n q = log_keeps (cancel m) (cancel_out (length l.text) m) (cancel_keeps R F Q t₀ (length l.text) m (state_of R F l) g b invariant)

    -- a key: what its call on the line keeps
    key_keeps : Bound Q (length l.text) → (k : List ℕ) (h : rings.Lent) → NewBy R law F Q l (key k h) → AllowedKey (press_of R k) g
        → KeepsCall R F Q t₀ (key k h) (outcome_of R F l (key k h)) s g
    key_keeps b k h n q =
        key-line (λ (o : Outcome State). Inv R F Q t₀ (leaves o s) g) (λ i. v) R F l h (λ i. invariant) k
        (λ a e.
        on-line R F l h (λ (a : Asked). NewByAsked R law F Q l a → Inv R F Q t₀ (leaves (calls.outcome_of R F l a) s) g)
        (λ x m. asked_keeps b (edit x) m tt) (λ x m. asked_keeps b (move x) m tt) (press_of R k)
        (λ i z m. asked_keeps b (undo i) m (subst (λ (w : Press). AllowedKey w g) z q)) a e (n a e))

    -- each call of the list
    pub keeps : Bound Q (length l.text) → (c : Call) → NewBy R law F Q l c → Allowed R c g → KeepsCall R F Q t₀ c (outcome_of R F l c) s g
    keeps b (asked a) n q = asked_keeps b a n q
    keeps b (key k h) n q = key_keeps b k h n q

-- ---- a call of a run
-- Q is what holds of the texts before it, Q' of those and of the texts that it leads to
pub step_keeps : (R : Repertoire) (law : Lawful R) (F : Format) (Q Q' : List ℕ → Type 0) (t₀ : List ℕ) (b b' : Buffers) (c : Call) (s : State)
    (g : List ℕ) → Handed F b s b' → Allowed R c g
    → ((t : List ℕ) → Q t → Q' t) → Bound Q' (length b'.text) → NewBy R law F Q' (lent_for F s b') c → Inv R F Q t₀ s g
    → Inv R F Q' t₀ (leaves (outcome_of R F (lent_for F s b') c) s) (open_after c (outcome_of R F (lent_for F s b') c) g)
step_keeps R law F Q Q' t₀ b b' c s g h q more top n v =
    let w = inv_more R Q Q' more F t₀ s g v in
    keeps R law F Q' t₀ (lent_for F s b') s g (read-back R F Q' t₀ b s g w b' h) (ap length (sym h.stored.text)) w top c n q

-- no longer than a buffer of so many bytes
abbrev pub Short : ℕ → List ℕ → Type 0
Short C t = length t ≤ C

new_short : (C : ℕ) (xs : List PlannedChange) (t : List ℕ) → New (Short C) C xs t
new_short C [] t = tt
new_short C (x ∷ xs) t = ((λ h. h), new_short C xs (made x t))

all_short_asked : (R : Repertoire) (law : Lawful R) (F : Format) (l : Lent) (a : Asked) → NewByAsked R law F (Short (length l.text)) l a
all_short_asked R law F l (edit x) = λ v i len q. new_short (length l.text) (planned R law F l v i len x).plan.changes (text_of l)
all_short_asked R law F l (move x) = tt
all_short_asked R law F l (log x) = tt
all_short_asked R law F l (undo n) = tt
all_short_asked R law F l (redo n) = tt
all_short_asked R law F l (cancel m) = tt

all_short : (R : Repertoire) (law : Lawful R) (F : Format) (l : Lent) (c : Call) → NewBy R law F (Short (length l.text)) l c
all_short R law F l (asked a) = all_short_asked R law F l a
all_short R law F l (key k h) = λ a e. all_short_asked R law F l a

-- every text fits the buffer that is lent
pub short_keeps : (R : Repertoire) → Lawful R → (F : Format) (t₀ : List ℕ) (b b' : Buffers) (c : Call) (s : State) (g : List ℕ) → Handed F b s b'
    → Allowed R c g → Inv R F (Short (length b.text)) t₀ s g
    → Inv R F (Short (length b'.text)) t₀ (leaves (outcome_of R F (lent_for F s b') c) s) (open_after c (outcome_of R F (lent_for F s b') c) g)
short_keeps R law F t₀ b b' c s g h q v =
    step_keeps R law F (Short (length b.text)) (Short (length b'.text)) t₀ b b' c s g h q (λ t k. omega (arith, h.no_smaller.text)) (λ t k. k)
    (all_short R law F (lent_for F s b') c) v
