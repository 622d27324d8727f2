-- The laws of a walk over the log, from a place where both lists lead to a text: it never stops, it ends where no group holds it, the other way it leads back,
-- and units walked one after the other are walked in one go. Assumes nothing.
use Prim.Native.Nat.{ℕ, zero, suc, ◌+◌, ◌≤◌}
use native.Mathlib.Omega.{arith}
use native.Mathlib.Nat.{zero-add, suc-add}
use mathlib.Core.Path.{◌≡◌, refl, sym, ap, ◌∙◌, subst}
use mathlib.Core.Bool.{Bool, true, false, ◌&&◌, and_comm}
use mathlib.Core.List.{List, [], ◌∷◌}
use lib.Dec.{ltb}
use lib.ListN.{length}
use Rattle.lists.proofs.Bools.{and_both}
use Rattle.utf8.specs.Chars.{In}
use Rattle.repertoire.specs.Repertoire.{Repertoire}
use Rattle.repertoire.specs.Text.{is_text}
use Rattle.log_model.specs.Change.{insert, delete, replace, Change, begin, end, edit, place, old, flipped, turn}
use Rattle.numbers.specs.Numbers.{top}
use Rattle.formats.specs.declared.Format.{Format}
use Rattle.log_model.specs.UndoBytes.{numbers_fit, all_numbers_fit}
use Rattle.log_model.proofs.Newest.{turn-turn}
use Rattle.undo_step.specs.UndoStep.{StepState, StepOutcome, done, stops, undoing}
use Rattle.undo.specs.Undo.{Waiting, owed, passing, settled, Walked, on_outcome, on_settled, walk}
use Rattle.session.proofs.Invariant.{Nest, Bound, Chain}
use Rattle.session.proofs.Links.{undo_link, flip_link, cursor_link, text_link}

-- ---- records turned round
-- the numbers are the same ones
numbers-turn : (w : ℕ) (x : Change) → numbers_fit w (turn x) ≡ numbers_fit w x
numbers-turn w begin = refl
numbers-turn w end = refl
numbers-turn w (edit (insert p s)) = refl
numbers-turn w (edit (delete p s)) = refl
numbers-turn w (edit (replace p o n)) = ap (λ (b : Bool). ltb p (top w) && b) (and_comm (ltb (length n) (top w)) (ltb (length o) (top w)))

-- where a record moves over, the numbers of the list that it leaves fit
pub numbers-tail : (w : ℕ) (x : Change) (u : List Change) → all_numbers_fit w (x ∷ u) ≡ true → all_numbers_fit w u ≡ true
unfolding all_numbers_fit
numbers-tail w x u h = (and_both (numbers_fit w x) (all_numbers_fit w u) h).1

-- and so does the list that it comes to
numbers-moved : (w : ℕ) (x : Change) (u r : List Change) → all_numbers_fit w (x ∷ u) ≡ true → all_numbers_fit w r ≡ true → all_numbers_fit w (turn x ∷ r) ≡ true
unfolding all_numbers_fit
numbers-moved w x u r h k = rw (numbers-turn w x, (and_both (numbers_fit w x) (all_numbers_fit w u) h).0, k)

-- ---- states reached, and walks
-- a text with the cursor and the flag of s
abbrev pub with_text : List ℕ → StepState → StepState
with_text t s = record { text = t; cursor = s.cursor; undone = s.undone }

-- a walk that ends here
abbrev pub arrived : List Change → List Change → StepState → Walked
arrived u r s = record { from = u; to = r; reached = s; stopped = 0 }

-- ---- what a walk does behind a record, by cases
-- d groups deep, it ends here only where d is 0
settled_ind : (P : Walked → Type 0) (d l : ℕ) (last : Walked) (go : ℕ → Walked) → (d ≡ 0 → P last) → ((i : ℕ) → P (go i)) → P (on_settled (settled (owed d)) l last go)
settled_ind P zero zero last go p q = p refl
settled_ind P zero (suc l) last go p q = q l
settled_ind P (suc d) l last go p q = q l

-- it goes on alike where the rest is alike
settled_same : (b : Bool) (l : ℕ) (last : Walked) (f g : ℕ → Walked) → ((i : ℕ) → f i ≡ g i) → on_settled b l last f ≡ on_settled b l last g
settled_same false l last f g h = h l
settled_same true zero last f g h = refl
settled_same true (suc l) last f g h = h l

-- ---- a walk of one unit the other way
-- at a place d groups deep, over the list r
abbrev pub goes_on : ℕ → ℕ → List Change → List Change → StepState → Walked
goes_on C zero r u s = arrived r u s
goes_on C (suc d) r u s = walk C 0 (owed (suc d)) r u s

-- so it goes on behind a record
goes-on : (C d : ℕ) (r u : List Change) (s : StepState) → on_settled (settled (owed d)) 0 (arrived r u s) (λ i. walk C i (owed d) r u s) ≡ goes_on C d r u s
goes-on C zero r u s = refl
goes-on C (suc d) r u s = refl

-- from where the walk w ended, a walk of one unit comes back to the place where w began, whatever the cursor between
unfoldable pub WalkedBack : (C d : ℕ) (u r : List Change) (t : List ℕ) → Walked → Type 0
WalkedBack C d u r t w = (c : StepState) → (c' : StepState) × (walk C 0 (owed 0) w.to w.from (with_text w.reached.text c) ≡ goes_on C d r u (with_text t c'))

-- a walk back from behind a record is one from before it
walked_back : (C d d' : ℕ) (x : Change) (u r : List Change) (t : List ℕ) (s : StepState)
    → ((c : StepState) → (c' : StepState) × (walk C 0 (owed d') (turn x ∷ r) u (with_text s.text c) ≡ goes_on C d r (x ∷ u) (with_text t c')))
    → ((i : ℕ) → d' ≡ suc i → WalkedBack C d' u (turn x ∷ r) s.text (walk C 0 (owed d') u (turn x ∷ r) s))
    → WalkedBack C d (x ∷ u) r t (on_settled (settled (owed d')) 0 (arrived u (turn x ∷ r) s) (λ i. walk C i (owed d') u (turn x ∷ r) s))
unfolding WalkedBack
walked_back C d zero x u r t s f g = f
walked_back C d (suc i) x u r t s f g = λ c. ((f (g i refl c).0).0, (g i refl c).1 ∙ (f (g i refl c).0).1)

-- ---- walking on
-- from where the walk w ended, k + 1 units more
unfoldable pub more : ℕ → ℕ → Walked → Walked
more C k w = walk C k (owed 0) w.from w.to w.reached

-- l units more and k + 1 more are l + k + 1 more
settled_more : (C k d l : ℕ) (u r : List Change) (s : StepState) → ((i : ℕ) → walk C (i + suc k) (owed d) u r s ≡ more C k (walk C i (owed d) u r s))
    → on_settled (settled (owed d)) (l + suc k) (arrived u r s) (λ i. walk C i (owed d) u r s) ≡ more C k
    (on_settled (settled (owed d)) l (arrived u r s) (λ i. walk C i (owed d) u r s))
unfolding more
settled_more C k zero zero u r s g = rw zero-add
settled_more C k zero (suc l) u r s g = rw suc-add (g l)
settled_more C k (suc d) l u r s g = g l

module _ (R : Repertoire) (F : Format) (Q : List ℕ → Type 0) where
  -- a place in the log, d groups deep: the records before it lead from the text t to e, those behind it to e'
  pub record At (e e' : List ℕ) (d : ℕ) (u r : List Change) (t : List ℕ) : Type 0 where
    pub nested : Nest d u
    pub nested' : Nest d r
    pub chain : Chain R Q e u t
    pub chain' : Chain R Q e' r t
    pub numbers : all_numbers_fit F.width u ≡ true
    pub numbers' : all_numbers_fit F.width r ≡ true
    pub text : is_text R t ≡ true
    pub allowed : Q t

  -- the same place, seen from the other list
  pub at_turned : {e e' : List ℕ} {d : ℕ} {u r : List Change} {t : List ℕ} → At e e' d u r t → At e' e d r u t
  at_turned z =
      record {
        nested = z.nested';
        nested' = z.nested;
        chain = z.chain';
        chain' = z.chain;
        numbers = z.numbers';
        numbers' = z.numbers;
        text = z.text;
        allowed = z.allowed;
      }

  -- the record x undone at such a place: the place behind it, and the way back by the record turned round
  pub record Move (C : ℕ) (e e' : List ℕ) (d : ℕ) (x : Change) (u r : List Change) (s : StepState) : Type 0 where
    pub depth : ℕ
    pub next : StepState
    pub tried : undoing C x s ≡ done next
    pub passed : passing x (owed d) ≡ owed depth
    pub at : At e e' depth u (turn x ∷ r) next.text
    pub cursor : In s.text s.cursor s.cursor → In next.text next.cursor next.cursor
    pub retried : (c : StepState) → (c' : StepState) × (undoing C (turn x) (with_text next.text c) ≡ done (with_text s.text c'))
    pub repassed : passing (turn x) (owed depth) ≡ owed d

  -- the place behind a record: both lists stay small
  at_next : {e e' : List ℕ} {d : ℕ} {t : List ℕ} (x : Change) (u r : List Change) → At e e' d (x ∷ u) r t → (d' : ℕ) (t' : List ℕ) → Nest d' u → Nest d' (turn x ∷ r)
      → Chain R Q e u t' → Chain R Q e' (turn x ∷ r) t' → is_text R t' ≡ true → Q t' → At e e' d' u (turn x ∷ r) t'
  at_next x u r z d' t' n n' c c' v q =
      record {
        nested = n;
        nested' = n';
        chain = c;
        chain' = c';
        numbers = numbers-tail F.width x u z.numbers;
        numbers' = numbers-moved F.width x u r z.numbers z.numbers';
        text = v;
        allowed = q;
      }

  -- every record there is undone without a stop
  pub move : (C : ℕ) (e e' : List ℕ) (d : ℕ) (x : Change) (u r : List Change) (s : StepState) → Bound Q C → At e e' d (x ∷ u) r s.text → Move C e e' d x u r s
  unfolding undoing
  move C e e' zero begin u r s h z = absurd z.nested
  move C e e' (suc d) begin u r s h z =
      record {
        depth = d;
        next = s;
        tried = refl;
        passed = refl;
        at = at_next begin u r z d s.text z.nested z.nested' z.chain z.chain' z.text z.allowed;
        cursor = λ k. k;
        retried = λ c. (c, refl);
        repassed = refl;
      }
  move C e e' d end u r s h z =
      record {
        depth = suc d;
        next = s;
        tried = refl;
        passed = refl;
        at = at_next end u r z (suc d) s.text z.nested z.nested' z.chain z.chain' z.text z.allowed;
        cursor = λ k. k;
        retried = λ c. (c, refl);
        repassed = refl;
      }
  move C e e' d (edit x) u r s h z =
      let t = z.chain.0 in
      let l = z.chain.1 in
      record {
        depth = d;
        next = record { text = t; cursor = place x + length (old x); undone = true };
        tried = undo_link R C x t s h l;
        passed = refl;
        at = at_next (edit x) u r z d t z.nested z.nested' z.chain.2 (s.text, flip_link R x l, z.chain') (text_link R l) l.first;
        cursor = λ k. cursor_link R l;
        retried =
            λ c. (
              record { text = s.text; cursor = place (flipped x) + length (old (flipped x)); undone = true },
              undo_link R C (flipped x) s.text
                  (with_text t c) h (flip_link R x l),
            );
        repassed = refl;
      }

  -- ---- a walk never stops
  -- it has ended where no group holds it
  pub record Good (e e' : List ℕ) (w : Walked) : Type 0 where
    pub runs : w.stopped ≡ 0
    pub at : At e e' 0 w.from w.to w.reached.text
    pub cursor : In w.reached.text w.reached.cursor w.reached.cursor

  -- every walk does
  pub good : (C : ℕ) (e e' : List ℕ) → Bound Q C → (u r : List Change) (l d : ℕ) (s : StepState) → At e e' d u r s.text → In s.text s.cursor s.cursor
      → Good e e' (walk C l (owed d) u r s)
  unfolding walk
  good C e e' h [] r l d s z k = record { runs = refl; at = subst (λ (i : ℕ). At e e' i [] r s.text) z.nested z; cursor = k }
  good C e e' h (x ∷ u) r l d s z k =
      let m = move C e e' d x u r s h z in
      rw (m.tried, m.passed)
      (settled_ind (Good e e') m.depth l (arrived u (turn x ∷ r) m.next) (λ i. walk C i (owed m.depth) u (turn x ∷ r) m.next)
      (λ q. record { runs = refl; at = subst (λ (i : ℕ). At e e' i u (turn x ∷ r) m.next.text) q m.at; cursor = m.cursor k })
      (λ i. good C e e' h u (turn x ∷ r) i m.depth m.next m.at (m.cursor k)))

  -- ---- a walk of one unit the other way
  -- one record turned round undone
  forth : (C : ℕ) (e e' : List ℕ) (d : ℕ) (x : Change) (u r : List Change) (s : StepState) (m : Move C e e' d x u r s) (c : StepState)
      → (c' : StepState) × (walk C 0 (owed m.depth) (turn x ∷ r) u (with_text m.next.text c) ≡ goes_on C d r (x ∷ u) (with_text s.text c'))
  unfolding walk
  forth C e e' d x u r s m c =
      let c' = (m.retried c).0 in
      (c', rw ((m.retried c).1, m.repassed, turn-turn x) (goes-on C d r (x ∷ u) (with_text s.text c')))

  -- a unit back and the same unit forth
  pub walk_back : (C : ℕ) (e e' : List ℕ) → Bound Q C → (x : Change) (u r : List Change) (d : ℕ) (s : StepState) → At e e' d (x ∷ u) r s.text
      → WalkedBack C d (x ∷ u) r s.text (walk C 0 (owed d) (x ∷ u) r s)
  unfolding walk
  walk_back C e e' h x [] r d s z =
      let m = move C e e' d x [] r s h z in
      let n : m.depth ≡ 0 = m.at.nested in
      rw (m.tried, m.passed) (walked_back C d m.depth x [] r s.text m.next (forth C e e' d x [] r s m) (λ i q. absurd (omega arith)))
  walk_back C e e' h x (y ∷ u) r d s z =
      let m = move C e e' d x (y ∷ u) r s h z in
      rw (m.tried, m.passed)
      (walked_back C d m.depth x (y ∷ u) r s.text m.next (forth C e e' d x (y ∷ u) r s m) (λ i q. walk_back C e e' h y u (turn x ∷ r) m.depth m.next m.at))

  -- ---- walking on: l + 1 units and then k + 1 are l + k + 2
  pub further : (C : ℕ) (e e' : List ℕ) → Bound Q C → (k : ℕ) (u r : List Change) (l d : ℕ) (s : StepState) → At e e' d u r s.text
      → walk C (l + suc k) (owed d) u r s ≡ more C k (walk C l (owed d) u r s)
  unfolding walk more
  further C e e' h k [] r l d s z = refl
  further C e e' h k (x ∷ u) r l d s z =
      let m = move C e e' d x u r s h z in
      rw (m.tried, m.passed)
      (settled_more C k m.depth l u (turn x ∷ r) m.next (λ i. further C e e' h k u (turn x ∷ r) i m.depth m.next m.at))

  -- ---- the length of the text buffer has no say, where no text of Q is longer
  -- at one record
  undoing_cap : (C C' : ℕ) (e : List ℕ) (x : Change) (u : List Change) (s : StepState) → Bound Q C → Bound Q C' → Chain R Q e (x ∷ u) s.text → undoing C x s ≡ undoing C' x s
  unfolding undoing
  undoing_cap C C' e begin u s h h' c = refl
  undoing_cap C C' e end u s h h' c = refl
  undoing_cap C C' e (edit x) u s h h' c = undo_link R C x c.0 s h c.1 ∙ sym (undo_link R C' x c.0 s h' c.1)

  -- of a whole walk
  pub walk_cap : (C C' : ℕ) (e e' : List ℕ) → Bound Q C → Bound Q C' → (u r : List Change) (l d : ℕ) (s : StepState) → At e e' d u r s.text
      → walk C l (owed d) u r s ≡ walk C' l (owed d) u r s
  unfolding walk
  walk_cap C C' e e' h h' [] r l d s z = refl
  walk_cap C C' e e' h h' (x ∷ u) r l d s z =
      let m = move C e e' d x u r s h z in
      let q : undoing C' x s ≡ done m.next = sym (undoing_cap C C' e x u s h h' z.chain) ∙ m.tried in
      rw (m.tried, q, m.passed) (settled_same (settled (owed m.depth)) l _ _ _ (λ i. walk_cap C C' e e' h h' u (turn x ∷ r) i m.depth m.next m.at))

  -- ---- how many records a walk leaves: no more than there were
  pub walk-le : (C : ℕ) (e e' : List ℕ) → Bound Q C → (u r : List Change) (l d : ℕ) (s : StepState) → At e e' d u r s.text → length (walk C l (owed d) u r s).from ≤ length u
  unfolding walk
  walk-le C e e' h [] r l d s z = omega arith
  walk-le C e e' h (x ∷ u) r l d s z =
      let m = move C e e' d x u r s h z in
      rw (m.tried, m.passed)
      (settled_ind (λ (w : Walked). length w.from ≤ suc (length u)) m.depth l _ _ (λ q. omega arith)
      (λ i. omega (arith, walk-le C e e' h u (turn x ∷ r) i m.depth m.next m.at)))

  -- and fewer where there were some
  pub walk_lt : (C : ℕ) (e e' : List ℕ) → Bound Q C → (x : Change) (u r : List Change) (l d : ℕ) (s : StepState) → At e e' d (x ∷ u) r s.text
      → length (walk C l (owed d) (x ∷ u) r s).from ≤ length u
  unfolding walk
  walk_lt C e e' h x u r l d s z =
      let m = move C e e' d x u r s h z in
      rw (m.tried, m.passed)
      (settled_ind (λ (w : Walked). length w.from ≤ length u) m.depth l _ _ (λ q. omega arith)
      (λ i. walk-le C e e' h u (turn x ∷ r) i m.depth m.next m.at))

-- ---- whether a record of a text was undone before has no influence on the rest
-- all but the flag
unfoldable pub forget : Walked → Walked
forget w = record { from = w.from; to = w.to; reached = record { text = w.reached.text; cursor = w.reached.cursor; undone = false }; stopped = w.stopped }

-- behind a record
forget_settled : (b : Bool) (l : ℕ) (z z' : Walked) (f f' : ℕ → Walked) → forget z ≡ forget z' → ((i : ℕ) → forget (f i) ≡ forget (f' i))
    → forget (on_settled b l z f) ≡ forget (on_settled b l z' f')
forget_settled false l z z' f f' p q = q l
forget_settled true zero z z' f f' p q = p
forget_settled true (suc l) z z' f f' p q = q l

-- at a record
forget_tried : (v : StepOutcome) (f f' : ℕ → Walked) (g : StepState → Walked) → ((k : ℕ) → forget (f k) ≡ forget (f' k)) → forget (on_outcome v f g) ≡ forget (on_outcome v f' g)
forget_tried (done s) f f' g h = refl
forget_tried (stops k) f f' g h = h k

-- of a whole walk
pub walk-undone : (C : ℕ) (u r : List Change) (l : ℕ) (w : Waiting) (t : List ℕ) (c : ℕ) (b b' : Bool)
    → forget (walk C l w u r (record { text = t; cursor = c; undone = b })) ≡ forget (walk C l w u r (record { text = t; cursor = c; undone = b' }))
unfolding walk undoing forget
walk-undone C [] r l w t c b b' = refl
walk-undone C (begin ∷ u) r l w t c b b' = forget_settled (settled (passing begin w)) l _ _ _ _ refl (λ i. walk-undone C u (end ∷ r) i (passing begin w) t c b b')
walk-undone C (end ∷ u) r l w t c b b' = forget_settled (settled (passing end w)) l _ _ _ _ refl (λ i. walk-undone C u (begin ∷ r) i (passing end w) t c b b')
walk-undone C (edit x ∷ u) r l w t c b b' = forget_tried (undoing C (edit x) (record { text = t; cursor = c; undone = b })) _ _ _ (λ i. refl)
