-- A key that puts in the ring's text, where the checks have passed: 1 where the ring gives none, 9 or 10 of the line's call, else its answer and the ring as
-- its own call leaves it. Assumes nothing.
use Prim.Native.Nat.{ℕ, ◌-◌, ◌≤◌, ◌<◌}
use native.Mathlib.Omega.{arith}
use mathlib.Core.Path.{◌≡◌, refl, sym, ap, ap₂, subst, ◌∙◌}
use mathlib.Core.Bool.{Bool, true, false, cond, true≢false}
use mathlib.Core.List.{List, [], ◌∷◌}
use mathlib.Core.Option.{some}
use lib.Dec.{leb}
use lib.ListN.{length}
use borrow.Author.Tests.{le-leb, lt-leb}
use Rattle.utf8.specs.Chars.{boundary}
use Rattle.repertoire.specs.Repertoire.{catalogue}
use Rattle.repertoire.specs.Text.{is_text}
use Rattle.formats.specs.declared.Format.{Format}
use Rattle.checks.specs.Checks.{Tests}
use Rattle.checks.specs.Outcome.{Outcome, refused, answered}
use Rattle.checks.proofs.Outcomes.{called-passed}
use Rattle.log_model.specs.UndoBytes.{fits}
use Rattle.log_state.specs.declared.Log.{Log}
use Rattle.edit.specs.declared.EditAnswer.{EditAnswer}
use Rattle.edit.specs.Plan.{State, Plan, list_after, too_long, planned, edited}
use Rattle.edit.specs.Calls.{Lent, text_of, sizes_of, state_of, says, answer_of, checked, edit_call, Edited, Makes}
use Rattle.edit.proofs.Answers.{log-kept, length-kept, state-kept}
use Rattle.edit.proofs.Made.{plan_made}
use Rattle.edit_insert.specs.Inserts.{yank_plan, empty_is, yank_pop_plan, text_tests}
use Rattle.edit_insert.proofs.Calls.{text-passed}
use Rattle.edit_insert.proofs.Twice.{pop_tests, pop_passed}
use Rattle.kill_ring.specs.declared.Ring.{Ring}
use Rattle.kill_ring.specs.declared.AnswerAndRing.{AnswerAndRing}
use Rattle.kill_ring.specs.Ring.{KillRing, slot_at, yanked, yank_out, yank_pop_out}
use Rattle.kill_ring.specs.Calls as rings
use Rattle.kill_ring.proofs.Value.{cond_ind, ring_back}
use Rattle.kill_ring.proofs.Kills.{ready-slots}
use Rattle.calls.specs.Calls.{EditCall, Asked, edit, undo, outcome_of}
use Rattle.calls.specs.Calls as calls
use Rattle.key_model.specs.declared.KeyAnswer.{KeyAnswer}
use Rattle.key_model.specs.Stands.{KeyCalls, line, yank, yank_pop}
use Rattle.key_model.specs.Keyed.{together, yanked_by, on_line, given}
use Rattle.key_model.specs.Own.{tests_given, yank_tests}
use Rattle.key_model.specs.Own as key
use Rattle.key_model.specs.Contract.{with_ring, key_buffers, KeyDone, writes_text, writes_log, Kept, Passed, Does}
use Rattle.key_yank.proofs.Given.{ring_now, Taken, sound, slot_given}

-- ---- the number of what a plan comes to: 9 or 10, or the plan's own
abbrev Plain : Outcome State → Type 0
Plain (refused k) = 1 < k
Plain (answered k a b s) = k ≤ 1

edited-plain : (F : Format) (l : Lent) (p : Plan) → p.number ≤ 1 → Plain (edited catalogue F (sizes_of l) (length l.text) p (state_of catalogue F l))
unfolding edited
edited-plain F l p h =
    let s = state_of catalogue F l in
    let fit = fits F (sizes_of l) (list_after catalogue p.changes s.text s.log.undo) in
    let there = answered p.number p.from p.to (planned catalogue p s) in
    cond_ind Plain (too_long (length l.text) p.changes s.text) (refused 9) (cond fit there (refused 10))
    (λ e. omega arith) (λ e. cond_ind Plain fit there (refused 10) (λ f. h) (λ f. omega arith))

yank-number : (pos : ℕ) (s : List ℕ) (n : ℕ) → (yank_plan pos s n).number ≤ 1
yank-number pos [] n = omega arith
yank-number pos (b ∷ s) n = omega arith

empty-number : (s : List ℕ) → empty_is s ≤ 1
empty-number [] = omega arith
empty-number (b ∷ s) = omega arith

module _ (F : Format) (l : Lent) (g : rings.Lent) where
  -- ---- what is kept
  same_kept : (x : KeyCalls) (r : KeyAnswer) → Kept catalogue F l g x r (key_buffers l.text l.records l.texts g.slots g.lens)
  same_kept x r =
      record { text = λ h. refl; log = λ h. (refl, refl); ring = λ h. record { slots = refl; lens = refl }; still = λ n e q. refl }

  edit-kept : (x : KeyCalls) (c : EditCall) (r : KeyAnswer) (t rb tb : List ℕ) → on_line catalogue F l g x ≡ some (edit c)
      → ((n : ℕ) → x ≡ line (undo n) → ⊥) → Kept catalogue F l g x r (key_buffers t rb tb g.slots g.lens)
  edit-kept x c r t rb tb e f =
      record {
        text = λ h. absurd (true≢false (ap writes_text (sym e) ∙ h));
        log = λ h. absurd (true≢false (ap writes_log (sym e) ∙ h));
        ring = λ h. record { slots = refl; lens = refl };
        still = λ n u q. absurd (f n u);
      }

  module _ {x : KeyCalls} {last : ℕ} (p : Passed F l g x last) where
    -- ---- the ring gives no text
    none_done : (o : Outcome KillRing) (f : ℕ → ℕ → KillRing → Asked) (r : KeyAnswer) → o ≡ answered 1 0 0 (ring_now g)
        → r ≡ with_ring (says 1 l.line l.log) g.ring
        → KeyDone F l g (yanked_by catalogue F l g o f) r (key_buffers l.text l.records l.texts g.slots g.lens)
    none_done o f r n e =
        subst (λ (y : Outcome KillRing). KeyDone F l g (yanked_by catalogue F l g y f) r (key_buffers l.text l.records l.texts g.slots g.lens))
        (sym n)
        (record {
          answer = e
              ∙ ap₂ (λ (i : ℕ) (y : Log). with_ring (says 1 (record { len = i; cursor = l.line.cursor }) y) g.ring)
              (sym (length-kept F l p.ready)) (log-kept F l p.ready)
              ∙ ap (with_ring (says 1 (record { len = length (text_of l); cursor = l.line.cursor }) _)) (sym (ring_back catalogue g (sound g p.ring)));
          bytes = (state-kept F l p.ready l.line.cursor, ready-slots catalogue g (sound g p.ring));
        })

    -- ---- the ring gives a slot
    module _ (slot size : ℕ) (left : Ring) (q : left ≡ rings.ring_of (yanked slot (ring_now g))) where
      abbrev answer_by : EditAnswer → KeyAnswer
      answer_by a = with_ring a (cond (leb a.number 1) left g.ring)

      together-done : (o : Outcome State) → Plain o → (a : EditAnswer) (t rb tb : List ℕ) → Edited F l o a t rb tb
          → KeyDone F l g (together o (answered 0 slot size (yanked slot (ring_now g)))) (answer_by a) (key_buffers t rb tb g.slots g.lens)
      together-done (refused k) h a t rb tb e =
          record {
            answer = ap answer_by e.answer
                ∙ ap (λ (b : Bool). with_ring (says k l.line l.log) (cond b left g.ring)) (lt-leb k 1 h);
            bytes = (e.bytes, record { slots = refl; lens = refl });
          }
      together-done (answered k i j s) h a t rb tb e =
          record {
            answer = ap answer_by e.answer
                ∙ ap₂ (λ (b : Bool) (y : Ring). with_ring (answer_of F l (answered k i j s)) (cond b y g.ring)) (le-leb k 1 h) q;
            bytes = (e.bytes, ready-slots catalogue g (sound g p.ring));
          }

      made-done : (own : Tests) (w : Plan) → checked catalogue F l own ≡ 0 → w.number ≤ 1 → (a : EditAnswer) (t rb tb : List ℕ) → Makes F l w a t rb tb
          → KeyDone F l g (together (edit_call catalogue F l own w) (answered 0 slot size (yanked slot (ring_now g)))) (answer_by a)
          (key_buffers t rb tb g.slots g.lens)
      made-done own w z h a t rb tb m =
          let o = edited catalogue F (sizes_of l) (length l.text) w (state_of catalogue F l) in
          called-passed
          (λ (y : Outcome State). KeyDone F l g (together y (answered 0 slot size (yanked slot (ring_now g)))) (answer_by a) (key_buffers t rb tb g.slots g.lens))
          o 0 (checked catalogue F l own) z refl (together-done o (edited-plain F l w h) a t rb tb m)

    given-done : {o : Outcome KillRing} {a : AnswerAndRing} → Taken g o a → (f : ℕ → ℕ → KillRing → Asked) (own : Tests) (w : Plan)
        → outcome_of catalogue F l (f a.answer.slot a.answer.size (yanked a.answer.slot (ring_now g))) ≡ edit_call catalogue F l own w
        → checked catalogue F l own ≡ 0 → w.number ≤ 1 → (u : EditAnswer) (r : KeyAnswer) (t rb tb : List ℕ) → Makes F l w u t rb tb
        → r ≡ with_ring u (cond (leb u.number 1) a.ring g.ring)
        → KeyDone F l g (yanked_by catalogue F l g o f) r (key_buffers t rb tb g.slots g.lens)
    given-done {o} {a} k f own w e z h u r t rb tb m q =
        let b = key_buffers t rb tb g.slots g.lens in
        let slot = a.answer.slot in
        let d = made-done slot a.answer.size a.ring k.ring own w z h u t rb tb m in
        subst (λ (y : Outcome KillRing). KeyDone F l g (yanked_by catalogue F l g y f) r b) (sym k.is)
        (subst (λ (y : Outcome State). KeyDone F l g (together y (answered 0 slot a.answer.size (yanked slot (ring_now g)))) r b) (sym e)
        (record { answer = q ∙ d.answer; bytes = d.bytes }))

  -- ---- the ring's text, n times
  module _ {n last : ℕ} (p : Passed F l g (yank n) last) where
    pub yank-nothing : {r : KeyAnswer} → yank_out (ring_now g) ≡ answered 1 0 0 (ring_now g) → r ≡ with_ring (says 1 l.line l.log) g.ring
        → Does F l g (yank n) r (key_buffers l.text l.records l.texts g.slots g.lens)
    yank-nothing {r} e q = record { outcome = none_done p (yank_out (ring_now g)) _ r e q; kept = same_kept (yank n) r }

    module _ {a : AnswerAndRing} (t : Taken g (yank_out (ring_now g)) a) {s : List ℕ} (e : s ≡ slot_given g p.ring t) where
      yank-tests : checked catalogue F l (text_tests catalogue F l (slot_given g p.ring t) false false) ≡ 0
      yank-tests = subst (λ (o : Outcome KillRing). checked catalogue F l (tests_given o (yank_tests catalogue F l g)) ≡ 0) t.is p.line

      pub yank-fit : (is_text catalogue s ≡ true) × (length s ≤ length l.text)
      yank-fit =
          subst (λ (y : List ℕ). (is_text catalogue y ≡ true) × (length y ≤ length l.text)) (sym e)
          (text-passed F l (slot_given g p.ring t) false false yank-tests)

      pub yank_does : {u : EditAnswer} {r : KeyAnswer} {tx rb tb : List ℕ} → Makes F l (yank_plan l.line.cursor s n) u tx rb tb
          → r ≡ with_ring u (cond (leb u.number 1) a.ring g.ring) → Does F l g (yank n) r (key_buffers tx rb tb g.slots g.lens)
      yank_does {u} {r} {tx} {rb} {tb} m q =
          let slot = slot_given g p.ring t in
          let w = yank_plan l.line.cursor slot n in
          record {
            outcome = given-done p t (λ i size v. edit (calls.yank (slot_at v i) n)) (text_tests catalogue F l slot false false) w refl yank-tests
                (yank-number l.line.cursor slot n) u r tx rb tb
                (plan_made F l (ap (λ (y : List ℕ). yank_plan l.line.cursor y n) e) m) q;
            kept = edit-kept (yank n) (calls.yank slot n) r tx rb tb
                (ap (λ (o : Outcome KillRing). given catalogue F l g o (λ i size v. edit (calls.yank (slot_at v i) n))) t.is)
                (λ k x. let z : ◌≡◌ {A = ℕ} 0 1 = cc in omega arith);
          }

  -- ---- the ring's text in the place of the one yanked before
  module _ {last : ℕ} (p : Passed F l g yank_pop last) where
    pub pop_nothing : {r : KeyAnswer} → yank_pop_out (ring_now g) ≡ answered 1 0 0 (ring_now g) → r ≡ with_ring (says 1 l.line l.log) g.ring
        → Does F l g yank_pop r (key_buffers l.text l.records l.texts g.slots g.lens)
    pop_nothing {r} e q = record { outcome = none_done p (yank_pop_out (ring_now g)) _ r e q; kept = same_kept yank_pop r }

    module _ {a : AnswerAndRing} (t : Taken g (yank_pop_out (ring_now g)) a) {s : List ℕ} (e : s ≡ slot_given g p.ring t) where
      abbrev size : ℕ
      size = a.answer.size

      pop-tests : checked catalogue F l (pop_tests F l size (slot_given g p.ring t)) ≡ 0
      pop-tests = subst (λ (o : Outcome KillRing). checked catalogue F l (tests_given o (key.pop_tests catalogue F l g)) ≡ 0) t.is p.line

      pub pop_fit : (is_text catalogue s ≡ true) × (length s ≤ length l.text) × (size ≤ l.line.cursor) × (boundary (text_of l) (l.line.cursor - size) ≡ true)
      pop_fit =
          subst (λ (y : List ℕ). (is_text catalogue y ≡ true) × (length y ≤ length l.text) × (size ≤ l.line.cursor)
          × (boundary (text_of l) (l.line.cursor - size) ≡ true)) (sym e) (pop_passed F l size (slot_given g p.ring t) pop-tests)

      pub pop_does : {u : EditAnswer} {r : KeyAnswer} {tx rb tb : List ℕ} → Makes F l (yank_pop_plan l.line.cursor size s) u tx rb tb
          → r ≡ with_ring u (cond (leb u.number 1) a.ring g.ring) → Does F l g yank_pop r (key_buffers tx rb tb g.slots g.lens)
      pop_does {u} {r} {tx} {rb} {tb} m q =
          let slot = slot_given g p.ring t in
          let w = yank_pop_plan l.line.cursor size slot in
          record {
            outcome = given-done p t (λ i k v. edit (calls.yank_pop k (slot_at v i))) (pop_tests F l size slot) w refl pop-tests
                (empty-number slot) u r tx rb tb
                (plan_made F l (ap (yank_pop_plan l.line.cursor size) e) m) q;
            kept = edit-kept yank_pop (calls.yank_pop size slot) r tx rb tb
                (ap (λ (o : Outcome KillRing). given catalogue F l g o (λ i k v. edit (calls.yank_pop k (slot_at v i)))) t.is)
                (λ k x. let z : ◌≡◌ {A = ℕ} 0 1 = cc in omega arith);
          }
