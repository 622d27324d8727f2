-- What a key answers whose call on the line is done and whose ring is reset, by that call's outcome and the bytes that it leaves. Assumes nothing.
use Prim.Native.Nat.{ℕ, ◌<◌}
use native.Mathlib.Omega.{arith}
use mathlib.Core.Path.{◌≡◌, refl, sym, ap, subst, ◌∙◌}
use mathlib.Core.Bool.{Bool, true, false, cond, true≢false}
use mathlib.Core.List.{List}
use lib.Dec.{leb}
use borrow.Author.Tests.{lt-leb}
use Rattle.repertoire.specs.Repertoire.{catalogue}
use Rattle.formats.specs.declared.Format.{Format}
use Rattle.checks.specs.Outcome.{Outcome, refused, answered, number_in}
use Rattle.edit.specs.declared.EditAnswer.{EditAnswer}
use Rattle.edit.specs.Plan.{State}
use Rattle.edit.specs.Calls.{Lent, answer_of, Edited}
use Rattle.kill_ring.specs.declared.Ring.{Ring}
use Rattle.kill_ring.specs.Ring.{KillRing, reset_out}
use Rattle.kill_ring.specs.Calls as rings
use Rattle.kill_ring.proofs.Passed.{passed}
use Rattle.kill_ring.proofs.Value.{ring_back}
use Rattle.kill_ring.proofs.Kills.{ready-slots}
use Rattle.calls.specs.Calls.{edit, move, undo, outcome_of}
use Rattle.calls.specs.Calls as calls
use Rattle.key_model.specs.declared.KeyAnswer.{KeyAnswer}
use Rattle.key_model.specs.Stands.{line}
use Rattle.key_model.specs.Keyed.{together, reset_after}
use Rattle.key_model.specs.Contract.{with_ring, key_buffers, KeyDone, Does}

-- no call is refused by 0 or 1
abbrev pub Refuses : Outcome State → Type 0
Refuses (refused k) = 1 < k
Refuses (answered k a b s) = Unit {0}

-- the number that is answered is the outcome's
number_is : (F : Format) (l : Lent) (o : Outcome State) → (answer_of F l o).number ≡ number_in o
number_is F l (refused k) = refl
number_is F l (answered k a b s) = refl

-- the checks pass the ring g; a is the answer of a call whose outcome is o, and t, rb and tb are what it leaves in the buffers
module _ (F : Format) (l : Lent) (g : rings.Lent) (c : rings.checked catalogue g false false ≡ 0) where
  abbrev v : KillRing
  v = rings.value_of g

  -- the ring's record afterwards
  abbrev pub ring_after : Bool → Ring
  ring_after b = cond b (rings.answer_and_ring g.ring (reset_out v)).ring g.ring

  module _ {a : EditAnswer} {t rb tb : List ℕ} where
    by_number : (o : Outcome State) (b : Bool) → b ≡ leb (number_in o) 1 → Refuses o → Edited F l o a t rb tb
        → KeyDone F l g (together o (cond b (reset_out v) (answered 0 0 0 v))) (with_ring a (ring_after b)) (key_buffers t rb tb g.slots g.lens)
    by_number (refused k) true e h x = absurd (true≢false (e ∙ lt-leb k 1 h))
    by_number (refused k) false e h x =
        record { answer = ap (λ (y : EditAnswer). with_ring y g.ring) x.answer; bytes = (x.bytes, record { slots = refl; lens = refl }) }
    by_number (answered k i j s) true e h x =
        record {
          answer = ap (λ (y : EditAnswer). with_ring y (ring_after true)) x.answer;
          bytes = (x.bytes, ready-slots catalogue g (passed catalogue g false false c));
        }
    by_number (answered k i j s) false e h x =
        let p = passed catalogue g false false c in
        record {
          answer = ap (λ (y : EditAnswer). with_ring y g.ring) x.answer
              ∙ ap (with_ring (answer_of F l (answered k i j s))) (sym (ring_back catalogue g p));
          bytes = (x.bytes, ready-slots catalogue g p);
        }

    pub reset_keyed : (o : Outcome State) → Refuses o → Edited F l o a t rb tb → {r : KeyAnswer} → r ≡ with_ring a (ring_after (leb a.number 1))
        → KeyDone F l g (together o (reset_after catalogue F l g o)) r (key_buffers t rb tb g.slots g.lens)
    reset_keyed o h x {r} q =
        let n : a.number ≡ number_in o = ap (λ (y : EditAnswer). y.number) x.answer ∙ number_is F l o in
        let s : with_ring a (ring_after (leb (number_in o) 1)) ≡ r = sym (q ∙ ap (λ (m : ℕ). with_ring a (ring_after (leb m 1))) n) in
        subst (λ (y : KeyAnswer). KeyDone F l g (together o (reset_after catalogue F l g o)) y (key_buffers t rb tb g.slots g.lens)) s
        (by_number o (leb (number_in o) 1) refl h x)

    -- ---- an edit writes text and log
    pub edit_does : (x : calls.EditCall) → Refuses (outcome_of catalogue F l (edit x)) → Edited F l (outcome_of catalogue F l (edit x)) a t rb tb
        → {r : KeyAnswer} → r ≡ with_ring a (ring_after (leb a.number 1))
        → Does F l g (line (edit x)) r (key_buffers t rb tb g.slots g.lens)
    edit_does x h e {r} q =
        record {
          outcome = reset_keyed (outcome_of catalogue F l (edit x)) h e q;
          kept = record {
            text = λ f. absurd (true≢false f);
            log = λ f. absurd (true≢false f);
            ring = λ f. record { slots = refl; lens = refl };
            still = λ n f k. let z : ◌≡◌ {A = ℕ} 0 1 = cc in absurd (omega arith);
          };
        }

  -- ---- undo writes the text, where it handles a record
  pub undo_does : (n : ℕ) → Refuses (outcome_of catalogue F l (undo n)) → {a : EditAnswer} {t : List ℕ}
      → Edited F l (outcome_of catalogue F l (undo n)) a t l.records l.texts → (a.log ≡ l.log → t ≡ l.text)
      → {r : KeyAnswer} → r ≡ with_ring a (ring_after (leb a.number 1))
      → Does F l g (line (undo n)) r (key_buffers t l.records l.texts g.slots g.lens)
  undo_does n h {a} {t} e s {r} q =
      record {
        outcome = reset_keyed (outcome_of catalogue F l (undo n)) h e q;
        kept = record {
          text = λ f. absurd (true≢false f);
          log = λ f. (refl, refl);
          ring = λ f. record { slots = refl; lens = refl };
          still = λ m f k. s (sym (ap (λ (y : KeyAnswer). y.log) q) ∙ k);
        };
      }

  -- ---- a movement writes nothing
  pub move_does : (x : calls.MoveCall) → Refuses (outcome_of catalogue F l (move x)) → {a : EditAnswer}
      → Edited F l (outcome_of catalogue F l (move x)) a l.text l.records l.texts
      → {r : KeyAnswer} → r ≡ with_ring a (ring_after (leb a.number 1))
      → Does F l g (line (move x)) r (key_buffers l.text l.records l.texts g.slots g.lens)
  move_does x h {a} e {r} q =
      record {
        outcome = reset_keyed (outcome_of catalogue F l (move x)) h e q;
        kept = record {
          text = λ f. refl;
          log = λ f. (refl, refl);
          ring = λ f. record { slots = refl; lens = refl };
          still = λ n f k. refl;
        };
      }
