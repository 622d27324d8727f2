-- A cut and the ring's kill as one: refused by 10, by 11, or both done. Assumes nothing.
use Prim.Native.Nat.{ℕ}
use mathlib.Core.Path.{◌≡◌, refl, sym, ap, ap₂, subst, ◌∙◌}
use mathlib.Core.Bool.{Bool, true, false, cond}
use mathlib.Core.List.{List}
use mathlib.Core.Logic.{◌⊎◌, inl, inr, ⊎_elim}
use native.Mathlib.Omega.{arith}
use lib.Dec.{eqb, ltb}
use lib.ListN.{length}
use Rattle.formats.specs.declared.Format.{Format}
use Rattle.checks.specs.Outcome.{Outcome, refused, answered}
use Rattle.edit.specs.declared.EditAnswer.{EditAnswer}
use Rattle.edit.specs.Plan.{State}
use Rattle.edit.specs.Calls.{Lent, says, Edited}
use Rattle.kill_ring.specs.declared.Mode.{Mode}
use Rattle.kill_ring.specs.declared.Action.TheVariants as action
use Rattle.kill_ring.specs.declared.AnswerAndRing.{AnswerAndRing}
use Rattle.kill_ring.specs.Ring.{KillRing, with_action, kill_index, kill_text, stored, kill_out}
use Rattle.kill_ring.specs.Calls as rings
use Rattle.key_model.specs.Keyed.{KeyState, together}
use Rattle.key_model.specs.declared.KeyAnswer.{KeyAnswer}
use Rattle.key_model.specs.Contract.{with_ring, key_buffers, KeyDone}

-- ---- the ring's kill: 11, or done
kill_ways : (m : Mode) (s : List ℕ) (v : KillRing) → (kill_out m s v ≡ refused 11) ⊎ ((w : KillRing) × (kill_out m s v ≡ answered 0 0 0 w))
unfolding kill_out
kill_ways m s v = go (eqb v.size 0) (ltb 4096 (length (kill_text v.action m s v))) (with_action v action.Kill)
    (stored (kill_index v.action v) (kill_text v.action m s v) v)
  where
    go : (b c : Bool) (w x : KillRing) → let o = cond b (answered 0 0 0 w) (cond c (refused 11) (answered 0 0 0 x)) in
        (o ≡ refused 11) ⊎ ((y : KillRing) × (o ≡ answered 0 0 0 y))
    go true c w x = inr (w, refl)
    go false true w x = inl refl
    go false false w x = inr (x, refl)

module _ (F : Format) (l : Lent) (g : rings.Lent) (m : Mode) (s : List ℕ) where
  abbrev q : Outcome KillRing
  q = kill_out m s (rings.value_of g)

  module _ (o : Outcome State) where
    -- 10: the ring may be full too
    pub ten : o ≡ refused 10 → {r : KeyAnswer} → r ≡ with_ring (says 10 l.line l.log) g.ring
        → KeyDone F l g (together o q) r (key_buffers l.text l.records l.texts g.slots g.lens)
    ten e {r} f =
        let z : together o q ≡ refused 10 =
        ap (λ (p : Outcome State). together p q) e
        ∙ ⊎_elim (λ w. ap (together (refused 10)) w) (λ w. ap (together (refused 10)) w.1) (kill_ways m s (rings.value_of g)) in
        subst (λ (p : Outcome KeyState). KeyDone F l g p r (key_buffers l.text l.records l.texts g.slots g.lens)) (sym z)
        (record { answer = f; bytes = (record { text = refl; records = refl; texts = refl }, record { slots = refl; lens = refl }) })

    -- the ring's kill of s, as it is lent from the buffer
    module _ (v : State) (e : o ≡ answered 0 0 0 v) (s' : List ℕ) (same : s' ≡ s) {w : AnswerAndRing} {slots lens : List ℕ}
        (kill : rings.Ringed g (kill_out m s' (rings.value_of g)) w slots lens) where
      k : rings.Ringed g q w slots lens
      k = subst (λ (x : List ℕ). rings.Ringed g (kill_out m x (rings.value_of g)) w slots lens) same kill

      -- 11: the text is not cut
      pub eleven : (w.answer.number ≡ 0 → ⊥) → {r : KeyAnswer} → r ≡ with_ring (says 11 l.line l.log) g.ring
          → KeyDone F l g (together o q) r (key_buffers l.text l.records l.texts slots lens)
      eleven h {r} f = ⊎_elim full (λ x. absurd (h (done x.0 x.1))) (kill_ways m s (rings.value_of g))
        where
          done : (x : KillRing) → q ≡ answered 0 0 0 x → w.answer.number ≡ 0
          done x d = ap (λ (y : AnswerAndRing). y.answer.number) (k.whole ∙ ap (rings.answer_and_ring g.ring) d)

          full : q ≡ refused 11 → KeyDone F l g (together o q) r (key_buffers l.text l.records l.texts slots lens)
          full d =
              let b = subst (λ (p : Outcome KillRing). rings.Bytes g p slots lens) d k.bytes in
              subst (λ (p : Outcome KeyState). KeyDone F l g p r (key_buffers l.text l.records l.texts slots lens))
              (sym (ap₂ together e d))
              (record { answer = f; bytes = (record { text = refl; records = refl; texts = refl }, record { slots = b.0; lens = b.1 }) })

      -- both are done
      pub both-done : w.answer.number ≡ 0 → {a : EditAnswer} {t rb tb : List ℕ} → Edited F l o a t rb tb → {r : KeyAnswer} → r ≡ with_ring a w.ring
          → KeyDone F l g (together o q) r (key_buffers t rb tb slots lens)
      both-done h {a} {t} {rb} {tb} x {r} f = ⊎_elim (λ d. absurd (full d)) (λ y. done y.0 y.1) (kill_ways m s (rings.value_of g))
        where
          full : q ≡ refused 11 → ⊥
          full d =
              let z : w.answer.number ≡ 11 = ap (λ (y : AnswerAndRing). y.answer.number) (k.whole ∙ ap (rings.answer_and_ring g.ring) d) in
              omega (arith, h, z)

          done : (y : KillRing) → q ≡ answered 0 0 0 y → KeyDone F l g (together o q) r (key_buffers t rb tb slots lens)
          done y d =
              let b = subst (λ (p : Outcome KillRing). rings.Bytes g p slots lens) d k.bytes in
              let c = subst (λ (p : Outcome State). Edited F l p a t rb tb) e x in
              subst (λ (p : Outcome KeyState). KeyDone F l g p r (key_buffers t rb tb slots lens)) (sym (ap₂ together e d))
              (record {
                answer = f ∙ ap₂ with_ring c.answer (ap (λ (z : AnswerAndRing). z.ring) (k.whole ∙ ap (rings.answer_and_ring g.ring) d));
                bytes = (c.bytes, b);
              })
