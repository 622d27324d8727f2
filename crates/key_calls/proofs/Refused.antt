-- A key that is refused: by 13 where it stands for nothing, by the number of a check else. Assumes nothing.
use Prim.Native.Nat.{ℕ}
use native.Mathlib.Omega.{arith}
use mathlib.Core.Path.{◌≡◌, refl, sym, subst}
use Rattle.repertoire.specs.Repertoire.{catalogue}
use Rattle.formats.specs.declared.Format.{Format}
use Rattle.checks.specs.declared.Refused.{Refused}
use Rattle.checks.specs.declared.Refused.TheVariants.{Sizes, Code, Foreign, Place, Split, Prompt, Damaged}
use Rattle.checks.specs.declared.Refused.TheVariants.{Full, LogFull, RingFull, Misfit, Unbound, PageFull}
use Rattle.checks.specs.Outcome.{Outcome, refused}
use Rattle.checks.specs.Refused.{number_of}
use Rattle.edit.specs.Calls.{Lent, says}
use Rattle.kill_ring.specs.Calls as rings
use Rattle.key_model.specs.declared.KeyAnswer.{KeyAnswer}
use Rattle.key_model.specs.Stands.{KeyCalls, unbound}
use Rattle.key_model.specs.Keyed.{KeyState}
use Rattle.key_model.specs.Contract.{with_ring, key_buffers, KeyDone, Keyed, Does}

-- the number of a refusal is not 0, which is that of a call that passes
pub refused-not0 : (w : Refused) → number_of w ≡ 0 → ⊥
refused-not0 Sizes e = omega arith
refused-not0 Code e = omega arith
refused-not0 Foreign e = omega arith
refused-not0 Place e = omega arith
refused-not0 Split e = omega arith
refused-not0 Prompt e = omega arith
refused-not0 Damaged e = omega arith
refused-not0 Full e = omega arith
refused-not0 LogFull e = omega arith
refused-not0 RingFull e = omega arith
refused-not0 Misfit e = omega arith
refused-not0 Unbound e = omega arith
refused-not0 PageFull e = omega arith

module _ (F : Format) (l : Lent) (g : rings.Lent) where
  -- not a byte of what was lent is changed
  pub refused_keyed : (x : KeyCalls) (o : Outcome KeyState) (k : ℕ) → o ≡ refused k → {r : KeyAnswer} → r ≡ with_ring (says k l.line l.log) g.ring
      → Keyed catalogue F l g x o r (key_buffers l.text l.records l.texts g.slots g.lens)
  refused_keyed x o k e {r} f =
      record {
        outcome =
            subst (λ (q : Outcome KeyState). KeyDone F l g q r (key_buffers l.text l.records l.texts g.slots g.lens)) (sym e)
            (record { answer = f; bytes = (record { text = refl; records = refl; texts = refl }, record { slots = refl; lens = refl }) });
        kept =
            record {
              text = λ z. refl;
              log = λ z. (refl, refl);
              ring = λ z. record { slots = refl; lens = refl };
              still = λ n z y. refl;
            };
      }

  pub unbound_does : {r : KeyAnswer} → r ≡ with_ring (says 13 l.line l.log) g.ring
      → Does F l g unbound r (key_buffers l.text l.records l.texts g.slots g.lens)
  unbound_does f = refused_keyed unbound (refused 13) 13 refl f
