-- The number that a key's checks give, in the format that the program finds: refused by it, or done. Assumes nothing.
use Prim.Native.Nat.{ℕ}
use mathlib.Core.Path.{◌≡◌, sym, ap, subst, ◌∙◌}
use mathlib.Core.Bool.{Bool, true, false}
use mathlib.Core.List.{List}
use lib.ListN.{take}
use Rattle.repertoire.specs.Repertoire.{catalogue}
use Rattle.formats.specs.declared.Format.{Format}
use Rattle.checks.specs.Checks.{lower, both, own_tests}
use Rattle.checks.specs.Outcome.{Outcome, refused}
use Rattle.log_records.specs.Walks.{LastAt}
use Rattle.edit.specs.Calls.{Lent, format_of, checked, says, Ready}
use Rattle.kill_ring.specs.Calls as rings
use Rattle.key_press.specs.declared.Press.{Press}
use Rattle.key_press.specs.Keys.{press_of, foreign_key}
use Rattle.key_model.specs.declared.KeyAnswer.{KeyAnswer}
use Rattle.key_model.specs.Stands.{stands_for}
use Rattle.key_model.specs.Own.{key_own, fit_press}
use Rattle.key_model.specs.Keyed.{KeyState, done, key_call}
use Rattle.key_model.specs.Contract.{with_ring, KeyBuffers, key_buffers, Keyed, Presses, Passed, Does}
use Rattle.key_model.proofs.Refusals.{ring_refuses, passes, refuses}
use Rattle.key_model.proofs.FitPresses.{bound_fits, press_fits}
use Rattle.key_calls.proofs.Refused.{refused_keyed}

-- s are the key's bytes; F was found to be the format, q what the key stands for, f whether it is foreign
module _ (s : List ℕ) (l : Lent) (g : rings.Lent) {F : Format} (format : F ≡ format_of l) {q : Press} (press : q ≡ press_of catalogue s)
    {f : Bool} (foreign : f ≡ foreign_key catalogue s) where
  abbrev b : KeyBuffers
  b = key_buffers l.text l.records l.texts g.slots g.lens

  -- the ring's checks refuse
  pub by_ring : {c k n : ℕ} → c ≡ checked catalogue F l (own_tests false f false) → k ≡ rings.checked catalogue g false false → (k ≡ 0 → ⊥)
      → n ≡ lower c k → {r : KeyAnswer} → r ≡ with_ring (says n l.line l.log) g.ring → Presses catalogue s l g r b
  by_ring {c} {k} {n} e d h i a =
      refused_keyed (format_of l) l g (stands_for (press_of catalogue s)) (key_call catalogue (format_of l) l g s) n
      (ring_refuses catalogue l g s c k
      (e ∙ ap (λ (G : Format). checked catalogue G l (own_tests false f false)) format
      ∙ ap (λ (x : Bool). checked catalogue (format_of l) l (own_tests false x false)) foreign) d h ∙ ap refused (sym i)) a

  module _ (sound : rings.checked catalogue g false false ≡ 0) {c : ℕ}
      (number : c ≡ checked catalogue F l (both (own_tests false f false) (key_own catalogue F l g (stands_for q)))) where
    in_format : checked catalogue (format_of l) l
        (both (own_tests false (foreign_key catalogue s) false) (key_own catalogue (format_of l) l g (stands_for (press_of catalogue s)))) ≡ c
    in_format =
        sym
        (number ∙ ap (λ (G : Format). checked catalogue G l (both (own_tests false f false) (key_own catalogue G l g (stands_for q)))) format
        ∙ ap (λ (x : Bool). checked catalogue (format_of l) l (both (own_tests false x false) (key_own catalogue (format_of l) l g (stands_for q)))) foreign
        ∙ ap
        (λ (x : Press). checked catalogue (format_of l) l (both (own_tests false (foreign_key catalogue s) false) (key_own catalogue (format_of l) l g (stands_for x))))
        press)

    -- the checks of the text, the log, the key and what it puts in refuse
    pub by_checks : (c ≡ 0 → ⊥) → {r : KeyAnswer} → r ≡ with_ring (says c l.line l.log) g.ring → Presses catalogue s l g r b
    by_checks h a =
        refused_keyed (format_of l) l g (stands_for (press_of catalogue s)) (key_call catalogue (format_of l) l g s) c
        (refuses catalogue l g s sound (press_fits s) (bound_fits s) c in_format h) a

    -- they pass
    module _ (zero : c ≡ 0) where
      pass : (key_call catalogue (format_of l) l g s ≡ done catalogue (format_of l) l g (stands_for (press_of catalogue s)))
          × (checked catalogue (format_of l) l (key_own catalogue (format_of l) l g (stands_for (press_of catalogue s))) ≡ 0)
      pass = passes catalogue l g s sound (in_format ∙ zero)

      pub fit : fit_press catalogue q ≡ true
      fit = ap (fit_press catalogue) press ∙ press_fits s

      pub passed : Ready F l → (last : ℕ) → LastAt catalogue F (take l.log.undo.records l.records) last → Passed F l g (stands_for q) last
      passed ready last newest =
          record {
            format = format;
            line =
                ap (λ (G : Format). checked catalogue G l (key_own catalogue G l g (stands_for q))) format
                ∙ ap (λ (x : Press). checked catalogue (format_of l) l (key_own catalogue (format_of l) l g (stands_for x))) press ∙ pass.1;
            ready = ready;
            newest = newest;
            ring = sound;
          }

      pub does : {r : KeyAnswer} {z : KeyBuffers} → Does F l g (stands_for q) r z → Presses catalogue s l g r z
      does {r} {z} d =
          let x = stands_for (press_of catalogue s) in
          let e : Does (format_of l) l g x r z =
          subst (λ (G : Format). Does G l g x r z) format (subst (λ (y : Press). Does F l g (stands_for y) r z) press d) in
          subst (λ (o : Outcome KeyState). Keyed catalogue (format_of l) l g x o r z) (sym pass.0) e
