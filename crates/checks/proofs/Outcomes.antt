-- A call by its checks: what holds of their refusal, or of what the call does, holds of the call. n is the number of its checks. Assumes nothing.
use Prim.Native.Nat.{ℕ, zero, suc}
use mathlib.Core.Path.{◌≡◌, refl, sym, subst, ◌∙◌}
use Rattle.checks.specs.Outcome.{Outcome, refused, called}

module _ {S : Type 0} (P : Outcome S → Type 0) (o : Outcome S) where
  -- a check refuses
  pub called-refused : (k n : ℕ) → n ≡ k → (k ≡ 0 → ⊥) → P (refused k) → P (called n o)
  called-refused zero n e h p = absurd (h refl)
  called-refused (suc k) n e h p = subst (λ (i : ℕ). P (called i o)) (sym e) p

  -- all pass
  pub called-passed : (k n : ℕ) → n ≡ k → k ≡ 0 → P o → P (called n o)
  called-passed k n e z p = subst (λ (i : ℕ). P (called i o)) (sym (e ∙ z)) p
