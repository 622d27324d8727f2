-- A key that is refused gives the lowest number, and one that is done leaves what its calls leave. Assumes nothing.
use Prim.Native.Nat.{ℕ, zero, suc}
use native.Mathlib.Omega.{arith}
use mathlib.Core.Path.{◌≡◌, refl}
use Rattle.checks.specs.Checks.{lower}
use Rattle.checks.specs.Outcome.{Outcome, refused, answered, number_in, leaves}
use Rattle.edit.specs.Plan.{State}
use Rattle.kill_ring.specs.Ring.{KillRing}
use Rattle.key_model.specs.Keyed.{KeyState, key_state, together, lowest}

-- the number that an outcome refuses by, 0 where it does not
abbrev pub refusal_in : {S : Type 0} → Outcome S → ℕ
refusal_in (refused k) = k
refusal_in (answered k a b s) = 0

-- both refuse: the lower; one: its number
pub together_refuses : (o : Outcome State) (q : Outcome KillRing) → refusal_in (together o q) ≡ lower (refusal_in o) (refusal_in q)
together_refuses (refused j) (refused k) = refl
together_refuses (refused zero) (answered k a b r) = refl
together_refuses (refused (suc j)) (answered k a b r) = refl
together_refuses (answered k a b s) (refused j) = refl
together_refuses (answered k a b s) (answered k' a' b' r) = refl

pub lowest_refuses : (c : ℕ) (o : Outcome KeyState) → refusal_in (lowest c o) ≡ lower c (refusal_in o)
lowest_refuses zero o = refl
lowest_refuses (suc c) (refused k) = refl
lowest_refuses (suc c) (answered k a b h) = refl

-- both are done: the line's number, and what each leaves
pub together_does : (o : Outcome State) (q : Outcome KillRing) (k a b : ℕ) (h : KeyState) (s : State) (r : KillRing) → together o q ≡ answered k a b h
    → (number_in o ≡ k) × (h ≡ key_state (leaves o s) (leaves q r))
together_does (refused i) (refused j) k a b h s r e = let z : ◌≡◌ {A = ℕ} 0 1 = cc in absurd (omega arith)
together_does (refused i) (answered k' a' b' y) k a b h s r e = let z : ◌≡◌ {A = ℕ} 0 1 = cc in absurd (omega arith)
together_does (answered k' a' b' x) (refused j) k a b h s r e = let z : ◌≡◌ {A = ℕ} 0 1 = cc in absurd (omega arith)
together_does (answered i a' b' x) (answered j a'' b'' y) k a b h s r e = (cc, cc)
