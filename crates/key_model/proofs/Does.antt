-- A key does what its calls do: where it is answered, text, cursor and log are what its call on the line leaves and the ring is what the ring's call leaves, with
-- the line's number; where it is refused, by the lowest number of its checks and its calls. Assumes nothing.
use Prim.Native.Nat.{ℕ, zero, suc, ◌≤◌}
use native.Mathlib.Omega.{arith}
use mathlib.Core.Path.{◌≡◌, refl}
use mathlib.Core.Bool.{Bool, true, false, cond}
use mathlib.Core.List.{List}
use mathlib.Core.Logic.{◌⊎◌, inl, inr}
use lib.Dec.{eqb}
use borrow.Author.Tests.{eq-eqb}
use Rattle.lists.proofs.Bools.{by_less}
use Rattle.repertoire.specs.Repertoire.{Repertoire}
use Rattle.formats.specs.declared.Format.{Format}
use Rattle.checks.specs.Checks.{lower}
use Rattle.checks.specs.Outcome.{Outcome, refused, answered, number_in, leaves}
use Rattle.checks.proofs.LowerNumbers.{lower-first, lower-second}
use Rattle.edit.specs.Plan.{State}
use Rattle.edit.specs.Calls.{Lent, text_of, state_of}
use Rattle.edit_kill.specs.Kills.{kill_range}
use Rattle.kill_ring.specs.Ring.{KillRing, slot_at, yank_out, yank_pop_out}
use Rattle.kill_ring.specs.Calls as rings
use Rattle.key_press.specs.Keys.{press_of}
use Rattle.calls.specs.Calls.{Asked, edit, outcome_of}
use Rattle.calls.specs.Calls as calls
use Rattle.key_model.specs.Stands.{KeyCalls, unbound, line, kill, yank, yank_pop, stands_for}
use Rattle.key_model.specs.Keyed.{KeyState, key_state, lowest, ring_now, reset_after, killed_to, yanked_by, done, key_checked, key_call}
use Rattle.key_model.proofs.Numbers.{refusal_in, lowest_refuses, together_does}

-- ---- the lower of two numbers is one of them, and no higher than the other
pub lower-one : (a b : ℕ) → (lower a b ≡ a) ⊎ (lower a b ≡ b)
lower-one zero b = inr refl
lower-one (suc a) zero = inl refl
lower-one (suc a) (suc b) =
    by_less ((lower (suc a) (suc b) ≡ suc a) ⊎ (lower (suc a) (suc b) ≡ suc b)) b a (λ h. inr (lower-second a b (omega arith))) (λ h. inl (lower-first a b h))

pub lower-least : (a b : ℕ) → (a ≡ 0 → ⊥) → (b ≡ 0 → ⊥) → (lower a b ≤ a) × (lower a b ≤ b)
lower-least zero b h i = absurd (h refl)
lower-least (suc a) zero h i = absurd (i refl)
lower-least (suc a) (suc b) h i =
    by_less ((lower (suc a) (suc b) ≤ suc a) × (lower (suc a) (suc b) ≤ suc b)) b a
    (λ k. let e = lower-second a b (omega arith) in (omega (arith, e), omega (arith, e)))
    (λ k. let e = lower-first a b k in (omega (arith, e), omega (arith, e)))

-- ---- an answer is no refusal
lowest_does : (c : ℕ) (o : Outcome KeyState) {k a b : ℕ} {h : KeyState} → lowest c o ≡ answered k a b h → o ≡ answered k a b h
lowest_does zero o e = e
lowest_does (suc c) (refused j) e = let z : ◌≡◌ {A = ℕ} 0 1 = cc in absurd (omega arith)
lowest_does (suc c) (answered j i i' s) e = let z : ◌≡◌ {A = ℕ} 0 1 = cc in absurd (omega arith)

cond_does : (t : Bool) (c : ℕ) (o : Outcome KeyState) {k a b : ℕ} {h : KeyState} → cond t o (refused c) ≡ answered k a b h → o ≡ answered k a b h
cond_does true c o e = e
cond_does false c o e = let z : ◌≡◌ {A = ℕ} 0 1 = cc in absurd (omega arith)

module _ (R : Repertoire) (F : Format) (l : Lent) (g : rings.Lent) where
  -- what two calls leave, with the line's number
  abbrev pub BothLeave : Outcome State → Outcome KillRing → ℕ → KeyState → Type 0
  BothLeave o q k h = (number_in o ≡ k) × (h ≡ key_state (leaves o (state_of R F l)) (leaves q (ring_now R F l g)))

  -- the ring's text is put in; or the ring gives none, and the state is as it was
  abbrev pub GivenLeave : Outcome KillRing → (ℕ → ℕ → KillRing → Asked) → ℕ → KeyState → Type 0
  GivenLeave (refused j) f k h = ⊥
  GivenLeave (answered zero slot size r) f k h = BothLeave (outcome_of R F l (f slot size r)) (answered zero slot size r) k h
  GivenLeave (answered (suc j) slot size r) f k h = (k ≡ suc j) × (h ≡ key_state (state_of R F l) r)

  abbrev pub CallsLeave : KeyCalls → ℕ → KeyState → Type 0
  CallsLeave unbound k h = ⊥
  CallsLeave (line a) k h = BothLeave (outcome_of R F l a) (reset_after R F l g (outcome_of R F l a)) k h
  CallsLeave (kill x mvt mode) k h =
      BothLeave (outcome_of R F l (edit x)) (killed_to R F l g (kill_range R (text_of l) l.line.cursor mvt) mode) k h
  CallsLeave (yank n) k h = GivenLeave (yank_out (ring_now R F l g)) (λ slot size r. edit (calls.yank (slot_at r slot) n)) k h
  CallsLeave yank_pop k h = GivenLeave (yank_pop_out (ring_now R F l g)) (λ slot size r. edit (calls.yank_pop size (slot_at r slot))) k h

  given_does : (o : Outcome KillRing) (f : ℕ → ℕ → KillRing → Asked) {k a b : ℕ} {h : KeyState} → yanked_by R F l g o f ≡ answered k a b h → GivenLeave o f k h
  given_does (refused j) f e = let z : ◌≡◌ {A = ℕ} 0 1 = cc in absurd (omega arith)
  given_does (answered zero slot size r) f {k} {a} {b} {h} e =
      together_does (outcome_of R F l (f slot size r)) (answered zero slot size r) k a b h (state_of R F l) (ring_now R F l g) e
  given_does (answered (suc j) slot size r) f e = (cc, cc)

  calls_do : (x : KeyCalls) {k a b : ℕ} {h : KeyState} → done R F l g x ≡ answered k a b h → CallsLeave x k h
  calls_do unbound e = let z : ◌≡◌ {A = ℕ} 0 1 = cc in absurd (omega arith)
  calls_do (line c) {k} {a} {b} {h} e = together_does (outcome_of R F l c) (reset_after R F l g (outcome_of R F l c)) k a b h (state_of R F l) (ring_now R F l g) e
  calls_do (kill x mvt mode) {k} {a} {b} {h} e =
      together_does (outcome_of R F l (edit x)) (killed_to R F l g (kill_range R (text_of l) l.line.cursor mvt) mode) k a b h (state_of R F l) (ring_now R F l g) e
  calls_do (yank n) e = given_does (yank_out (ring_now R F l g)) _ e
  calls_do yank_pop e = given_does (yank_pop_out (ring_now R F l g)) _ e

  pub key_does : (s : List ℕ) {k a b : ℕ} {h : KeyState} → key_call R F l g s ≡ answered k a b h → CallsLeave (stands_for (press_of R s)) k h
  unfolding key_call
  key_does s e =
      let x = stands_for (press_of R s) in
      let c = key_checked R F l g s in
      calls_do x (lowest_does c (done R F l g x) (cond_does (eqb (rings.checked R g false false) 0) c (lowest c (done R F l g x)) e))

  -- the checks' number and the calls': the lower of both, where there are both
  pub key-refused : (s : List ℕ) → rings.checked R g false false ≡ 0
      → refusal_in (key_call R F l g s) ≡ lower (key_checked R F l g s) (refusal_in (done R F l g (stands_for (press_of R s))))
  unfolding key_call
  key-refused s e =
      rw (eq-eqb (rings.checked R g false false) 0 e) (lowest_refuses (key_checked R F l g s) (done R F l g (stands_for (press_of R s))))
