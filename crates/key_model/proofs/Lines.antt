-- In demand 3 a key counts as the call on the line that it stands for: what holds of every refusal, of an answer that leaves the state as it was, and of that
-- call's outcome holds of what the key does to text, cursor and log. Assumes nothing.
use Prim.Native.Nat.{ℕ, zero, suc}
use mathlib.Core.Path.{◌≡◌, refl}
use mathlib.Core.Bool.{Bool, true, false, cond}
use mathlib.Core.List.{List}
use mathlib.Core.Option.{some}
use lib.Dec.{eqb}
use Rattle.repertoire.specs.Repertoire.{Repertoire}
use Rattle.formats.specs.declared.Format.{Format}
use Rattle.checks.specs.Checks.{lower}
use Rattle.checks.specs.Outcome.{Outcome, refused, answered}
use Rattle.edit.specs.Plan.{State}
use Rattle.edit.specs.Calls.{Lent, state_of}
use Rattle.kill_ring.specs.Ring.{KillRing, yank_out, yank_pop_out}
use Rattle.kill_ring.specs.Calls as rings
use Rattle.key_press.specs.Keys.{press_of}
use Rattle.calls.specs.Calls.{Asked, outcome_of}
use Rattle.key_model.specs.Stands.{KeyCalls, unbound, line, kill, yank, yank_pop, stands_for}
use Rattle.key_model.specs.Keyed.{KeyState, together, lowest, ring_now, yanked_by, done, key_checked, key_call, given, on_line, line_of}

module _ (P : Outcome State → Type 0) (f : (k : ℕ) → P (refused k)) where
  together-line : (o : Outcome State) (q : Outcome KillRing) → P o → P (line_of (together o q))
  together-line (refused j) (refused k) h = f (lower j k)
  together-line (refused j) (answered k a b r) h = h
  together-line (answered k a b s) (refused j) h = f j
  together-line (answered k a b s) (answered k' a' b' r) h = h

  lowest-line : (c : ℕ) (o : Outcome KeyState) → P (line_of o) → P (line_of (lowest c o))
  lowest-line zero o h = h
  lowest-line (suc c) (refused k) h = f (lower (suc c) k)
  lowest-line (suc c) (answered k a b x) h = f (suc c)

  cond-line : (b : Bool) (k : ℕ) (o : Outcome KeyState) → P (line_of o) → P (line_of (cond b o (refused k)))
  cond-line true k o h = h
  cond-line false k o h = f k

  module _ (R : Repertoire) (F : Format) (l : Lent) (g : rings.Lent) (u : (k : ℕ) → P (answered (suc k) 0 0 (state_of R F l))) where
    yanked-line : (o : Outcome KillRing) (c : ℕ → ℕ → KillRing → Asked) → ((a : Asked) → given R F l g o c ≡ some a → P (outcome_of R F l a))
        → P (line_of (yanked_by R F l g o c))
    yanked-line (refused k) c h = f k
    yanked-line (answered zero slot size r) c h = together-line (outcome_of R F l (c slot size r)) (answered zero slot size r) (h (c slot size r) refl)
    yanked-line (answered (suc k) slot size r) c h = u k

    done-line : (x : KeyCalls) → ((a : Asked) → on_line R F l g x ≡ some a → P (outcome_of R F l a)) → P (line_of (done R F l g x))
    done-line unbound h = f 13
    done-line (line a) h = together-line (outcome_of R F l a) _ (h a refl)
    done-line (kill x mvt mode) h = together-line _ _ (h _ refl)
    done-line (yank n) h = yanked-line (yank_out (ring_now R F l g)) _ h
    done-line yank_pop h = yanked-line (yank_pop_out (ring_now R F l g)) _ h

    pub key-line : (s : List ℕ) → ((a : Asked) → on_line R F l g (stands_for (press_of R s)) ≡ some a → P (outcome_of R F l a))
        → P (line_of (key_call R F l g s))
    unfolding key_call
    key-line s h =
        let x = stands_for (press_of R s) in
        let c = key_checked R F l g s in
        cond-line (eqb (rings.checked R g false false) 0) c (lowest c (done R F l g x)) (lowest-line c (done R F l g x) (done-line x h))
