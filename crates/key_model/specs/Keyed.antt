-- Order 1 of document 02: "Each key's effect is proved to be that of the calls it stands for; if any is refused, the key gives the lowest such number and
-- nothing changes, save what 01 lets a stopped undo leave. Else it answers what its call on the line answers, or 1 where the ring gives no text."
use Rattle.std.specs.Prelude.{ℕ, zero, suc, false, cond, List, eqb, leb, Option, None, Some}
use Rattle.std.proofs.Math.Option.{Option as Maybe, some, none}
use Rattle.lists.specs.Lists.{part}
use Rattle.repertoire.specs.Repertoire.{Repertoire}
use Rattle.formats.specs.declared.Format.{Format}
use Rattle.checks.specs.Checks.{lower, both, refusal, line_tests, own_tests}
use Rattle.checks.specs.Outcome.{Outcome, refused, answered, number_in}
use Rattle.log_state.specs.Logs.{log_tests}
use Rattle.edit.specs.Plan.{State}
use Rattle.edit.specs.Calls.{Lent, text_of, state_of}
use Rattle.edit_kill.specs.Kills.{kill_range}
use Rattle.kill_ring.specs.declared.Mode.{Mode}
use Rattle.kill_ring.specs.Ring.{KillRing, slot_at, reset_out, kill_out, yank_out, yank_pop_out}
use Rattle.kill_ring.specs.Calls as rings
use Rattle.key_press.specs.Keys.{press_of, foreign_key}
use Rattle.calls.specs.Calls.{Asked, edit, outcome_of}
use Rattle.calls.specs.Calls as calls
use Rattle.key_model.specs.Stands.{KeyCalls, unbound, line, kill, yank, yank_pop, stands_for}
use Rattle.motion_lines.specs.declared.Span.{Span}

-- what a key works on: text, cursor and log, and the ring
pub record KeyState : Type 0 where
  pub state : State
  pub ring : KillRing

abbrev pub key_state : State → KillRing → KeyState
key_state s r = record { state = s; ring = r }

-- ---- two calls as one: both are done, or neither
abbrev pub together : Outcome State → Outcome KillRing → Outcome KeyState
together (refused j) (refused k) = refused (lower j k)
together (refused j) (answered k a b r) = refused j
together (answered k a b s) (refused j) = refused j
together (answered k a b s) (answered k' a' b' r) = answered k a b (key_state s r)

-- a number that refuses already, 0 where none does, and an outcome
abbrev pub lowest : ℕ → Outcome KeyState → Outcome KeyState
lowest zero o = o
lowest (suc c) (refused k) = refused (lower (suc c) k)
lowest (suc c) (answered k a b h) = refused (suc c)

module _ (R : Repertoire) (F : Format) (l : Lent) (g : rings.Lent) where
  abbrev pub ring_now : KillRing
  ring_now = rings.value_of g

  -- ---- "every key but a kill, yank or yank-pop resets it"; a stopped undo does not
  abbrev pub reset_after : Outcome State → Outcome KillRing
  reset_after o = cond (leb (number_in o) 1) (reset_out ring_now) (answered 0 0 0 ring_now)

  -- ---- "a kill answered 1 leaves it as it is"
  abbrev pub killed_to : Option Span → Mode → Outcome KillRing
  killed_to (Some x) mode = kill_out mode (part (text_of l) x.start x.end) ring_now
  killed_to None mode = answered 1 0 0 ring_now

  -- ---- the ring's text is put in; 1 where it gives none
  abbrev pub yanked_by : Outcome KillRing → (ℕ → ℕ → KillRing → Asked) → Outcome KeyState
  yanked_by (refused k) f = refused k
  yanked_by (answered zero slot size r) f = together (outcome_of R F l (f slot size r)) (answered zero slot size r)
  yanked_by (answered (suc k) slot size r) f = answered (suc k) 0 0 (key_state (state_of R F l) r)

  -- ---- what a key does where the ring's checks pass
  abbrev pub done : KeyCalls → Outcome KeyState
  done unbound = refused 13
  done (line a) = together (outcome_of R F l a) (reset_after (outcome_of R F l a))
  done (kill x mvt mode) = together (outcome_of R F l (edit x)) (killed_to (kill_range R (text_of l) l.line.cursor mvt) mode)
  done (yank n) = yanked_by (yank_out ring_now) (λ slot size r. edit (calls.yank (slot_at r slot) n))
  done yank_pop = yanked_by (yank_pop_out ring_now) (λ slot size r. edit (calls.yank_pop size (slot_at r slot)))

  -- ---- the call: 2 to 8 over all that is lent, whatever the key
  abbrev pub key_checked : List ℕ → ℕ
  key_checked s =
      refusal (both (line_tests R F l.text l.line) (both (log_tests R F l.log l.records l.texts)
      (both (rings.ring_tests R g) (own_tests false (foreign_key R s) false))))

  -- the lowest number; a ring that is refused gives no text, so the calls are tried only where it is not
  unfoldable pub key_call : List ℕ → Outcome KeyState
  key_call s =
      cond (eqb (rings.checked R g false false) 0) (lowest (key_checked s) (done (stands_for (press_of R s)))) (refused (key_checked s))

  -- ---- the call on the line, where there is one: none is made where the ring gives no text
  abbrev pub given : Outcome KillRing → (ℕ → ℕ → KillRing → Asked) → Maybe Asked
  given (refused k) f = none
  given (answered zero slot size r) f = some (f slot size r)
  given (answered (suc k) slot size r) f = none

  abbrev pub on_line : KeyCalls → Maybe Asked
  on_line unbound = none
  on_line (line a) = some a
  on_line (kill x mvt mode) = some (edit x)
  on_line (yank n) = given (yank_out ring_now) (λ slot size r. edit (calls.yank (slot_at r slot) n))
  on_line yank_pop = given (yank_pop_out ring_now) (λ slot size r. edit (calls.yank_pop size (slot_at r slot)))

-- ---- in demand 3 a key is what it does to text, cursor and log
abbrev pub line_of : Outcome KeyState → Outcome State
line_of (refused k) = refused k
line_of (answered k a b h) = answered k a b h.state
