-- The ring on lent bytes: document 01, "Log and ring", and its checks 2, 3, 4 and 8. A slot has 4,096 bytes in `slots` and its used length in 2 bytes of
-- `lens`, little-endian. What stands from the count on, and past a slot's used length, is not looked at.
use Rattle.std.specs.Prelude.{ℕ, zero, suc, ◌*◌, ◌≡◌, Bool, true, false, cond, not, ◌||◌, ◌&&◌, List, [], ◌∷◌, eqb, leb, ltb, length}
use Rattle.std.specs.Prelude.{take, drop, Option, None, Some, slice_get}
use Rattle.repertoire.specs.Repertoire.{Repertoire}
use Rattle.repertoire.specs.Text.{is_text}
use Rattle.checks.specs.Checks.{Tests, no_tests, with_sizes, with_damaged, both, refusal, own_tests}
use Rattle.checks.specs.Outcome.{Outcome, refused, answered, called}
use Rattle.numbers.specs.Numbers.{num_at}
use Rattle.kill_ring.specs.declared.Ring.{Ring}
use Rattle.kill_ring.specs.declared.RingAnswer.{RingAnswer}
use Rattle.kill_ring.specs.declared.AnswerAndRing.{AnswerAndRing}
use Rattle.kill_ring.specs.declared.Action.{Action}
use Rattle.kill_ring.specs.declared.Action.TheVariants.{Kill, Yank, Other}
use Rattle.kill_ring.specs.declared.Mode.{Mode}
use Rattle.kill_ring.specs.declared.Mode.TheVariants.{Append, Prepend}
use Rattle.kill_ring.specs.Ring.{KillRing, empty, reset_out, kill_out, yank_out, yank_pop_out}

-- the two buffers that a call is lent, and the ring's record
pub record Lent : Type 0 where
  pub slots : List ℕ
  pub lens : List ℕ
  pub ring : Ring

abbrev pub lent : List ℕ → List ℕ → Ring → Lent
lent s n r = record { slots = s; lens = n; ring = r }

-- ---- the ring that the bytes hold
abbrev pub len_at : List ℕ → ℕ → ℕ
len_at lens i = num_at 2 lens (2 * i)

abbrev pub slot_bytes : List ℕ → List ℕ → ℕ → List ℕ
slot_bytes slots lens i = take (len_at lens i) (drop (4096 * i) slots)

-- n slots from number i on
unfoldable pub slots_from : List ℕ → List ℕ → ℕ → ℕ → List (List ℕ)
slots_from slots lens i zero = []
slots_from slots lens i (suc n) = slot_bytes slots lens i ∷ slots_from slots lens (suc i) n

-- 0 kill, 1 yank with its size, 2 other
abbrev pub action_of : ℕ → ℕ → Action
action_of k n = cond (eqb k 0) Kill (cond (eqb k 1) (Yank n) Other)

abbrev pub value_of : Lent → KillRing
value_of l =
    record {
      size = l.ring.size;
      slots = slots_from l.slots l.lens 0 l.ring.count;
      index = l.ring.index;
      action = action_of l.ring.action l.ring.yanked;
    }

-- ---- check 2: over 16 slots, buffers shorter than the size asks, a slot's length over 4,096
unfoldable pub any_over : List ℕ → ℕ → ℕ → Bool
any_over lens i zero = false
any_over lens i (suc n) = ltb 4096 (len_at lens i) || any_over lens (suc i) n

-- the slots in use, as far as there are any
abbrev pub in_use : Ring → ℕ
in_use r = cond (ltb r.size r.count) r.size r.count

unfoldable pub over_sizes : Lent → Bool
over_sizes l =
    ltb 16 l.ring.size || (ltb (length l.slots) (4096 * l.ring.size) || (ltb (length l.lens) (2 * l.ring.size) || any_over l.lens 0 (in_use l.ring)))

-- ---- check 8: a count over the size, an index not below the count (0 if empty), a last action that is none, a slot that is no text
-- kill never with a size and no slots; a yank's size is 0 to 4,096, and 0 without a yank
unfoldable pub action_breaks : Ring → Bool
action_breaks r =
    ltb 2 r.action || (cond (eqb r.action 1) (ltb 4096 r.yanked) (not (eqb r.yanked 0)) || (eqb r.action 0 && (eqb r.count 0 && not (eqb r.size 0))))

abbrev pub index_breaks : Ring → Bool
index_breaks r = cond (eqb r.count 0) (not (eqb r.index 0)) (leb r.count r.index)

unfoldable pub any_foreign : Repertoire → List (List ℕ) → Bool
any_foreign R [] = false
any_foreign R (s ∷ ss) = not (is_text R s) || any_foreign R ss

unfoldable pub damaged : Repertoire → Lent → Bool
damaged R l = ltb l.ring.size l.ring.count || (index_breaks l.ring || (action_breaks l.ring || any_foreign R (value_of l).slots))

abbrev pub ring_tests : Repertoire → Lent → Tests
ring_tests R l = with_sizes (over_sizes l) (with_damaged (damaged R l) no_tests)

abbrev pub checked : Repertoire → Lent → Bool → Bool → ℕ
checked R l code foreign = refusal (both (ring_tests R l) (own_tests code foreign false))

-- ---- the calls
-- 0 Append, 1 Prepend
unfoldable pub mode_list : List Mode
mode_list = Append ∷ Prepend ∷ []

abbrev pub mode_of : ℕ → Option Mode
mode_of k = slice_get mode_list k

-- new is lent no ring that is looked at
abbrev pub new_call : ℕ → Outcome KillRing
new_call size = cond (ltb 16 size) (refused 2) (answered 0 0 0 (empty size))

module _ (R : Repertoire) (l : Lent) where
  abbrev pub reset_call : Outcome KillRing
  reset_call = called (checked R l false false) (reset_out (value_of l))

  abbrev pub kill_by : List ℕ → Option Mode → Outcome KillRing
  kill_by text (Some m) = called (checked R l false (not (is_text R text))) (kill_out m text (value_of l))
  kill_by text None = called (checked R l true (not (is_text R text))) (reset_out (value_of l))

  abbrev pub kill_call : List ℕ → ℕ → Outcome KillRing
  kill_call text mode = kill_by text (mode_of mode)

  abbrev pub yank_call : Outcome KillRing
  yank_call = called (checked R l false false) (yank_out (value_of l))

  abbrev pub yank_pop_call : Outcome KillRing
  yank_pop_call = called (checked R l false false) (yank_pop_out (value_of l))

-- ---- the answer, the record and the bytes of an outcome
abbrev pub says : ℕ → ℕ → ℕ → RingAnswer
says n slot size = record { number = n; slot = slot; size = size }

abbrev pub action_number : Action → ℕ
action_number Kill = 0
action_number (Yank n) = 1
action_number Other = 2

abbrev pub yank_size : Action → ℕ
yank_size Kill = 0
yank_size (Yank n) = n
yank_size Other = 0

abbrev pub ring_of : KillRing → Ring
ring_of r = record { size = r.size; count = length r.slots; index = r.index; action = action_number r.action; yanked = yank_size r.action }

-- the answer, and the ring's record afterwards: a refusal leaves it as it was
abbrev pub answer_and_ring : Ring → Outcome KillRing → AnswerAndRing
answer_and_ring r (refused k) = record { answer = says k 0 0; ring = r }
answer_and_ring r (answered k slot size v) = record { answer = says k slot size; ring = ring_of v }

-- the slots from number i on stand in the buffers
unfoldable pub SlotsIn : List ℕ → List ℕ → ℕ → List (List ℕ) → Type 0
SlotsIn slots lens i [] = Unit {0}
SlotsIn slots lens i (s ∷ ss) = (len_at lens i ≡ length s) × (take (length s) (drop (4096 * i) slots) ≡ s) × SlotsIn slots lens (suc i) ss

-- a refusal changes no byte. The bytes past the slots' used lengths after an answer are the program's own: that the buffers keep their lengths is all that is said of them
abbrev pub Bytes : Lent → Outcome KillRing → List ℕ → List ℕ → Type 0
Bytes l (refused k) slots lens = (slots ≡ l.slots) × (lens ≡ l.lens)
Bytes l (answered k slot size v) slots lens = SlotsIn slots lens 0 v.slots

-- the contract of a kill: the whole answer with the ring's record, and both buffers
pub record Ringed (l : Lent) (o : Outcome KillRing) (r : AnswerAndRing) (slots lens : List ℕ) : Type 0 where
  pub whole : r ≡ answer_and_ring l.ring o
  pub bytes : Bytes l o slots lens
