-- One record undone, on values: undo.rs, undo of Change, and document 01's stops 12 and 9.
use Rattle.std.specs.Prelude.{ℕ, ◌+◌, ◌≡◌, Bool, true, cond, not, ◌&&◌, Option, None, Some, List, leb, ltb, length, take}
use Rattle.utf8.specs.Chars.{boundary}
use Rattle.checks.specs.declared.Refused.{Refused}
use Rattle.checks.specs.Refused.{number_of}
use Rattle.log_model.specs.Change.{Change, begin, end, edit, place, old, new, turn}
use Rattle.edit.specs.Plan.{splice}
use Rattle.undo_step.specs.declared.Step.{Step}

-- a text, a cursor, and whether a record of a text was undone
pub record StepState : Type 0 where
  pub text : List ℕ
  pub cursor : ℕ
  pub undone : Bool

-- what undoing a record leaves, or the number that it stops with
pub data StepOutcome : Type 0 where
  done : StepState → StepOutcome
  stops : ℕ → StepOutcome

-- 12: the n bytes at p that are to be taken out leave the text or cut a character
unfoldable pub misfit : List ℕ → ℕ → ℕ → Bool
misfit t p n = not (leb (p + n) (length t) && (boundary t p && boundary t (p + n)))

-- the n bytes at p taken out of the text t and s put in there: 12, then 9 where the text would be longer than C. The cursor goes behind s
unfoldable pub exchanging : ℕ → ℕ → ℕ → List ℕ → List ℕ → StepOutcome
exchanging C p n s t =
    cond (misfit t p n) (stops 12)
    (cond (ltb C (length (splice t p (p + n) s))) (stops 9)
    (done (record { text = splice t p (p + n) s; cursor = p + length s; undone = true })))

-- a record undone: its new text is taken out and its old text put back
unfoldable pub undoing : ℕ → Change → StepState → StepOutcome
undoing C begin s = done s
undoing C end s = done s
undoing C (edit x) s = exchanging C (place x) (length (new x)) (old x) s.text

-- a record as it is written, undone (back) or redone: the redo list has every record turned round
abbrev pub to_undo : Bool → Change → Change
to_undo back c = cond back c (turn c)

-- ---- what a record undone does to the bytes: b is the text's buffer before, b' after; a stop changes nothing
abbrev pub Exchanged : StepOutcome → ℕ → List ℕ → List ℕ → Type 0
Exchanged (done s) k b b' = (k ≡ 0) × (take (length s.text) b' ≡ s.text)
Exchanged (stops n) k b b' = (k ≡ n) × (b' ≡ b)

-- the number of what stopped a step, 0 where nothing did
abbrev pub stop_number : Option Refused → ℕ
stop_number None = 0
stop_number (Some why) = number_of why

abbrev pub step_to : StepState → Step
step_to s = record { stop = None; len = length s.text; cursor = s.cursor; undone = s.undone }

abbrev pub UndoneOrRedone : StepOutcome → Step → Step → List ℕ → List ℕ → Type 0
UndoneOrRedone (done s) q r b b' = (r ≡ step_to s) × (take (length s.text) b' ≡ s.text)
UndoneOrRedone (stops n) q r b b' =
    (stop_number r.stop ≡ n) × (r ≡ record { stop = r.stop; len = q.len; cursor = q.cursor; undone = q.undone }) × (b' ≡ b)
