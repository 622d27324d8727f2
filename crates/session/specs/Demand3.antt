-- Demand 3: what holds of undo and redo after every run, said of answers and of the bytes in the buffers.
use Rattle.std.specs.Prelude.{ℕ, ◌+◌, ◌≤◌, ◌≡◌, false, List, [], ◌∷◌, map, length}
use Rattle.repertoire.specs.Repertoire.{Repertoire}
use Rattle.checks.specs.Checks.{own_tests}
use Rattle.edit.specs.Calls.{Lent, format_of, checked}
use Rattle.session.specs.Calls.{undo, redo}
use Rattle.session.specs.Runs.{Step, AnyStep, left, SameText, SameLog, Run, left_by}

-- "the list of calls starts with both lists of the log empty, level 0, and a text, cursor and buffers that checks 2 to 6 pass"
pub record Starts (R : Repertoire) (l : Lent) : Type 0 where
  pub log : l.log ≡ record { undo = record { records = 0; texts = 0 }; redo = record { records = 0; texts = 0 }; level = 0 }
  pub passes : checked R (format_of l) l (own_tests false false false) ≡ 0

-- undo calls with any n, and undo calls with n = 1
abbrev pub undos : List ((n : ℕ) × Step (undo n)) → List AnyStep
undos xs = map (λ (x : (n : ℕ) × Step (undo n)). (undo x.0, x.1)) xs

abbrev pub ones : List (Step (undo 1)) → List AnyStep
ones xs = map (λ (x : Step (undo 1)). (undo 1, x)) xs

-- none is refused
abbrev pub AllAnswered : List ((n : ℕ) × Step (undo n)) → Type 0
AllAnswered [] = Unit {0}
AllAnswered (x ∷ xs) = (x.1.answer.number ≤ 1) × AllAnswered xs

-- the undo list is empty
abbrev pub Emptied : Lent → Type 0
Emptied l = l.log.undo ≡ record { records = 0; texts = 0 }

-- of what a list of calls leaves, l, where l₀ was there first
pub record Demand3 (R : Repertoire) (l₀ l : Lent) : Type 0 where
  -- "undoing to the end gives the first text byte for byte": in one call or several and with any n. None of them is refused
  pub to_end : (xs : List ((n : ℕ) × Step (undo n))) → Run R l (undos xs) → AllAnswered xs × (Emptied (left_by l (undos xs)) → SameText l₀ (left_by l (undos xs)))
  -- "the units there are the undo calls with n = 1 that it takes to empty the undo list": with fewer it is not empty, with so many it is
  pub units : ℕ
  pub counted : (xs : List (Step (undo 1))) → Run R l (ones xs) → (Emptied (left_by l (ones xs)) → units ≤ length xs) × (units ≤ length xs → Emptied (left_by l (ones xs)))
  -- no more than n can name, and one call does it
  pub few : units ≤ 65535
  pub in_one : (x : Step (undo units)) → Run R l ((undo units, x) ∷ []) → Emptied (left (undo units) x)
  -- "undo n / redo n gives back text and both lists", for n from 1 to the units there. None of them is refused
  pub round :
      (n : ℕ) (x : Step (undo n)) (y : Step (redo n)) → 1 ≤ n → n ≤ units → Run R l ((undo n, x) ∷ (redo n, y) ∷ [])
      → (x.answer.number ≤ 1) × (y.answer.number ≤ 1) × SameText l (left (redo n) y) × SameLog l (left (redo n) y)
  -- "undo n then m is undo n + m": the same text, cursor and log. None of them is refused
  pub sum :
      (n m : ℕ) (x : Step (undo n)) (y : Step (undo m)) (z : Step (undo (n + m))) → 1 ≤ n → 1 ≤ m → Run R l ((undo n, x) ∷ (undo m, y) ∷ []) → Run R l ((undo (n + m), z) ∷ [])
      → (x.answer.number ≤ 1) × (y.answer.number ≤ 1) × (z.answer.number ≤ 1)
      × SameText (left (undo m) y) (left (undo (n + m)) z) × (z.answer.line ≡ y.answer.line) × SameLog (left (undo m) y) (left (undo (n + m)) z)
