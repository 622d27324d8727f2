-- What a call makes of a state S: a refusal by its number, which changes nothing; or an answer, which is a number, two places and the state afterwards.
-- The number is 0 or 1, or that of a stop inside undo, redo or cancel.
use Rattle.std.specs.Prelude.{ℕ, zero, suc}

pub data Outcome (S : Type 0) : Type 0 where
  refused : ℕ → Outcome S
  answered : ℕ → ℕ → ℕ → S → Outcome S

-- its number
abbrev pub number_in : {S : Type 0} → Outcome S → ℕ
number_in (refused k) = k
number_in (answered k a b s) = k

-- the state that it leaves
abbrev pub leaves : {S : Type 0} → Outcome S → S → S
leaves (refused k) s = s
leaves (answered k a b s') s = s'

-- the lowest check that refuses, or what the call does where none does
abbrev pub called : {S : Type 0} → ℕ → Outcome S → Outcome S
called zero o = o
called (suc k) o = refused (suc k)
