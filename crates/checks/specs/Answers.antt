-- What a call that is lent a text to read comes to, with the line as its state, and its answer: a number of document 01, places, and the line
-- afterwards.
use Rattle.std.specs.Prelude.{ℕ, zero, suc, Option, None, Some}
use Rattle.checks.specs.declared.Line.{Line}
use Rattle.checks.specs.declared.LineAnswer.{LineAnswer}
use Rattle.checks.specs.declared.ValueAnswer.{ValueAnswer}
use Rattle.checks.specs.Outcome.{Outcome, refused, answered}

-- a number alone: the line is as it was
abbrev pub says : ℕ → Line → LineAnswer
says n line = record { number = n; from = 0; to = 0; line = line }

-- the answer of an outcome
abbrev pub line_answer : Line → Outcome Line → LineAnswer
line_answer line (refused k) = says k line
line_answer line (answered k a b l) = record { number = k; from = a; to = b; line = l }

abbrev pub with_cursor : Line → ℕ → Line
with_cursor line p = record { len = line.len; cursor = p }

-- the cursor goes to the place found; 1 where there is none
abbrev pub moved_to : Line → Option ℕ → Outcome Line
moved_to line (Some p) = answered 0 0 0 (with_cursor line p)
moved_to line None = answered 1 0 0 line

-- the place found is answered
abbrev pub place_of : Line → Option ℕ → Outcome Line
place_of line (Some p) = answered 0 p 0 line
place_of line None = answered 1 0 0 line

-- the answer of a call that answers one number v: v where no check refuses, 0 beside the number of one that does
abbrev pub value_answer : ℕ → ℕ → ValueAnswer
value_answer zero v = record { number = 0; value = v }
value_answer (suc k) v = record { number = suc k; value = 0 }
