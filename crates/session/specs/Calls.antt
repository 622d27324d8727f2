-- The calls of the list of demand 3: document 01's (calls/specs/Calls), and a key. Order 1 of document 02: "In demands 1 and 3 a number that these orders
-- add counts as 01's, and a key or added call as the calls it stands for." What each entry answers, and its contract.
use Rattle.std.specs.Prelude.{ℕ, List}
use Rattle.repertoire.specs.Repertoire.{Repertoire}
use Rattle.edit.specs.Calls.{Lent}
use Rattle.kill_ring.specs.Calls as rings
use Rattle.calls.specs.Calls as calls
use Rattle.calls.specs.CallContracts as contracts
use Rattle.calls.specs.CallContracts.{Buffers}
use Rattle.key_model.specs.declared.KeyAnswer.{KeyAnswer}
use Rattle.key_model.specs.Contract.{key_buffers, Presses}

-- a call of the list: one of 01's, or a key (order 1 of document 02) with the ring that goes with it, fit or unfit
pub data Call : Type 0 where
  asked : calls.Asked → Call
  key : List ℕ → rings.Lent → Call

abbrev pub undo : ℕ → Call
undo n = asked (calls.undo n)

abbrev pub redo : ℕ → Call
redo n = asked (calls.redo n)

-- the answer of a key, and the bytes of the ring's buffers afterwards
pub record KeyAnswered : Type 0 where
  pub answer : KeyAnswer
  pub slots : List ℕ
  pub lens : List ℕ

-- what its entry answers
abbrev pub AnswerTo : Call → Type 0
AnswerTo (asked a) = contracts.AnswerTo a
AnswerTo (key s g) = KeyAnswered

-- the contract of its entry: what is lent, the answer and the bytes of the buffers afterwards
abbrev pub Meets : Repertoire → (c : Call) → Lent → AnswerTo c → Buffers → Type 0
Meets R (asked a) l r b = contracts.Meets R a l r b
Meets R (key s g) l r b = Presses R s l g r.answer (key_buffers b.text b.records b.texts r.slots r.lens)
