-- A change, as undo.rs has it: Begin and End of a group, and the three changes of a text.
use Rattle.std.specs.Prelude.{ℕ, List, []}

-- a text put in, a text cut out, a text replaced by another, each at its place
pub data Edit : Type 0 where
  insert delete : ℕ → List ℕ → Edit
  replace : ℕ → List ℕ → List ℕ → Edit

pub data Change : Type 0 where
  begin end : Change
  edit : Edit → Change

abbrev pub place : Edit → ℕ
place (insert p s) = p
place (delete p s) = p
place (replace p o n) = p

-- the text that stands there before the change, and after it
abbrev pub old : Edit → List ℕ
old (insert p s) = []
old (delete p s) = s
old (replace p o n) = o

abbrev pub new : Edit → List ℕ
new (insert p s) = s
new (delete p s) = []
new (replace p o n) = n

-- the change that undoes it
abbrev pub flipped : Edit → Edit
flipped (insert p s) = delete p s
flipped (delete p s) = insert p s
flipped (replace p o n) = replace p n o

-- a record turned round: redo is undo with the lists exchanged and every record turned round
abbrev pub turn : Change → Change
turn begin = end
turn end = begin
turn (edit x) = edit (flipped x)
