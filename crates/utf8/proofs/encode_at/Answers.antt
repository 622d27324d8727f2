use mathlib.Core.Path.{sym, ◌∙◌}
use native.Mathlib.Omega.{arith}
use lib.ListN.{length-set}
use Rattle.utf8.proofs.Encode.{size_1, size_2, size_3, size_4, scalar_true, refused, no_room, wrote_one, wrote_two, wrote_three, wrote_four}
use Rattle.utf8.proofs.encode_at.Goals as goal
use Rattle.utf8.proofs.encode_at.Goals.{then-not-is_scalar-via-then-not-is_scalar, then-not-is_scalar-via-else-not-is_scalar+then-out-at}
use Rattle.utf8.proofs.encode_at.Goals.{then-not-is_scalar-via-else-not-is_scalar+else-out-at+then-out-at-2}

pub returns-then-not-is_scalar : goal.returns-then-not-is_scalar
returns-then-not-is_scalar c = elim c.then-not-is_scalar.branch [
  | then-not-is_scalar-via-then-not-is_scalar w ↦ refused _ _ _ (sym c.is_scalar.ensures ∙ w.if-not-is_scalar.true)
  | then-not-is_scalar-via-else-not-is_scalar+then-out-at w ↦ no_room _ _ _ _ c.char_size-n.ensures (omega arith)
  | then-not-is_scalar-via-else-not-is_scalar+else-out-at+then-out-at-2 w ↦ no_room _ _ _ _ c.char_size-n.ensures (omega arith)
]

pub overflow_cast-out : goal.overflow_cast-out
overflow_cast-out c = omega (arith, size_1 _ _ c.char_size-n.ensures c.in-1.is)

pub overflow_cast-out-in-2 : goal.overflow_cast-out-in-2
overflow_cast-out-in-2 c = omega (arith, size_2 _ _ c.char_size-n.ensures c.in-2.is)

pub overflow_cast-out-in-3 : goal.overflow_cast-out-in-3
overflow_cast-out-in-3 c = omega (arith, size_3 _ _ c.char_size-n.ensures c.in-3.is)

pub overflow_cast-out-in_default : goal.overflow_cast-out-in_default
overflow_cast-out-in_default c = omega (arith, (scalar_true _ (sym c.is_scalar.ensures ∙ c.if-not-is_scalar.false)).0)

pub bounds-out-at-in_default : goal.bounds-out-at-in_default
bounds-out-at-in_default c = omega (arith, size_4 _ _ c.char_size-n.ensures (omega arith) (omega arith) (omega arith))

pub bounds-out-at-in_default-2 : goal.bounds-out-at-in_default-2
bounds-out-at-in_default-2 c =
    simp length-set (omega (arith, size_4 _ _ c.char_size-n.ensures (omega arith) (omega arith) (omega arith)))

pub bounds-out-at-in_default-3 : goal.bounds-out-at-in_default-3
bounds-out-at-in_default-3 c =
    simp length-set (omega (arith, size_4 _ _ c.char_size-n.ensures (omega arith) (omega arith) (omega arith)))

pub bounds-out-at-in_default-4 : goal.bounds-out-at-in_default-4
bounds-out-at-in_default-4 c =
    simp length-set (omega (arith, size_4 _ _ c.char_size-n.ensures (omega arith) (omega arith) (omega arith)))

pub returns-in-1 : goal.returns-in-1
returns-in-1 c =
    wrote_one _ _ _ _ (sym c.is_scalar.ensures ∙ c.if-not-is_scalar.false) c.char_size-n.ensures (omega arith) c.in-1.is

pub returns-in-2 : goal.returns-in-2
returns-in-2 c =
    wrote_two _ _ _ _ (sym c.is_scalar.ensures ∙ c.if-not-is_scalar.false) c.char_size-n.ensures (omega arith) c.in-2.is

pub returns-in-3 : goal.returns-in-3
returns-in-3 c =
    wrote_three _ _ _ _ (sym c.is_scalar.ensures ∙ c.if-not-is_scalar.false) c.char_size-n.ensures (omega arith) c.in-3.is

pub returns-in_default : goal.returns-in_default
returns-in_default c =
    wrote_four _ _ _ _ (sym c.is_scalar.ensures ∙ c.if-not-is_scalar.false) c.char_size-n.ensures (omega arith)
    (omega arith) (omega arith) (omega arith)
