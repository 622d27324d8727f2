use native.Mathlib.Omega.{arith}
use Prim.Native.Nat.{◌+◌}
use mathlib.Core.Path.{◌≡◌, refl, ◌∙◌}
use mathlib.Core.Bool.{false}
use Rattle.undo.specs.Steps.{begins_in, ends_in}
use Rattle.undo.proofs.Passes.{is-stop, no-stop}
use Rattle.undo.proofs.Seams.{some_next, none_next}
use Rattle.undo.proofs.Counts.{is_begin, no_begin, is_end, no_end, one_of, counts_on}
use Rattle.undo.proofs.Walks.{falls}
use Rattle.undo.proofs.Units.{walking_first, walked_all, walked_stop, walking_on, walked_last}
use Rattle.undo_redo.proofs.Redos.{redone}
use Rattle.undo_redo.proofs.redo_unit.Goals as goal
use Rattle.undo_redo.proofs.redo_unit.Goals.{After-from-in-loop-checked, in-Begin, in_default, in-End, in_default-matches}

-- the record counted, by its kind
begins : (c : After-from-in-loop-checked) → c.from.result ≡ begins_in c.redo_record-p.result.kind
begins c = c.from.ensures ∙ elim c.match-matches.branch [
  | in-Begin w ↦ rw w.matches-is (is_begin w.in-Begin.is)
  | in_default w ↦ rw w.matches-is (no_begin _ w.in_default.not-Begin)
]

ends : (c : After-from-in-loop-checked) → c.from-in-loop-checked.result ≡ ends_in c.redo_record-p.result.kind
ends c = c.from-in-loop-checked.ensures ∙ elim c.match-matches-2.branch [
  | in-End w ↦ rw w.matches-is (is_end w.in-End.is)
  | in_default-matches w ↦ rw w.matches-is (no_end _ w.in_default-matches.not-End)
]

pub loop-checked-init : goal.loop-checked-init
loop-checked-init c = walking_first false 0 c.requires.ready

pub returns-then-d-eq0 : goal.returns-then-d-eq0
returns-then-d-eq0 c =
    let k = c.loop-checked.invariant in
    redone (walked_all k (none_next k.come.ready c.if-d-eq0.true) c.answer.ensures)

pub redo_record-p-requires : goal.redo_record-p-requires
redo_record-p-requires c =
    let k = c.loop-checked.invariant in
    record {
      fit = c.requires.fit;
      ready = k.come.ready;
      number_value = (k.come.on, omega (arith, c.if-d-eq0.false));
    }

pub shape_of-text-then-is_some : goal.shape_of-text-then-is_some
shape_of-text-then-is_some c =
    let k = c.loop-checked.invariant in
    c.redo_record-p.auto.text ∙ k.come.text

pub returns-then-is_some : goal.returns-then-is_some
returns-then-is_some c =
    let k = c.loop-checked.invariant in
    let n = some_next k.come.ready (omega (arith, c.if-d-eq0.false)) in
    redone (walked_stop k n.2 c.redo_record-p.result c.redo_record-p.new.text c.redo_record-p.ensures (is-stop c.is_some.ensures c.if-is_some.true)
    c.answer-then-is_some.ensures)

pub shape_of-text-then-ends-begins : goal.shape_of-text-then-ends-begins
shape_of-text-then-ends-begins c =
    let k = c.loop-checked.invariant in
    c.redo_record-p.auto.text ∙ k.come.text

pub returns-then-ends-begins : goal.returns-then-ends-begins
returns-then-ends-begins c =
    let here = (goal.at.returns-then-ends-begins c).After-from-in-loop-checked in
    let k = c.loop-checked.invariant in
    let n = some_next k.come.ready (omega (arith, c.if-d-eq0.false)) in
    let z = no-stop c.is_some.ensures c.if-is_some.false in
    let w = counts_on c.redo_record-p.result.kind (begins here) (ends here) c.args.checked.format n.0 k.waiting c.loop-checked.ends
    c.loop-checked.begins k.waits (c.redo_record-p.ensures n.0 n.1 n.2).0 in
    let few = one_of c.redo_record-p.result.kind (begins here) (ends here) in
    redone
    (walked_last k n.2 c.redo_record-p.result c.redo_record-p.new.text c.redo_record-p.ensures c.redo_record-p.auto.text z
    (c.loop-checked.ends + c.from.result) (c.loop-checked.begins + c.from-in-loop-checked.result) w (omega (arith, few))
    c.if-ends-begins.true refl c.answer-then-ends-begins.ensures)

pub loop-checked-smaller : goal.loop-checked-smaller
loop-checked-smaller c =
    let k = c.loop-checked.invariant in
    let n = some_next k.come.ready (omega (arith, c.if-d-eq0.false)) in
    let z = no-stop c.is_some.ensures c.if-is_some.false in
    falls false k.come n.2 c.redo_record-p.result c.redo_record-p.new.text c.redo_record-p.ensures c.redo_record-p.auto.text z

pub loop-checked-preserved : goal.loop-checked-preserved
loop-checked-preserved c =
    let here = (goal.at.loop-checked-preserved c).After-from-in-loop-checked in
    let k = c.loop-checked.invariant in
    let n = some_next k.come.ready (omega (arith, c.if-d-eq0.false)) in
    let z = no-stop c.is_some.ensures c.if-is_some.false in
    let w = counts_on c.redo_record-p.result.kind (begins here) (ends here) c.args.checked.format n.0 k.waiting c.loop-checked.ends
    c.loop-checked.begins k.waits (c.redo_record-p.ensures n.0 n.1 n.2).0 in
    let few = one_of c.redo_record-p.result.kind (begins here) (ends here) in
    walking_on k n.2 c.redo_record-p.result c.redo_record-p.new.text c.redo_record-p.ensures c.redo_record-p.auto.text z
    (c.loop-checked.ends + c.from.result) (c.loop-checked.begins + c.from-in-loop-checked.result) w (omega (arith, few)) c.if-ends-begins.false
