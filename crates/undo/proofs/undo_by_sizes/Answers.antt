use native.Mathlib.Omega.{arith}
use Prim.Native.Nat.{◌+◌, ◌-◌}
use mathlib.Core.Path.{◌≡◌, ◌∙◌}
use mathlib.Core.Bool.{true}
use Rattle.undo.specs.Undo.{undo_out}
use Rattle.undo.specs.Steps.{begins_in, ends_in}
use Rattle.undo.proofs.Passes.{is-stop, no-stop}
use Rattle.undo.proofs.Seams.{some_newest, none_newest}
use Rattle.undo.proofs.Counts.{is_begin, no_begin, is_end, no_end, one_of, counts_back}
use Rattle.undo.proofs.Walks.{edited, still, falls, sizes-next}
use Rattle.undo.proofs.Units.{walking_first, walked_all, walked_stop, walking_on, walking_next, walked_last}
use Rattle.undo.proofs.undo_by_sizes.Goals as goal
use Rattle.undo.proofs.undo_by_sizes.Goals.{After-from-in-loop-checked, in-Begin, in_default, in-End, in_default-matches}

-- the record counted, by its kind
begins : (c : After-from-in-loop-checked) → c.from.result ≡ begins_in c.undo_record-p.result.kind
begins c = c.from.ensures ∙ elim c.match-matches.branch [
  | in-Begin w ↦ rw w.matches-is (is_begin w.in-Begin.is)
  | in_default w ↦ rw w.matches-is (no_begin _ w.in_default.not-Begin)
]

ends : (c : After-from-in-loop-checked) → c.from-in-loop-checked.result ≡ ends_in c.undo_record-p.result.kind
ends c = c.from-in-loop-checked.ensures ∙ elim c.match-matches-2.branch [
  | in-End w ↦ rw w.matches-is (is_end w.in-End.is)
  | in_default-matches w ↦ rw w.matches-is (no_end _ w.in_default-matches.not-End)
]

pub loop-checked-init : goal.loop-checked-init
loop-checked-init c = (walking_first true (c.args.n - 1) c.requires.ready, c.requires.sizes_of)

pub returns-then-u-eq0 : goal.returns-then-u-eq0
unfolding undo_out
returns-then-u-eq0 c =
    let k = c.loop-checked.invariant.0 in
    let w = walked_all k (none_newest k.come.ready c.if-u-eq0.true) c.answer.ensures in
    record { outcome = edited w; still = still w }

pub undo_record-p-requires : goal.undo_record-p-requires
undo_record-p-requires c =
    let k = c.loop-checked.invariant.0 in
    record {
      fit = c.requires.fit;
      ready = k.come.ready;
      number_value = (k.come.on, omega (arith, c.if-u-eq0.false), omega (arith, c.requires.records_in_bounds, k.come.unmoved.fewer));
      sizes_of = c.loop-checked.invariant.1;
    }

pub shape_of-text-then-is_some : goal.shape_of-text-then-is_some
shape_of-text-then-is_some c =
    let k = c.loop-checked.invariant.0 in
    c.undo_record-p.auto.text ∙ k.come.text

pub returns-then-is_some : goal.returns-then-is_some
unfolding undo_out
returns-then-is_some c =
    let k = c.loop-checked.invariant.0 in
    let n = some_newest k.come.ready (omega (arith, c.if-u-eq0.false)) in
    let w = walked_stop k n.2 c.undo_record-p.result c.undo_record-p.new.text c.undo_record-p.ensures (is-stop c.is_some.ensures c.if-is_some.true)
    c.answer-then-is_some.ensures in
    record { outcome = edited w; still = still w }

pub loop-checked-smaller-then-begins-ends : goal.loop-checked-smaller-then-begins-ends
loop-checked-smaller-then-begins-ends c =
    let k = c.loop-checked.invariant.0 in
    let n = some_newest k.come.ready (omega (arith, c.if-u-eq0.false)) in
    let z = no-stop c.is_some.ensures c.if-is_some.false in
    falls true k.come n.2 c.undo_record-p.result c.undo_record-p.new.text c.undo_record-p.ensures c.undo_record-p.auto.text z

pub loop-checked-preserved-then-begins-ends : goal.loop-checked-preserved-then-begins-ends
loop-checked-preserved-then-begins-ends c =
    let here = (goal.at.loop-checked-preserved-then-begins-ends c).After-from-in-loop-checked in
    let k = c.loop-checked.invariant.0 in
    let n = some_newest k.come.ready (omega (arith, c.if-u-eq0.false)) in
    let z = no-stop c.is_some.ensures c.if-is_some.false in
    let w = counts_back c.undo_record-p.result.kind (begins here) (ends here) c.args.checked.format n.0 k.waiting c.loop-checked.ends
    c.loop-checked.begins k.waits (c.undo_record-p.ensures n.0 n.1 n.2).0 in
    let few = one_of c.undo_record-p.result.kind (begins here) (ends here) in (
      walking_on k n.2 c.undo_record-p.result c.undo_record-p.new.text c.undo_record-p.ensures c.undo_record-p.auto.text z
          (c.loop-checked.ends + c.from-in-loop-checked.result) (c.loop-checked.begins + c.from.result) w (omega (arith, few))
          c.if-begins-ends.true,
      sizes-next k.come n.2 c.undo_record-p.result c.undo_record-p.new.text c.undo_record-p.ensures c.undo_record-p.auto.text z
          c.args.sizes.now c.loop-checked.invariant.1,
    )

pub shape_of-text-then-left-le1 : goal.shape_of-text-then-left-le1
shape_of-text-then-left-le1 c =
    let k = c.loop-checked.invariant.0 in
    c.undo_record-p.auto.text ∙ k.come.text

pub returns-then-left-le1 : goal.returns-then-left-le1
unfolding undo_out
returns-then-left-le1 c =
    let here = (goal.at.returns-then-left-le1 c).After-from-in-loop-checked in
    let k = c.loop-checked.invariant.0 in
    let n = some_newest k.come.ready (omega (arith, c.if-u-eq0.false)) in
    let z = no-stop c.is_some.ensures c.if-is_some.false in
    let w = counts_back c.undo_record-p.result.kind (begins here) (ends here) c.args.checked.format n.0 k.waiting c.loop-checked.ends
    c.loop-checked.begins k.waits (c.undo_record-p.ensures n.0 n.1 n.2).0 in
    let few = one_of c.undo_record-p.result.kind (begins here) (ends here) in
    let e = walked_last k n.2 c.undo_record-p.result c.undo_record-p.new.text c.undo_record-p.ensures c.undo_record-p.auto.text z
    (c.loop-checked.ends + c.from-in-loop-checked.result) (c.loop-checked.begins + c.from.result) w (omega (arith, few))
    c.if-begins-ends.false (omega (arith, c.if-left-le1.true)) c.answer-then-left-le1.ensures in
    record { outcome = edited e; still = still e }

pub overflow_sub-left : goal.overflow_sub-left
overflow_sub-left c = omega (arith, c.if-left-le1.false)

pub loop-checked-smaller : goal.loop-checked-smaller
loop-checked-smaller c =
    let k = c.loop-checked.invariant.0 in
    let n = some_newest k.come.ready (omega (arith, c.if-u-eq0.false)) in
    let z = no-stop c.is_some.ensures c.if-is_some.false in
    falls true k.come n.2 c.undo_record-p.result c.undo_record-p.new.text c.undo_record-p.ensures c.undo_record-p.auto.text z

pub loop-checked-preserved : goal.loop-checked-preserved
loop-checked-preserved c =
    let here = (goal.at.loop-checked-preserved c).After-from-in-loop-checked in
    let k = c.loop-checked.invariant.0 in
    let n = some_newest k.come.ready (omega (arith, c.if-u-eq0.false)) in
    let z = no-stop c.is_some.ensures c.if-is_some.false in
    let w = counts_back c.undo_record-p.result.kind (begins here) (ends here) c.args.checked.format n.0 k.waiting c.loop-checked.ends
    c.loop-checked.begins k.waits (c.undo_record-p.ensures n.0 n.1 n.2).0 in
    let few = one_of c.undo_record-p.result.kind (begins here) (ends here) in (
      walking_next k n.2 c.undo_record-p.result c.undo_record-p.new.text c.undo_record-p.ensures c.undo_record-p.auto.text z
          (c.loop-checked.ends + c.from-in-loop-checked.result) (c.loop-checked.begins + c.from.result) w (omega (arith, few))
          c.if-begins-ends.false (omega (arith, c.if-left-le1.false)),
      sizes-next k.come n.2 c.undo_record-p.result c.undo_record-p.new.text c.undo_record-p.ensures c.undo_record-p.auto.text z
          c.args.sizes.now c.loop-checked.invariant.1,
    )
