use mathlib.Core.Path.{◌≡◌, sym, ap, ◌∙◌}
use native.Mathlib.Omega.{arith}
use Rattle.utf8.specs.Answer.{as_first}
use Rattle.utf8.specs.Chars.{EndsAt}
use Rattle.utf8.proofs.Boundary.{boundary_end}
use Rattle.repertoire.specs.Repertoire.{catalogue}
use Rattle.utf8.proofs.Ends.{ends-before, ends_never, ends_char}
use Rattle.cluster.proofs.Backward.{back_empty, back_start, back_more, back_stop, back_done}
use Rattle.cluster.proofs.prev_cluster.Goals as goal
use Rattle.cluster.proofs.prev_cluster.Goals.{After-prev_char-i}

-- the character that prev_char finds ends where the loop stands
ended : (c : After-prev_char-i) →
    EndsAt c.args.s.now c.loop-j.j c.prev_char-i.result
ended c = ends-before _ _ _ c.requires c.loop-j.invariant.start c.loop-j-test.true (omega (arith, c.loop-j.invariant.sized))
    c.prev_char-i.ensures

pub returns-then-n-eq0 : goal.returns-then-n-eq0
returns-then-n-eq0 c = record {
  known = back_empty catalogue c.args.s.now _ c.if-n-eq0.true c.empty.ensures;
  within = omega
      (arith, ap (λ x. x.len) c.empty.ensures);
}

pub returns-in_default : goal.returns-in_default
returns-in_default c = ends_never _ _ _ _
    (ends-before c.args.s.now _ _ c.requires (boundary_end _ c.requires) (omega (arith, c.if-n-eq0.false)) (omega arith)
    c.prev_char-j.ensures) (sym c.decode_at.ensures ∙ ap as_first c.in_default.is)

pub loop-j-init : goal.loop-j-init
loop-j-init c = back_start catalogue c.args.s.now _ _ _ _
    (ends-before c.args.s.now _ _ c.requires (boundary_end _ c.requires) (omega (arith, c.if-n-eq0.false)) (omega arith)
    c.prev_char-j.ensures) (sym c.decode_at.ensures ∙ ap as_first c.in-Some.is) c.of-k.ensures

pub returns-in_default-decode_at : goal.returns-in_default-decode_at
returns-in_default-decode_at c = ends_never _ _ _ _ (ended (goal.at.returns-in_default-decode_at c).After-prev_char-i)
    (sym c.decode_at-in-loop-j.ensures ∙ ap as_first c.in_default-decode_at.is)

pub returns-then-not-joins : goal.returns-then-not-joins
returns-then-not-joins c = record {
  known = back_stop catalogue c.args.s.now _ _ _ c.loop-j.invariant _ _ _ (ended (goal.at.returns-then-not-joins c).After-prev_char-i)
      (sym c.decode_at-in-loop-j.ensures ∙ ap as_first c.in-Some-decode_at.is)
      (sym c.joins.ensures ∙ c.if-not-joins.true);
  within = omega (arith, c.loop-j.invariant.sized);
}

pub with-k-requires : goal.with-k-requires
with-k-requires c = let e = ended (goal.at.with-k-requires c).After-prev_char-i in
    let m = ends_char _ _ _ _ _ e (sym c.decode_at-in-loop-j.ensures ∙ ap as_first c.in-Some-decode_at.is) in
    let b = e.below in
    omega (arith, c.loop-j.invariant.sized)

pub loop-j-smaller : goal.loop-j-smaller
loop-j-smaller c = (ended (goal.at.loop-j-smaller c).After-prev_char-i).below

pub loop-j-preserved : goal.loop-j-preserved
loop-j-preserved c = back_more catalogue c.args.s.now _ _ _ c.loop-j.invariant _ _ _ (ended (goal.at.loop-j-preserved c).After-prev_char-i)
    (sym c.decode_at-in-loop-j.ensures ∙ ap as_first c.in-Some-decode_at.is) _
    (sym c.joins.ensures ∙ c.if-not-joins.false) c.with-k.ensures

pub returns : goal.returns
returns c = let z : c.loop-j.j ≡ 0 = omega (arith, c.loop-j-test.false) in record
    { known = back_done catalogue c.args.s.now _ _ (rw z at c.loop-j.invariant); within = omega (arith, c.loop-j.invariant.sized) }
