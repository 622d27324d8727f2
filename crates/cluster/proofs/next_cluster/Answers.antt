use mathlib.Core.Path.{sym, ap, ◌∙◌}
use native.Mathlib.Omega.{arith}
use Rattle.utf8.specs.Answer.{as_first}
use Rattle.utf8.proofs.Chars.{first-within}
use Rattle.repertoire.specs.Repertoire.{catalogue}
use Rattle.repertoire.proofs.Text.{within-at}
use Rattle.cluster.proofs.Forward.{scan_at, scan-start, scan_none, scan_more, scan_break, scan-end}
use Rattle.cluster.proofs.next_cluster.Goals as goal

pub returns-in_default : goal.returns-in_default
returns-in_default c = record {
  known = c.empty.ensures
      ∙ scan_none catalogue c.args.s.now (sym c.decode_at.ensures ∙ ap as_first c.in_default.is);
  within = omega (arith, ap (λ x. x.len) c.empty.ensures);
}

pub loop-cp-init : goal.loop-cp-init
loop-cp-init c =
    let e = sym c.decode_at.ensures ∙ ap as_first c.in-Some.is in
    let z = scan-start catalogue c.args.s.now _ _ _ e c.of-k.ensures in
    (omega (arith, (first-within _ _ _ e).fits, z.sized), scan_at catalogue c.args.s.now _ _ _ z)

pub returns-then-not-joins : goal.returns-then-not-joins
returns-then-not-joins c = record {
  known = scan_break catalogue c.args.s.now _ _ _ c.loop-cp.invariant.1 _ _
      (sym c.decode_at-in-loop-cp.ensures ∙ ap as_first c.in-Some-decode_at.is) (sym c.joins.ensures ∙ c.if-not-joins.true);
  within = c.loop-cp.invariant.0;
}

pub with-k-requires : goal.with-k-requires
with-k-requires c = omega (
  arith,
  within-at c.args.s.now c.loop-cp.k.len _ _ c.loop-cp.invariant.0
      (sym c.decode_at-in-loop-cp.ensures ∙ ap as_first c.in-Some-decode_at.is),
)

-- one character more
pub loop-cp-preserved : goal.loop-cp-preserved
loop-cp-preserved c =
    let e = sym c.decode_at-in-loop-cp.ensures ∙ ap as_first c.in-Some-decode_at.is in
    let w = within-at c.args.s.now c.loop-cp.k.len _ _ c.loop-cp.invariant.0 e in
    let z = scan_more catalogue c.args.s.now _ _ _ c.loop-cp.invariant.1 _ _ _ e (sym c.joins.ensures ∙ c.if-not-joins.false)
    c.with-k.ensures in
    (omega (arith, w.1, z.sized), scan_at catalogue c.args.s.now _ _ _ z)

pub loop-cp-smaller : goal.loop-cp-smaller
loop-cp-smaller c =
    let w = within-at c.args.s.now c.loop-cp.k.len _ _ c.loop-cp.invariant.0
    (sym c.decode_at-in-loop-cp.ensures ∙ ap as_first c.in-Some-decode_at.is) in
    omega (arith, w, ap (λ x. x.len) c.with-k.ensures)

pub returns : goal.returns
returns c = record {
  known = scan-end catalogue c.args.s.now _ _ _ c.loop-cp.invariant.1
      (sym c.decode_at-in-loop-cp.ensures ∙ ap as_first c.in_default-decode_at.is);
  within = c.loop-cp.invariant.0;
}
