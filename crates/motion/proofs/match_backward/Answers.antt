use mathlib.Core.Path.{sym, ap, ◌∙◌}
use native.Mathlib.Omega.{arith}
use Rattle.utf8.specs.Answer.{as_first}
use Rattle.utf8.specs.Chars.{EndsAt}
use Rattle.utf8.proofs.Ends.{ends-before, ends_never}
use Rattle.motion.specs.Search.{nth_match, match_backward}
use Rattle.motion.proofs.Search.{behind, behind_in, behind-out, behind-end, found_zero}
use Rattle.motion.proofs.match_backward.Goals as goal
use Rattle.motion.proofs.match_backward.Goals.{After-prev_char-at}

-- the character that prev_char finds ends where the loop stands
ended : (c : After-prev_char-at) →
    EndsAt c.args.s.now c.loop-left.at c.prev_char-at.result
ended c = ends-before _ _ _ c.requires.0 c.loop-left.invariant.1 (omega (arith, c.if-at-eq0.false)) c.loop-left.invariant.0
    c.prev_char-at.ensures

pub returns-then-at-eq0 : goal.returns-then-at-eq0
unfolding match_backward nth_match
returns-then-at-eq0 c =
    let z = c.if-at-eq0.true in
    sym
    (c.loop-left.invariant.2 ∙ rw z (behind-end c.args.s.now c.args.c c.loop-left.found c.loop-left.left))

pub returns-in_default : goal.returns-in_default
returns-in_default c =
    ends_never _ _ _ _ (ended (goal.at.returns-in_default c).After-prev_char-at) (sym c.decode_at.ensures ∙ ap as_first c.in_default.is)

pub loop-left-smaller-then-cp-c : goal.loop-left-smaller-then-cp-c
loop-left-smaller-then-cp-c c = (ended (goal.at.loop-left-smaller-then-cp-c c).After-prev_char-at).below

pub loop-left-preserved-then-cp-c : goal.loop-left-preserved-then-cp-c
loop-left-preserved-then-cp-c c =
    let e = ended (goal.at.loop-left-preserved-then-cp-c c).After-prev_char-at in (
      omega (arith, e.below, c.loop-left.invariant.0),
      e.start,
      c.loop-left.invariant.2
          ∙ behind_in c.args.s.now c.args.c c.loop-left.at _ _ _ e
          (sym c.decode_at.ensures ∙ ap as_first c.in-Some.is) (omega (arith, e.below, c.loop-left.invariant.0))
          c.loop-left.found c.loop-left.left c.if-cp-c.true c.loop-left-test.true,
    )

pub loop-left-smaller : goal.loop-left-smaller
loop-left-smaller c = (ended (goal.at.loop-left-smaller c).After-prev_char-at).below

pub loop-left-preserved : goal.loop-left-preserved
loop-left-preserved c =
    let e = ended (goal.at.loop-left-preserved c).After-prev_char-at in (
      omega (arith, e.below, c.loop-left.invariant.0),
      e.start,
      c.loop-left.invariant.2
          ∙ behind-out c.args.s.now c.args.c c.loop-left.at _ _ _ e
          (sym c.decode_at.ensures ∙ ap as_first c.in-Some.is) (omega (arith, e.below, c.loop-left.invariant.0))
          c.loop-left.found c.loop-left.left c.if-cp-c.false,
    )

pub returns : goal.returns
unfolding match_backward nth_match
returns c = sym
    (c.loop-left.invariant.2
    ∙ found_zero c.loop-left.found (behind c.args.s.now c.args.c c.loop-left.at) c.loop-left.left (omega arith))
