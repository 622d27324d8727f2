use mathlib.Core.Path.{◌≡◌, sym, ap, ◌∙◌}
use native.Mathlib.Omega.{arith}
use Rattle.utf8.specs.Answer.{as_first}
use Rattle.utf8.specs.Chars.{EndsAt}
use Rattle.utf8.proofs.Ends.{ends-before, ends_never}
use Rattle.repertoire.specs.Repertoire.{catalogue}
use Rattle.motion.proofs.Trim.{trim_more, trim_stop, trim_start}
use Rattle.motion.proofs.trim_end.Goals as goal
use Rattle.motion.proofs.trim_end.Goals.{After-prev_char-i}

-- the character that prev_char finds ends where the loop stands
ended : (c : After-prev_char-i) →
    EndsAt c.args.s.now c.loop-at.at c.prev_char-i.result
ended c = ends-before _ _ _ c.requires c.loop-at.invariant.1 c.loop-at-test.true c.loop-at.invariant.0 c.prev_char-i.ensures

pub returns-in_default : goal.returns-in_default
returns-in_default c =
    ends_never _ _ _ _ (ended (goal.at.returns-in_default c).After-prev_char-i) (sym c.decode_at.ensures ∙ ap as_first c.in_default.is)

pub returns-then-not-is_white : goal.returns-then-not-is_white
returns-then-not-is_white c = sym
    (c.loop-at.invariant.2
    ∙ trim_stop catalogue c.args.s.now c.loop-at.at _ _ _ c.loop-at.invariant.1 c.loop-at.invariant.0
    (ended (goal.at.returns-then-not-is_white c).After-prev_char-i)
    (sym c.decode_at.ensures ∙ ap as_first c.in-Some.is) (sym c.is_white.ensures ∙ c.if-not-is_white.true))

pub loop-at-smaller : goal.loop-at-smaller
loop-at-smaller c = (ended (goal.at.loop-at-smaller c).After-prev_char-i).below

pub loop-at-preserved : goal.loop-at-preserved
loop-at-preserved c =
    let e = ended (goal.at.loop-at-preserved c).After-prev_char-i in (
      omega (arith, e.below, c.loop-at.invariant.0),
      e.start,
      c.loop-at.invariant.2
          ∙ trim_more catalogue c.args.s.now c.loop-at.at _ _ _ e
          (sym c.decode_at.ensures ∙ ap as_first c.in-Some.is)
          (sym c.is_white.ensures ∙ c.if-not-is_white.false),
    )

pub returns : goal.returns
returns c =
    let z : c.loop-at.at ≡ 0 = omega arith in
    sym (c.loop-at.invariant.2 ∙ rw z (trim_start catalogue c.args.s.now))
