use Prim.Native.Nat.{◌<◌}
use native.Mathlib.Omega.{arith}
use mathlib.Core.Path.{◌≡◌, sym, ◌∙◌}
use mathlib.Core.Bool.{false}
use Rattle.repertoire.specs.Repertoire.{catalogue}
use Rattle.kill_ring.specs.declared.Action.TheVariants.{Yank}
use Rattle.kill_ring.specs.Calls.{Lent, lent, action_of}
use Rattle.kill_ring.proofs.Passed.{Ready, passed}
use Rattle.kill_ring.proofs.Value.{some_of}
use Rattle.kill_ring.proofs.Answers.{previous_in, pop_none, pop_some, pop_other}
use Rattle.kill_ring.proofs.yank_pop_checked.Goals as goal
use Rattle.kill_ring.proofs.yank_pop_checked.Goals.{After-previous, Then-ring-ne0, Start}
use Rattle.kill_ring.proofs.yank_pop_checked.Goals.{in_default-via-in-Yank+else-ring-ne0, in_default-via-in_default}

-- what is lent
abbrev given : Start → Lent
given c = lent c.args.slots.now c.args.lens.now c.args.ring

-- its checks pass
ready : (c : Start) → Ready catalogue (given c)
ready c = passed catalogue (given c) false false c.requires

-- ---- after a yank, with slots: the slot before is one of them
last : (c : Then-ring-ne0) → let g = c.args.ring in action_of g.action g.yanked ≡ Yank c.in-Yank.size
last c = sym c.last_action.ensures ∙ c.in-Yank.is

some : (c : Then-ring-ne0) → 0 < c.args.ring.count
some c = some_of _ c.if-ring-ne0.true

before : (c : After-previous) → c.previous.result < c.args.ring.count
before c = previous_in catalogue (lent c.args.slots.now c.args.lens.now c.args.ring)
    (passed catalogue (lent c.args.slots.now c.args.lens.now c.args.ring) false false c.requires) c.previous.result
    (some_of _ c.if-ring-ne0.true) c.previous.ensures

pub yanked-requires : goal.yanked-requires
yanked-requires c = let p = ready (goal.at.yanked-requires c).Start in omega (arith, p.lens, p.count, before c)

pub returns-in-Yank : goal.returns-in-Yank
returns-in-Yank c =
    let here = goal.at.returns-in-Yank c in
    c.yanked.ensures
    ∙ pop_some catalogue (given here.Start) (ready here.Start) c.in-Yank.size c.previous.result
    (last here.Then-ring-ne0)
    (some here.Then-ring-ne0) (before here.After-previous) c.previous.ensures

pub returns-in_default : goal.returns-in_default
returns-in_default c =
    let here = goal.at.returns-in_default c in
    c.says.ensures
    ∙ elim c.in_default.branch [
      | in_default-via-in-Yank+else-ring-ne0 w ↦ pop_none catalogue (given here.Start) (ready here.Start) w.in-Yank.size
          (sym c.last_action.ensures ∙ w.in-Yank.is) w.if-ring-ne0.false
      | in_default-via-in_default w ↦ pop_other catalogue (given here.Start) (ready here.Start)
          (λ n e. w.in_default.not-Yank n (c.last_action.ensures ∙ e))
    ]
