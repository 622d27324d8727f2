use Prim.Native.Nat.{◌<◌}
use native.Mathlib.Omega.{arith}
use mathlib.Core.Path.{◌∙◌}
use mathlib.Core.Bool.{false}
use Rattle.repertoire.specs.Repertoire.{catalogue}
use Rattle.kill_ring.specs.Calls.{Lent, lent}
use Rattle.kill_ring.proofs.Passed.{Ready, passed}
use Rattle.kill_ring.proofs.Value.{some_of, index_in}
use Rattle.kill_ring.proofs.Answers.{yank_none, yank_some}
use Rattle.kill_ring.proofs.yank_checked.Goals as goal
use Rattle.kill_ring.proofs.yank_checked.Goals.{Else-ring-eq0, Start}

-- what is lent
abbrev given : Start → Lent
given c = lent c.args.slots.now c.args.lens.now c.args.ring

-- its checks pass
ready : (c : Start) → Ready catalogue (given c)
ready c = passed catalogue (given c) false false c.requires

-- there are slots, and the index is one of them
some : (c : Else-ring-eq0) → 0 < c.args.ring.count
some c = some_of _ c.if-ring-eq0.false

index : (c : Else-ring-eq0) → let g = c.args.ring in g.index < g.count
index c = index_in catalogue (lent c.args.slots.now c.args.lens.now c.args.ring)
    (passed catalogue (lent c.args.slots.now c.args.lens.now c.args.ring) false false c.requires) (some_of _ c.if-ring-eq0.false)

pub returns-then-ring-eq0 : goal.returns-then-ring-eq0
returns-then-ring-eq0 c =
    let here = goal.at.returns-then-ring-eq0 c in
    c.says.ensures ∙ yank_none catalogue (given here.Start) (ready here.Start)
    c.if-ring-eq0.true

pub yanked-requires : goal.yanked-requires
yanked-requires c = let p = ready (goal.at.yanked-requires c).Start in omega (arith, p.lens, p.count, index c)

pub returns : goal.returns
returns c =
    let here = goal.at.returns c in
    c.yanked.ensures ∙ yank_some catalogue (given here.Start) (ready here.Start)
    (some here.Else-ring-eq0) (index here.Else-ring-eq0)
