use Rattle.std.proofs.Common.{refl, sym, ◌∙◌, arith, rules, ltb, tests}
use Rattle.std.proofs.lemmas.Iterator.{YieldsList-from_range}
use Rattle.std.proofs.lemmas.Iterator.Search.{any_from_yields_List}
use Rattle.kill_ring.specs.Calls.{len_at}
use Rattle.kill_ring.proofs.Slots.{any-over}
use Rattle.kill_ring.proofs.any_over.Goals as goal

pub returns : goal.returns
returns c =
    let lens = c.args.lens.now in
    any_from_yields_List (λ i. ltb 4096 (len_at lens i)) _ _ _ c.any.ensures.ran
    (YieldsList-from_range 0 c.args.n c.args.n refl (omega arith))
    (λ i b f k. search (rules, tests))
    ∙ sym (any-over lens 0 c.args.n)
