use Rattle.std.proofs.Common.{refl, sym, ◌≤◌, ◌∙◌, arith, rules, not}
use Rattle.std.proofs.lemmas.Iterator.{YieldsList-from_range, serves_from_Range}
use Rattle.std.proofs.lemmas.Iterator.Search.{any_from_yields_List}
use Rattle.repertoire.specs.Repertoire.{catalogue}
use Rattle.repertoire.specs.Text.{is_text}
use Rattle.kill_ring.specs.Calls.{len_at, slot_bytes}
use Rattle.kill_ring.proofs.Slots.{any-foreign, short_at}
use Rattle.kill_ring.proofs.any_foreign.Goals as goal

pub any-requires-clause-callable : goal.any-requires-clause-callable
any-requires-clause-callable c =
    serves_from_Range (λ i f k. search rules)
    (λ i from below.
    let short : len_at c.args.lens.now i ≤ 4096 = short_at c.args.lens.now c.args.n i _ c.requires.n_value below refl in
    search rules)

pub returns : goal.returns
returns c =
    let a = c.args in
    any_from_yields_List (λ i. not (is_text catalogue (slot_bytes a.slots.now a.lens.now i))) _ _ _ c.any.ensures.ran
    (YieldsList-from_range 0 a.n a.n refl (omega arith))
    (λ i b f k. search rules)
    ∙ sym (any-foreign a.lens.now catalogue a.slots.now 0 a.n)
