use mathlib.Core.Path.{sym, ap, ◌∙◌}
use native.Mathlib.Omega.{arith}
use Rattle.utf8.specs.Answer.{as_first}
use Rattle.repertoire.specs.Repertoire.{catalogue}
use Rattle.repertoire.proofs.Text.{within-at}
use Rattle.repertoire.proofs.Catalogue.{catalogue_lawful}
use Rattle.repertoire.proofs.Written.{writing_start, writing_fits, writing_step, writing_end, no_room}
use Rattle.repertoire.proofs.change_case.Goals as goal

pub returns-then-out-s : goal.returns-then-out-s
returns-then-out-s c = no_room _ _ _ c.if-out-s.true

pub loop-cp-init : goal.loop-cp-init
loop-cp-init c = writing_start catalogue _ _ _ c.if-out-s.false

pub write_mapped-n-requires : goal.write_mapped-n-requires
write_mapped-n-requires c = writing_fits catalogue _ _ _ catalogue_lawful _ _ _ _ _ _ c.loop-cp.invariant
    (sym c.decode_at.ensures ∙ ap as_first c.in-Some.is) c.case_of.ensures

pub loop-cp-preserved : goal.loop-cp-preserved
loop-cp-preserved c = writing_step catalogue _ _ _ catalogue_lawful _ _ _ _ _ _ c.loop-cp.invariant
    (sym c.decode_at.ensures ∙ ap as_first c.in-Some.is) c.case_of.ensures _ _
    c.write_mapped-n.ensures

pub overflow_add-n : goal.overflow_add-n
overflow_add-n c = let w = loop-cp-preserved c in
    omega (arith, w.under, w.within)

pub overflow_add-i : goal.overflow_add-i
overflow_add-i c = let w = loop-cp-preserved c in
    omega (arith, w.within)

pub loop-cp-smaller : goal.loop-cp-smaller
loop-cp-smaller c = let h = within-at _ _ _ _ c.loop-cp.invariant.within (sym c.decode_at.ensures ∙ ap as_first c.in-Some.is) in
    omega (arith, h.0, h.1)

pub returns : goal.returns
returns c = writing_end _ _ _ _ _ _ c.loop-cp.invariant (sym c.decode_at.ensures ∙ ap as_first c.in_default.is)
