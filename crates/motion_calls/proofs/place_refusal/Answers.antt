use mathlib.Core.Path.{refl, sym, ◌∙◌}
use mathlib.Core.Bool.{false}
use lib.Dec.{ltb}
use Rattle.std.proofs.lemmas.Result.{err_from_is_err_and}
use Rattle.repertoire.specs.Repertoire.{catalogue}
use Rattle.checks.specs.Checks.{own_tests}
use Rattle.checks.proofs.Fit.{fit-valid}
use Rattle.checks.proofs.Refusals.{never-passes}
use Rattle.motion_calls.proofs.Called.{fit_of, used-of, place-before, place-split, place-fits}
use Rattle.motion_calls.proofs.place_refusal.Goals as goal

pub returns-in_err-refusal : goal.returns-in_err-refusal
returns-in_err-refusal c =
    let a = c.args in
    let p = err_from_is_err_and c.from_residual.result c.from_residual.ensures.1 in
    rw (p.1, p.2) (place-before catalogue a.text.now a.line a.pos _ c.in_err-refusal.ensures (never-passes _))

pub slice_bounds-is_boundary-end : goal.slice_bounds-is_boundary-end
slice_bounds-is_boundary-end c =
    let a = c.args in
    used-of catalogue a.text.now a.line (own_tests false false (ltb a.line.len a.pos)) c.in_ok-refusal.ensures

pub returns-then-not-is_boundary : goal.returns-then-not-is_boundary
returns-then-not-is_boundary c =
    let a = c.args in
    let f = fit_of catalogue a.text.now a.line (own_tests false false (ltb a.line.len a.pos)) c.in_ok-refusal.ensures in
    place-split catalogue a.text.now a.line a.pos 0 c.in_ok-refusal.ensures refl
    (sym (c.is_boundary.ensures.text (fit-valid catalogue _ a.text.now a.line f)) ∙ c.if-not-is_boundary.true)

pub returns : goal.returns
returns c =
    let a = c.args in
    let f = fit_of catalogue a.text.now a.line (own_tests false false (ltb a.line.len a.pos)) c.in_ok-refusal.ensures in
    place-fits catalogue a.text.now a.line a.pos 0 c.in_ok-refusal.ensures refl
    (sym (c.is_boundary.ensures.text (fit-valid catalogue _ a.text.now a.line f)) ∙ c.if-not-is_boundary.false)
