use mathlib.Core.Path.{refl}
use Rattle.std.proofs.lemmas.Result.{err_from_is_err_and}
use Rattle.repertoire.specs.Repertoire.{catalogue}
use Rattle.checks.proofs.Refusals.{never-passes}
use Rattle.motion_calls.proofs.Called.{prompt-before, prompt_over}
use Rattle.motion_calls.proofs.prompt_refusal.Goals as goal

pub returns-in_err-refusal : goal.returns-in_err-refusal
returns-in_err-refusal c =
    let a = c.args in
    let p = err_from_is_err_and c.from_residual.result c.from_residual.ensures.1 in
    rw (p.1, p.2) (prompt-before catalogue a.text.now a.line a.prompt _ c.in_err-refusal.ensures (never-passes _))

pub returns-then-prompt-gt1024 : goal.returns-then-prompt-gt1024
returns-then-prompt-gt1024 c =
    let a = c.args in
    prompt_over catalogue a.text.now a.line a.prompt 0 c.in_ok-refusal.ensures refl c.if-prompt-gt1024.true
