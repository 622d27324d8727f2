use Prim.Native.Nat.{◌≤◌}
use mathlib.Core.Path.{◌≡◌}
use mathlib.Core.Bool.{true}
use native.Mathlib.Omega.{arith}
use lib.ListN.{length}
use Rattle.formats.specs.Formats.{format_for}
use Rattle.formats.proofs.Formats.{format-fit}
use Rattle.utf8.specs.Chars.{valid}
use Rattle.repertoire.specs.Repertoire.{catalogue}
use Rattle.repertoire.proofs.Text.{text-valid}
use Rattle.checks.proofs.Refusals.{never-passes}
use Rattle.checks.proofs.Texts.{text-passes}
use Rattle.slip_calls.proofs.Answer.{slip-refused, slip_full, slip-done}
use Rattle.slip_calls.proofs.slip.Goals as goal
use Rattle.slip_calls.proofs.slip.Goals.{In_default}

-- no check refuses: a text
fit : (k : In_default) →
    let a = k.args in
    (valid a.text.now ≡ true) × (length a.text.now ≤ 131072)
fit k =
    let a = k.args in
    let p = text-passes catalogue (format_for (length a.text.now)) a.text.now k.in_default.ensures in
    (text-valid catalogue a.text.now p.1, omega (arith, p.0, (format-fit (length a.text.now)).text))

pub returns-in-Err : goal.returns-in-Err
returns-in-Err c =
    let a = c.args in
    rw c.into.ensures (slip-refused catalogue (format_for _) a.text.now a.page.now _ c.in-Err.ensures (never-passes c.in-Err.why))

pub slip_len-len-requires : goal.slip_len-len-requires
slip_len-len-requires c = fit c

pub returns-then-page-len : goal.returns-then-page-len
returns-then-page-len c =
    let a = c.args in
    rw c.into-then-page-len.ensures
    (slip_full catalogue (format_for _) a.text.now a.page.now c.in_default.ensures
    (omega (arith, c.if-page-len.true, c.slip_len-len.ensures)))

pub write_slip-requires : goal.write_slip-requires
write_slip-requires c =
    let f = fit (goal.at.write_slip-requires c).In_default in
    (f.0, f.1, omega (arith, c.if-page-len.false, c.slip_len-len.ensures))

pub returns : goal.returns
returns c =
    let a = c.args in
    slip-done catalogue (format_for _) a.text.now a.page.now _ _ c.in_default.ensures
    c.slip_len-len.ensures (omega (arith, c.if-page-len.false, c.slip_len-len.ensures)) c.write_slip.ensures
