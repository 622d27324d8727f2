use mathlib.Core.Path.{sym, ap, ◌∙◌}
use native.Mathlib.Omega.{arith}
use Rattle.utf8.proofs.Forms.{first-end}
use Rattle.repertoire.specs.Repertoire.{catalogue}
use Rattle.repertoire.specs.Text.{plain}
use Rattle.repertoire.proofs.Text.{member_in, member-out, member-bad}
use Rattle.repertoire.proofs.Plain.{one_at, plain-one}
use Rattle.repertoire.proofs.member_len.Goals as goal

pub returns-in_err-get : goal.returns-in_err-get
returns-in_err-get c = rw c.from_residual.ensures
    (member-bad catalogue _ (first-end c.args.s.now c.args.at (omega (arith, c.in_err-get.ensures))))

pub returns-then-is_plain : goal.returns-then-is_plain
returns-then-is_plain c = let a = c.args in
    sym
    (one_at catalogue plain plain-one a.s.now a.at
    (ap plain (sym (c.in_ok-get.ensures.lookup.3.1 256)) ∙ sym c.is_plain.ensures ∙ c.if-is_plain.true))

pub returns-in_err-cp : goal.returns-in_err-cp
returns-in_err-cp c = rw c.from_residual-in_err-cp.ensures (member-bad catalogue _ (sym c.in_err-cp.ensures))

pub returns-then-in_repertoire : goal.returns-then-in_repertoire
returns-then-in_repertoire c =
    member_in catalogue _ _ _ (sym c.in_ok-cp.ensures) (sym c.in_repertoire.ensures ∙ c.if-in_repertoire.true)

pub returns-else-in_repertoire : goal.returns-else-in_repertoire
returns-else-in_repertoire c =
    member-out catalogue _ _ _ (sym c.in_ok-cp.ensures) (sym c.in_repertoire.ensures ∙ c.if-in_repertoire.false)
