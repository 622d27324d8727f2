use Rattle.utf8.proofs.Forms.{first_one, first_none, first_two, first_three, first-four, first_high}
use Rattle.utf8.proofs.Lead.{lead_1, lead_2, lead_3, lead_rest}
use mathlib.Core.Path.{sym, ◌∙◌}
use native.Mathlib.Omega.{arith}
use Rattle.utf8.proofs.decode.Goals as goal

pub returns-then-a-gt247 : goal.returns-then-a-gt247
returns-then-a-gt247 c = let a = c.args in
    sym (first_high a.a a.b a.c a.d c.if-a-gt247.true)

pub returns-in-1 : goal.returns-in-1
returns-in-1 c = let a = c.args in
    sym (first_one a.a a.b a.c a.d (omega arith))

pub returns-in-1-2 : goal.returns-in-1-2
returns-in-1-2 c = let a = c.args in
    sym (first_none a.a a.b a.c a.d (omega arith) (omega (arith, lead_1 a.a (omega arith) (sym c.char_len.ensures ∙ c.in-1.is))))

pub returns-in-2 : goal.returns-in-2
returns-in-2 c = let a = c.args in
    let r = lead_2 a.a (omega arith) (sym c.char_len.ensures ∙ c.in-2.is) in
    c.two_bytes.ensures ∙ sym (first_two a.a a.b a.c a.d r.0 r.1)

pub returns-in-3 : goal.returns-in-3
returns-in-3 c = let a = c.args in
    let r = lead_3 a.a (omega arith) (sym c.char_len.ensures ∙ c.in-3.is) in
    c.three_bytes.ensures ∙ sym (first_three a.a a.b a.c a.d r.0 r.1)

pub returns-in_default : goal.returns-in_default
returns-in_default c = let a = c.args in
    let r = lead_rest a.a (omega arith) (omega arith) (omega arith) (omega arith) in
    c.four_bytes.ensures ∙ sym (first-four a.a a.b a.c a.d r)
