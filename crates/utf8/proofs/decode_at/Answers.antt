use mathlib.Core.Path.{sym}
use Rattle.utf8.proofs.Forms.{first-drop, first-end}
use Rattle.utf8.proofs.decode_at.Goals as goal

pub returns-then-s-i : goal.returns-then-s-i
returns-then-s-i c = sym (first-end c.args.s.now c.args.i c.if-s-i.true)

pub returns : goal.returns
returns c = let a = c.args in
    cc (first-drop a.s.now a.i)
