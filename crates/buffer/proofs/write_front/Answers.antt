-- `write_front` meets its contract. The invariant: `j` bytes of `src` stand at the front. Assumes nothing.
use mathlib.Core.Path.{◌≡◌, refl, sym, ap, ◌∙◌}
use mathlib.Core.List.{List, ◌++◌}
use Prim.Native.Nat.{ℕ, ◌+◌}
use native.Mathlib.Omega.{arith}
use native.Mathlib.Numerals.{add-one}
use lib.ListN.{length, length-set, set, get_or, drop, take}
use lib.Seq.{paste, paste-zero, paste-suc, take-length}
use Rattle.buffer.proofs.write_front.Goals as goal

pub loop-j-init : goal.loop-j-init
loop-j-init c = (omega arith, (paste-zero c.args.tail.now 0 c.args.src.now, refl))

pub loop-j-preserved : goal.loop-j-preserved
loop-j-preserved c =
    let j = c.loop-j.j in
    let src = c.args.src.now in
    let d = c.args.tail.now in
    let e : j ≡ 0 + j = omega arith in (
      omega arith,
      (
        ap (λ (l : List ℕ). set l j (get_or src j 0)) c.loop-j.invariant.1.0
            ∙ ap (λ (k : ℕ). set (paste d 0 src j) k (get_or src j 0)) e
            ∙ paste-suc d 0 src j 0 (omega arith) (omega arith)
            ∙ ap (λ (k : ℕ). paste d 0 src k) (sym (add-one j)),
        simp length-set (omega arith),
      ),
    )

pub returns : goal.returns
returns c =
    let src = c.args.src.now in
    let d = c.args.tail.now in
    let e : c.loop-j.j ≡ length src = omega arith in
    let z : 0 + length src ≡ length src = omega arith in
    c.loop-j.invariant.1.0
    ∙ ap (λ (k : ℕ). paste d 0 src k) e
    ∙ ap (λ (k : ℕ). take (length src) src ++ drop k d) z
    ∙ ap (λ (l : List ℕ). l ++ drop (length src) d) (take-length src)
