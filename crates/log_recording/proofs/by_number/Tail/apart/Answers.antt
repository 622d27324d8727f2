use mathlib.Core.Path.{ap}
use Prim.Native.Nat.{ℕ, ◌+◌}
use Rattle.log_recording.specs.ByNumber.{tail}
use Rattle.log_recording.proofs.by_number.Tail.apart.Goals as goal

pub returns : goal.returns
returns c =
    let a = c.args in
    ap
    (λ (i : ℕ). record
    { tail = tail (a.self.records + i) (a.self.texts + (a.old + a.new)) a.kind a.place a.old a.new; at = a.self.texts })
    c.edit_size.ensures.0
