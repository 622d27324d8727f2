use native.Mathlib.Omega.{arith}
use mathlib.Core.Path.{ap, ◌∙◌}
use Prim.Native.Nat.{ℕ, ◌-◌}
use lib.Seq.{sets}
use Rattle.log_records.specs.Written.{record_bytes}
use Rattle.log_recording.proofs.Written.{texts-written}
use Rattle.log_recording.proofs.write_noted.Goals as goal

pub returns : goal.returns
returns c =
    let a = c.args in
    record {
      records = c.write_record.ensures
          ∙ ap
          (λ (i : ℕ). sets a.records.now (a.n.records - i) (record_bytes a.f a.n.edit)) c.edit_size.ensures.0;
      texts = texts-written a.texts.now c.insert_bytes.new.s c.insert_bytes-2.new.s a.old.now
          a.new.now a.used a.n.at (omega (arith, c.insert_bytes.auto.s, c.requires))
          c.insert_bytes.ensures c.insert_bytes-2.ensures;
    }
