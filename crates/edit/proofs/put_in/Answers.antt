use Rattle.lists.proofs.Bools.{never}
use native.Mathlib.Omega.{arith}
use mathlib.Core.Path.{◌≡◌, refl, sym, ap}
use lib.ListN.{length, take, drop}
use Prim.Native.Nat.{ℕ, ◌-◌}
use lib.Seq.{length-take-le}
use Rattle.repertoire.specs.Repertoire.{catalogue}
use Rattle.edit.specs.Calls.{lent, sizes_of, state_of}
use Rattle.edit.proofs.Made.{outcome_as}
use Rattle.edit.proofs.Once.{once-paste}
use Rattle.edit.proofs.put_in.Goals as goal

pub change-requires : goal.change-requires
change-requires c =
    let a = c.args in
    let z : a.at - a.at ≡ 0 = omega arith in
    record {
      fit = c.requires.fit;
      ready = c.requires.ready;
      from_le_to = (omega arith, omega (arith, c.requires.in_text.1, length-take-le a.checked.line.len a.text.now c.requires.ready.used));
      last_at = (λ e. never _ _ e refl);
      numbered = record {
        kind = refl;
        place = refl;
        old = sym (ap (λ (i : ℕ). take i (drop a.at (take a.checked.line.len a.text.now))) z);
        new = refl;
      };
      ok = c.requires.new_text;
    }

pub returns : goal.returns
returns c =
    let a = c.args in
    let l = lent a.text.now a.records.now a.texts.now a.checked.line a.checked.log in
    outcome_as a.checked.format l _ _ _ _ _ _
    (once-paste catalogue a.checked.format (sizes_of l) (length a.text.now) a.cursor (state_of catalogue a.checked.format l) a.at a.new.now)
    c.change.ensures
