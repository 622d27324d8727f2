-- The format of every text buffer is fit. Assumes nothing.
use Prim.Native.Nat.{ℕ}
use native.Mathlib.Omega.{arith}
use mathlib.Core.Path.{◌≡◌, refl, sym, subst}
use Rattle.formats.specs.declared.Format.{Format}
use Rattle.formats.specs.Formats.{format_for, Fit}

pub format-fit : (C : ℕ) → Fit (format_for C)
unfolding format_for
format-fit C = record {
  width = record { least = omega arith; most = omega arith; even = refl };
  offset = omega arith;
  places = omega arith;
  lengths
      = omega arith;
  text = omega arith;
  records = omega arith;
}

-- the same of a format that is found to be it
pub fit_for : {F : Format} (C : ℕ) → F ≡ format_for C → Fit F
fit_for C e = subst Fit (sym e) (format-fit C)

-- one format for all
pub format-same : (C D : ℕ) → format_for C ≡ format_for D
unfolding format_for
format-same C D = refl
