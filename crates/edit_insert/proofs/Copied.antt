-- Copies of a text are a text, and their length is a number of the program. Assumes nothing.
use Prim.Native.Nat.{ℕ, zero, suc, ◌*◌, ◌≤◌}
use native.Mathlib.Nat.{mul-le-mul}
use mathlib.Core.Path.{◌≡◌, ◌∙◌}
use mathlib.Core.Bool.{true}
use mathlib.Core.List.{List}
use Rattle.repertoire.specs.Repertoire.{Repertoire}
use Rattle.repertoire.specs.Text.{is_text}
use Rattle.repertoire.proofs.Text.{text_nil, text-append}
use Rattle.formats.specs.Formats.{text_max}
use Rattle.buffer.specs.Edit.{copies}

pub copies-text : (R : Repertoire) (n : ℕ) (s : List ℕ) → is_text R s ≡ true → is_text R (copies n s) ≡ true
unfolding copies
copies-text R zero s e = text_nil R
copies-text R (suc n) s e = text-append R s (copies n s) e ∙ copies-text R n s e

-- the length of so many copies is a number of the program
pub product_fits : (m n : ℕ) → m ≤ text_max → n ≤ 65535 → m * n ≤ text_max * 65535
product_fits m n h k = mul-le-mul h k
