-- Which bytes stand for something, alone and behind ESC: computed over all 256. Assumes nothing.
use Prim.Native.Nat.{ℕ, ◌<◌}
use mathlib.Core.Path.{◌≡◌, refl}
use mathlib.Core.Bool.{Bool, true, false, not, ◌||◌}
use mathlib.Core.List.{List, [], ◌∷◌}
use lib.Dec.{T, eqb}
use Rattle.lists.proofs.Tables.{at_each}
use Rattle.utf8.specs.Utf8.{within, one, two, lead3, three, lead4, four, first_of, first}
use Rattle.utf8.specs.Encode.{scalar}
use Rattle.repertoire.specs.Repertoire.{catalogue, is_member}
use Rattle.repertoire.specs.Text.{is_char}
use Rattle.key_press.specs.declared.Press.{Press}
use Rattle.key_press.specs.declared.Press.TheVariants as p
use Rattle.key_press.specs.Keys.{value, behind, is_counted, count_of, key_in, control, escaped, press_of}

abbrev pub is_unbound : Press → Bool
is_unbound p.Unbound = true
is_unbound (p.Move k) = false
is_unbound (p.Edit k) = false
is_unbound (p.Undo n) = false
is_unbound (p.Kill k) = false
is_unbound (p.Yank n) = false
is_unbound p.YankPop = false

abbrev among : List ℕ → ℕ → Bool
among [] b = false
among (x ∷ xs) b = eqb b x || among xs b

-- a b d e f k t u w y _, U+0009 \n \r, and ASCII's printing characters
unfoldable pub is_named : ℕ → Bool
is_named b = among (0x01 ∷ 0x02 ∷ 0x04 ∷ 0x05 ∷ 0x06 ∷ 0x0B ∷ 0x14 ∷ 0x15 ∷ 0x17 ∷ 0x19 ∷ 0x1F ∷ 0x09 ∷ 0x0A ∷ 0x0D ∷ []) b || within 0x20 0x7E b

-- b c d f l t u y
abbrev pub is_named_behind : ℕ → Bool
is_named_behind b = among (0x62 ∷ 0x63 ∷ 0x64 ∷ 0x66 ∷ 0x6C ∷ 0x74 ∷ 0x75 ∷ 0x79 ∷ []) b

same : Bool → Bool → Bool
same true b = b
same false b = not b

same-is : (a b : Bool) → T (same a b) → a ≡ b
unfolding same
same-is true true t = refl
same-is true false t = absurd t
same-is false true t = absurd t
same-is false false t = refl

alone_test : ℕ → Bool
unfolding same within one two lead3 three lead4 four first_of first scalar is_member is_char value behind is_counted count_of key_in control escaped press_of is_named
alone_test b = same (is_unbound (press_of catalogue (b ∷ []))) (not (is_named b))

behind_test : ℕ → Bool
unfolding same within one two lead3 three lead4 four first_of first scalar is_member is_char value behind is_counted count_of key_in control escaped press_of
behind_test b = same (is_unbound (press_of catalogue (0x1B ∷ b ∷ []))) (not (is_named_behind b))

-- a byte alone, and ESC with a byte, is unbound exactly where the order does not name it
pub unbound : (b : ℕ) → b < 256 → is_unbound (press_of catalogue (b ∷ [])) ≡ not (is_named b)
unfolding alone_test
unbound b h = same-is _ _ (at_each alone_test 256 tt b h)

pub unbound-behind : (b : ℕ) → b < 256 → is_unbound (press_of catalogue (0x1B ∷ b ∷ [])) ≡ not (is_named_behind b)
unfolding behind_test
unbound-behind b h = same-is _ _ (at_each behind_test 256 tt b h)
