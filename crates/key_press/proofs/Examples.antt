-- Worked examples of order 1, computed from the definition of a key. Assumes nothing.
use mathlib.Core.Path.{◌≡◌, refl}
use mathlib.Core.Bool.{true, false}
use mathlib.Core.List.{[], ◌∷◌}
use Rattle.utf8.specs.Utf8.{within, one, two, lead3, three, lead4, four, first_of, first}
use Rattle.utf8.specs.Chars.{chars_from, valid_from}
use Rattle.utf8.specs.Encode.{scalar}
use Rattle.repertoire.specs.Repertoire.{catalogue, is_member}
use Rattle.repertoire.specs.Text.{is_char, is_text}
use Rattle.key_press.specs.declared.Press.TheVariants as p
use Rattle.key_press.specs.declared.MoveKey.TheVariants as move
use Rattle.key_press.specs.declared.EditKey.TheVariants as edit
use Rattle.key_press.specs.Keys.{press_of, count_of, key_in, value, behind, is_counted, control, escaped, foreign_key, with_digit}

pub record Bound : Type 0 where
  -- ESC 3 ESC b; ESC 0 0 2 x; held at 65,535
  pub e1 : press_of catalogue (0x1B ∷ 0x33 ∷ 0x1B ∷ 0x62 ∷ []) ≡ p.Move (move.PrevWord 3)
  pub e2 : press_of catalogue (0x1B ∷ 0x30 ∷ 0x30 ∷ 0x32 ∷ 0x78 ∷ []) ≡ p.Edit (edit.Typed 0x78 2)
  pub e3 : press_of catalogue (0x1B ∷ 0x39 ∷ 0x39 ∷ 0x39 ∷ 0x39 ∷ 0x39 ∷ 0x39 ∷ 0x06 ∷ []) ≡ p.Move (move.Forward 65535)
  -- U+00E9, U+0301 and \r insert themselves
  pub e4 : press_of catalogue (0xC3 ∷ 0xA9 ∷ []) ≡ p.Edit (edit.Typed 0xE9 1)
  pub e5 : press_of catalogue (0xCC ∷ 0x81 ∷ []) ≡ p.Edit (edit.Typed 0x301 1)
  pub e6 : press_of catalogue (0x0D ∷ []) ≡ p.Edit (edit.Typed 13 1)
  -- ESC, ESC 1 2, ESC B, "xy", \r\n, 0x7F, nothing
  pub e7 : press_of catalogue (0x1B ∷ []) ≡ p.Unbound
  pub e8 : press_of catalogue (0x1B ∷ 0x31 ∷ 0x32 ∷ []) ≡ p.Unbound
  pub e9 : press_of catalogue (0x1B ∷ 0x42 ∷ []) ≡ p.Unbound
  pub e10 : press_of catalogue (0x78 ∷ 0x79 ∷ []) ≡ p.Unbound
  pub e11 : press_of catalogue (0x0D ∷ 0x0A ∷ []) ≡ p.Unbound
  pub e12 : press_of catalogue (0x7F ∷ []) ≡ p.Unbound
  pub e13 : press_of catalogue [] ≡ p.Unbound
  -- ESC 1 ESC 2 C-f, ESC ESC b
  pub e14 : press_of catalogue (0x1B ∷ 0x31 ∷ 0x1B ∷ 0x32 ∷ 0x06 ∷ []) ≡ p.Unbound
  pub e15 : press_of catalogue (0x1B ∷ 0x1B ∷ 0x62 ∷ []) ≡ p.Unbound

pub bound : Bound
unfolding within one two lead3 three lead4 four first_of first scalar is_member is_char with_digit value behind is_counted count_of key_in control escaped press_of
bound =
    record {
      e1 = refl;
      e2 = refl;
      e3 = refl;
      e4 = refl;
      e5 = refl;
      e6 = refl;
      e7 = refl;
      e8 = refl;
      e9 = refl;
      e10 = refl;
      e11 = refl;
      e12 = refl;
      e13 = refl;
      e14 = refl;
      e15 = refl;
    }

pub record Foreign : Type 0 where
  -- 4: a character cut short, U+00B5 behind ESC, a control byte inside a character; not 0x7F
  pub f1 : foreign_key catalogue (0xC3 ∷ []) ≡ true
  pub f2 : foreign_key catalogue (0x1B ∷ 0xC2 ∷ 0xB5 ∷ []) ≡ true
  pub f3 : foreign_key catalogue (0xC3 ∷ 0x06 ∷ 0xA9 ∷ []) ≡ true
  pub f4 : foreign_key catalogue (0x7F ∷ []) ≡ false

pub foreign : Foreign
unfolding within one two lead3 three lead4 four first_of first chars_from valid_from is_member is_text foreign_key
foreign = record { f1 = refl; f2 = refl; f3 = refl; f4 = refl }
