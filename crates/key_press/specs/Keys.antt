-- Order 1 of document 02: which bytes are a key, what its n is, and what it stands for. ESC is 0x1B.
use Rattle.std.specs.Prelude.{ℕ, ◌+◌, ◌*◌, ◌-◌, ◌≤◌, ◌≡◌, Bool, cond, ◌&&◌, ◌||◌, not, List, [], ◌∷◌, eqb, ltb, length, get_or, drop}
use Rattle.utf8.specs.Utf8.{First, char, bad, within, first}
use Rattle.repertoire.specs.Repertoire.{Repertoire}
use Rattle.repertoire.specs.Text.{is_text, is_char}
use Rattle.key_press.specs.declared.Press.{Press}
use Rattle.key_press.specs.declared.Press.TheVariants as p
use Rattle.key_press.specs.declared.MoveKey.TheVariants as move
use Rattle.key_press.specs.declared.EditKey.TheVariants as edit
use Rattle.key_press.specs.declared.KillKey.TheVariants as kill
use Rattle.key_press.specs.declared.Count.{Count}

-- ---- "ESC and digits give the next key's n, held at 65,535; without them n is 1"
abbrev pub is_digit : ℕ → Bool
is_digit b = within 0x30 0x39 b

-- a digit behind the number n
unfoldable pub with_digit : ℕ → ℕ → ℕ
with_digit n b = cond (ltb 65535 (n * 10 + (b - 0x30))) 65535 (n * 10 + (b - 0x30))

-- the number that the digits in front make, behind n: "all that stand there"
unfoldable pub value : ℕ → List ℕ → ℕ
value n [] = n
value n (b ∷ s) = cond (is_digit b) (value (with_digit n b) s) n

-- what stands behind them
unfoldable pub behind : List ℕ → List ℕ
behind [] = []
behind (b ∷ s) = cond (is_digit b) (behind s) (b ∷ s)

unfoldable pub is_counted : List ℕ → Bool
is_counted s = eqb (get_or s 0 256) 0x1B && is_digit (get_or s 1 256)

unfoldable pub count_of : List ℕ → ℕ
count_of s = cond (is_counted s) (value 0 (drop 1 s)) 1

unfoldable pub key_in : List ℕ → List ℕ
key_in s = cond (is_counted s) (behind (drop 1 s)) s

-- a count and the place behind it, as the program finds them
pub record CountedAs (s : List ℕ) (c : Count) : Type 0 where
  pub within : c.at ≤ length s
  pub count : c.n ≡ count_of s
  pub key : drop c.at s ≡ key_in s

-- ---- the bindings
-- control a, b, d, e, f, k, t, u, w, y and underscore; U+0009, \n and \r insert themselves
unfoldable pub control : ℕ → ℕ → Press
control n b =
    cond (eqb b 0x01) (p.Move move.Home)
    (cond (eqb b 0x02) (p.Move (move.Backward n))
    (cond (eqb b 0x04) (p.Edit (edit.Delete n))
    (cond (eqb b 0x05) (p.Move move.End)
    (cond (eqb b 0x06) (p.Move (move.Forward n))
    (cond (eqb b 0x09) (p.Edit (edit.Typed 0x09 n))
    (cond (eqb b 0x0A) (p.Edit (edit.Typed 0x0A n))
    (cond (eqb b 0x0B) (p.Kill kill.Line)
    (cond (eqb b 0x0D) (p.Edit (edit.Typed 0x0D n))
    (cond (eqb b 0x14) (p.Edit edit.TransposeChars)
    (cond (eqb b 0x15) (p.Kill kill.Discard)
    (cond (eqb b 0x17) (p.Kill (kill.PrevWord n))
    (cond (eqb b 0x19) (p.Yank n)
    (cond (eqb b 0x1F) (p.Undo n)
    p.Unbound)))))))))))))

-- ESC with b, c, d, f, l, t, u, y
unfoldable pub escaped : ℕ → ℕ → Press
escaped n b =
    cond (eqb b 0x62) (p.Move (move.PrevWord n))
    (cond (eqb b 0x63) (p.Edit edit.Capitalize)
    (cond (eqb b 0x64) (p.Kill (kill.Word n))
    (cond (eqb b 0x66) (p.Move (move.NextWord n))
    (cond (eqb b 0x6C) (p.Edit edit.Lowercase)
    (cond (eqb b 0x74) (p.Edit (edit.TransposeWords n))
    (cond (eqb b 0x75) (p.Edit edit.Uppercase)
    (cond (eqb b 0x79) p.YankPop
    p.Unbound)))))))

-- one character of the repertoire and nothing behind it inserts itself
abbrev pub typed_by : Repertoire → First → ℕ → ℕ → Press
typed_by R (char c k) len n = cond (eqb k len && is_char R c) (p.Edit (edit.Typed c n)) p.Unbound
typed_by R bad len n = p.Unbound

abbrev pub character : Repertoire → ℕ → List ℕ → Press
character R n s = typed_by R (first s) (length s) n

-- a key without its count: a byte below 0x20, ESC and a letter, or a character
abbrev pub press_by : Repertoire → ℕ → List ℕ → Press
press_by R n [] = p.Unbound
press_by R n (b ∷ []) = cond (ltb b 0x20) (control n b) (character R n (b ∷ []))
press_by R n (b ∷ x ∷ []) = cond (eqb b 0x1B) (escaped n x) (character R n (b ∷ x ∷ []))
press_by R n (b ∷ x ∷ y ∷ s) = character R n (b ∷ x ∷ y ∷ s)

-- what the bytes of one call stand for
unfoldable pub press_of : Repertoire → List ℕ → Press
press_of R s = press_by R (count_of s) (key_in s)

-- ---- check 4 of a key's bytes: "bytes below 0x20 and 0x7F are not tried by 4"
abbrev pub is_untried : ℕ → Bool
is_untried c = ltb c 0x20 || eqb c 0x7F

-- the repertoire with what is not tried
abbrev pub untried : Repertoire → Repertoire
untried R =
    record {
      member = λ c. is_untried c || R.member c;
      control = R.control;
      mark = R.mark;
      alnum = R.alnum;
      white = R.white;
      upper = R.upper;
      lower = R.lower;
      width = R.width;
    }

unfoldable pub foreign_key : Repertoire → List ℕ → Bool
foreign_key R s = not (is_text (untried R) s)
