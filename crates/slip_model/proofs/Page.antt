-- A printed line: its bytes before the closing \n have 60 columns, and none of them is \n. Over any lawful repertoire.
use Prim.Native.Nat.{ℕ, zero, suc, ◌+◌, ◌-◌, ◌≤◌, ◌/◌, ◌%◌}
use mathlib.Core.Path.{◌≡◌, refl, sym, ap, ◌∙◌}
use mathlib.Core.Bool.{Bool, true, false, cond, or-false}
use mathlib.Core.List.{List, [], ◌∷◌, ◌++◌}
use native.Mathlib.Omega.{arith}
use lib.Dec.{leb, eqb}
use lib.ListN.{length, length-replicate}
use borrow.Author.Tests.{leb-false, ne_eqb}
use Rattle.lists.specs.Lists.{all, any}
use Rattle.lists.proofs.Alls.{all_append, any_append}
use Rattle.lists.proofs.Bools.{by_test}
use Rattle.lists.proofs.Every.{Every, every_weaken}
use Rattle.utf8.specs.Chars.{chars}
use Rattle.utf8.specs.Encode.{scalar, two_bytes, three_bytes, four_bytes, encode, encode_all}
use Rattle.utf8.proofs.Encode.{scalar_low, encode_all-append, chars-encode}
use Rattle.repertoire.specs.Repertoire.{Repertoire, Lawful}
use Rattle.layout.specs.Width.{column_after, width}
use Rattle.layout.proofs.Columns.{width-columns}
use Rattle.slip_model.specs.Slip.{Row, Line, spaces, spelled, row_columns, padded}
use Rattle.slip_model.specs.Promised.{Wide}
use Rattle.slip_model.proofs.Columns.{columns-append, space_column}

-- ---- an ASCII byte among the bytes of characters is a character
-- the other bytes are over 0x7F
high_byte : (b x : ℕ) → b ≤ 0x7F → 0x80 ≤ x → eqb b x ≡ false
high_byte b x h k = ne_eqb b x (λ e. absurd (omega arith))

-- two bytes or more have none below 0x80
more_bytes : (b c : ℕ) (x y : Bool) → b ≤ 0x7F → any (eqb b) (cond x (two_bytes c) (cond y (three_bytes c) (four_bytes c))) ≡ false
more_bytes b c true y h = rw (high_byte b (0xC0 + c / 64) h (omega arith), high_byte b (0x80 + c % 64) h (omega arith))
more_bytes b c false true h =
    rw (
      high_byte b (0xE0 + c / 4096) h (omega arith),
      high_byte b (0x80 + c / 64 % 64) h (omega arith),
      high_byte b (0x80 + c % 64) h (omega arith),
    )
more_bytes b c false false h =
    rw (
      high_byte b (0xF0 + c / 262144) h (omega arith),
      high_byte b (0x80 + c / 4096 % 64) h (omega arith),
      high_byte b (0x80 + c / 64 % 64) h (omega arith),
      high_byte b (0x80 + c % 64) h (omega arith),
    )

-- an ASCII byte stands among a character's bytes where it is the character
pub ascii_byte : (b c : ℕ) → b ≤ 0x7F → any (eqb b) (encode c) ≡ eqb b c
unfolding encode
ascii_byte b c h =
    by_test _ (leb c 0x7F) (λ t. rw t (or-false (eqb b c)))
    (λ t. rw t (more_bytes b c (leb c 0x7FF) (leb c 0xFFFF) h ∙ sym (ne_eqb b c (λ e. absurd (omega (arith, leb-false c 0x7F t))))))

-- and so among the bytes of several
pub ascii_bytes : (b : ℕ) (cs : List ℕ) → b ≤ 0x7F → any (eqb b) (encode_all cs) ≡ any (eqb b) cs
unfolding encode_all
ascii_bytes b [] h = refl
ascii_bytes b (c ∷ cs) h = any_append (eqb b) (encode c) (encode_all cs) ∙ rw (ascii_byte b c h, ascii_bytes b cs h)

-- ---- spaces are characters of one byte and one column
pub spaces-length : (n : ℕ) → length (spaces n) ≡ n
spaces-length n = length-replicate {A = ℕ} n 0x20

pub spaces-encode : (n : ℕ) → encode_all (spaces n) ≡ spaces n
unfolding encode_all encode
spaces-encode zero = refl
spaces-encode (suc n) = ap (λ (l : List ℕ). 0x20 ∷ l) (spaces-encode n)

spaces-scalar : (n : ℕ) → all scalar (spaces n) ≡ true
spaces-scalar zero = refl
spaces-scalar (suc n) = rw (scalar_low 0x20 (omega arith)) (spaces-scalar n)

spaces-newline : (n : ℕ) → any (eqb 0x0A) (spaces n) ≡ false
spaces-newline zero = refl
spaces-newline (suc n) = spaces-newline n

spaces-columns : (R : Repertoire) → Lawful R → (n : ℕ) → column_after R 0 (spaces n) ≡ n
unfolding column_after
spaces-columns R law zero = refl
spaces-columns R law (suc n) =
    omega (arith, columns-append R (0x20 ∷ []) (spaces n), space_column R law, spaces-columns R law n)

-- ---- a row, padded
padded-encode : (R : Repertoire) (r : Row) → padded R r ≡ encode_all (spelled r ++ spaces (60 - row_columns R r))
unfolding padded
padded-encode R r =
    let n = 60 - row_columns R r in
    sym (encode_all-append (spelled r) (spaces n) ∙ ap (λ (l : List ℕ). encode_all (spelled r) ++ l) (spaces-encode n))

-- its characters are the row's and the spaces
padded-chars : (R : Repertoire) (r : Row) → all scalar (spelled r) ≡ true → chars (padded R r) ≡ spelled r ++ spaces (60 - row_columns R r)
padded-chars R r h =
    let n = 60 - row_columns R r in
    ap chars (padded-encode R r) ∙
    chars-encode (spelled r ++ spaces n) (all_append scalar (spelled r) (spaces n) ∙ rw h (spaces-scalar n))

-- a row of at most 60 columns is padded to 60
pub row-wide : (R : Repertoire) → Lawful R → (r : Row) → all scalar (spelled r) ≡ true → row_columns R r ≤ 60 → width R 0 (padded R r) ≡ 60
row-wide R law r s h =
    let n = 60 - row_columns R r in
    let e = ap (column_after R 0) (padded-chars R r s) in
    omega (arith, width-columns R 0 (padded R r), e, columns-append R (spelled r) (spaces n), spaces-columns R law n)

-- a padded row has a \n only where the row has
pub row_no_newline : (R : Repertoire) (r : Row) → any (eqb 0x0A) (spelled r) ≡ false → any (eqb 0x0A) (padded R r) ≡ false
row_no_newline R r h =
    let n = 60 - row_columns R r in
    ap (any (eqb 0x0A)) (padded-encode R r) ∙ ascii_bytes 0x0A (spelled r ++ spaces n) (omega arith) ∙
    any_append (eqb 0x0A) (spelled r) (spaces n) ∙ rw h (spaces-newline n)

-- every line has its width
pub lines_wide : (R : Repertoire) → Lawful R → (ls : List Line) →
    Every (λ (l : Line). (all scalar (spelled l.row) ≡ true) × (any (eqb 0x0A) (spelled l.row) ≡ false) × (row_columns R l.row ≤ 60)) ls →
    Every (Wide R) ls
lines_wide R law ls h =
    every_weaken _ (Wide R)
    (λ l p. record { columns60 = row-wide R law l.row p.0 p.2; no_newline = row_no_newline R l.row p.1 }) ls h
