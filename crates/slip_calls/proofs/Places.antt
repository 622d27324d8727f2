-- Places as the program finds them, by how far the line is filled. Assumes nothing.
use Prim.Native.Nat.{ℕ, ◌+◌, ◌-◌, ◌≤◌, ◌<◌}
use mathlib.Core.Path.{◌≡◌, refl, sym, ap, ◌∙◌}
use mathlib.Core.Bool.{true, false}
use mathlib.Core.List.{List, [], ◌∷◌, append-nil}
use native.Mathlib.Omega.{arith}
use lib.Dec.{leb}
use lib.ListN.{length, set, length-append}
use lib.Seq.{sets}
use borrow.Author.Tests.{le-leb, lt-leb}
use Rattle.lists.proofs.Bools.{by_test}
use Rattle.lists.proofs.Stores.{sets-append}
use Rattle.slip_model.specs.declared.Filled.{Filled}
use Rattle.slip_model.specs.declared.Filled.TheVariants.{Fresh, Blank, UpTo}
use Rattle.slip_model.specs.Slip.{with, spaced, spaces}
use Rattle.slip_model.proofs.Page.{spaces-length}
use Rattle.slip_calls.specs.declared.Place.{Place}
use Rattle.slip_calls.specs.Places.{filled_to, space_before, line_end, place_for, white_place, placed}

-- a line padded and ended
pub line-ended : (f g : Filled) (n : ℕ) → n ≡ filled_to f → record { spaces = 60 - n; newline = true; filled = g } ≡ line_end f g
line-ended f g n e = rw e refl

-- one space at most
pub space-most : (f : Filled) → space_before f ≤ 1
space-most Fresh = omega arith
space-most Blank = omega arith
space-most (UpTo c) = omega arith

-- the columns with a word more
pub with-columns : (f : Filled) (n : ℕ) → with f n ≡ filled_to f + space_before f + n
with-columns Fresh n = omega arith
with-columns Blank n = omega arith
with-columns (UpTo c) n = refl

-- a word that fits, and one that does not
pub place-fits : (f : Filled) (n spaces columns : ℕ) → spaces ≡ space_before f → columns ≡ filled_to f + spaces + n → columns ≤ 60 →
    record { spaces = spaces; newline = false; filled = UpTo columns } ≡ place_for f n
place-fits f n spaces columns e h m =
    let w : columns ≡ with f n = omega (arith, e, h, with-columns f n) in
    let t : leb (with f n) 60 ≡ true = le-leb (with f n) 60 (omega (arith, m, w)) in
    rw (e, w, t) refl

pub place-below : (f : Filled) (n spaces columns : ℕ) → spaces ≡ space_before f → columns ≡ filled_to f + spaces + n → 60 < columns →
    line_end f (UpTo n) ≡ place_for f n
place-below f n spaces columns e h m =
    let t : leb (with f n) 60 ≡ false = lt-leb (with f n) 60 (omega (arith, e, h, m, with-columns f n)) in
    rw t refl

-- white space without \n
pub white-between : (f g : Filled) → g ≡ spaced f → record { spaces = 0; newline = false; filled = g } ≡ white_place false f
white-between f g e = rw e refl

-- the bytes of a place
pub placed-length : (p : Place) → (p.newline ≡ true → length (placed p) ≡ p.spaces + 1) × (p.newline ≡ false → length (placed p) ≡ p.spaces)
placed-length p = (
  λ e. rw e (omega (arith, length-append (spaces p.spaces) (0x0A ∷ []), spaces-length p.spaces)),
  λ e. rw e (omega (arith, length-append (spaces p.spaces) [], spaces-length p.spaces)),
)

-- at least its spaces
pub placed-most : (p : Place) → p.spaces ≤ length (placed p)
placed-most p =
    by_test _ p.newline (λ e. omega (arith, (placed-length p).0 e)) (λ e. omega (arith, (placed-length p).1 e))

-- a place written from at on: its spaces, and its \n where it has one
pub spaces-placed : (page : List ℕ) (at : ℕ) (p : Place) → p.newline ≡ false → sets page at (spaces p.spaces) ≡ sets page at (placed p)
spaces-placed page at p e = rw e (ap (sets page at) (sym (append-nil (spaces p.spaces))))

pub newline-placed : (page : List ℕ) (at : ℕ) (p : Place) → p.newline ≡ true →
    set (sets page at (spaces p.spaces)) (at + p.spaces) 0x0A ≡ sets page at (placed p)
newline-placed page at p e =
    rw e
    (ap (λ (n : ℕ). set (sets page at (spaces p.spaces)) (at + n) 0x0A) (sym (spaces-length p.spaces)) ∙
    sets-append page at (spaces p.spaces) (0x0A ∷ []))
