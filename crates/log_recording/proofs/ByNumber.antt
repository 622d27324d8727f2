-- The dry run by the number of a kind, by its tests; and that it says of an edit's kind what the dry run by kinds says. Assumes nothing.
use Prim.Native.Nat.{ℕ, ◌+◌}
use mathlib.Core.Path.{◌≡◌, refl}
use mathlib.Core.Bool.{Bool, true, false, cond, ◌&&◌, and-false}
use lib.Dec.{eqb}
use borrow.Author.Tests.{eq-eqb, ne_eqb}
use Rattle.std.specs.Prelude.{Option, Some, None}
use Rattle.formats.specs.declared.Format.{Format}
use Rattle.log_records.specs.declared.EditKind.{EditKind}
use Rattle.log_records.specs.declared.EditKind.TheVariants.{Insert, Delete, Replace}
use Rattle.log_records.specs.declared.EditRecord.{EditRecord}
use Rattle.log_records.specs.Written.{edit_size as Written·edit_size}
use Rattle.log_recording.specs.declared.Tail.{Tail as Tails·Tail}
use Rattle.log_recording.specs.declared.Noted.{Noted as Tails·Noted}
use Rattle.log_recording.specs.Tails.{same_kind}
use Rattle.log_recording.specs.Tails as tails
use Rattle.log_recording.specs.declared.by_number.Tail.{Tail}
use Rattle.log_recording.specs.declared.by_number.Noted.{Noted}
use Rattle.log_recording.specs.ByNumber.{edit_size, tail_for, apart, behind, in_front, noted}
use Rattle.log_recording.specs.ByNumber.{kind_number, newest_number, tail_number, noted_number}

-- a change that is not joined depends on the used lengths alone
pub noted_for : (F : Format) (j : Bool) (k p o n : ℕ) (t : Tail) → noted F j k p o n (tail_for j t) ≡ noted F j k p o n t
unfolding noted
noted_for F true k p o n t = refl
noted_for F false k p o n t = refl

module _ (F : Format) (k p o n : ℕ) (t : Tail) where
  pub may_not : (j : Bool) → j ≡ false → apart F k p o n t ≡ noted F j k p o n t
  unfolding noted
  may_not j e = rw e

  pub other_kind : (j : Bool) → j ≡ true → (t.kind ≡ k → ⊥) → apart F k p o n t ≡ noted F j k p o n t
  unfolding noted
  other_kind j e f = rw (e, ne_eqb t.kind k f)

  module _ (j : Bool) (may : j ≡ true) (same : t.kind ≡ k) where
    pub follows : t.place + t.new ≡ p → behind o n t ≡ noted F j k p o n t
    unfolding noted
    follows e = rw (may, eq-eqb t.kind k same, eq-eqb (t.place + t.new) p e)

    module _ (elsewhere : t.place + t.new ≡ p → ⊥) where
      pub no_cut : (k ≡ 4 → ⊥) → apart F k p o n t ≡ noted F j k p o n t
      unfolding noted
      no_cut f = rw (may, eq-eqb t.kind k same, ne_eqb (t.place + t.new) p elsewhere, ne_eqb k 4 f)

      pub away : k ≡ 4 → eqb t.place (p + o) ≡ false → apart F k p o n t ≡ noted F j k p o n t
      unfolding noted
      away e f = rw (may, eq-eqb t.kind k same, ne_eqb (t.place + t.new) p elsewhere, eq-eqb k 4 e, f)

      pub before : k ≡ 4 → eqb t.place (p + o) ≡ true → in_front p o n t ≡ noted F j k p o n t
      unfolding noted
      before e f = rw (may, eq-eqb t.kind k same, ne_eqb (t.place + t.new) p elsewhere, eq-eqb k 4 e, f)

-- ---- on an edit's kind it says what the dry run by kinds says: the numeric answer is the image of that one
same-size : (F : Format) (k : EditKind) → edit_size F (kind_number k) ≡ Written·edit_size F k
unfolding edit_size
same-size F Insert = refl
same-size F Delete = refl
same-size F Replace = refl

same-test : (a b : EditKind) → eqb (kind_number a) (kind_number b) ≡ same_kind a b
same-test Insert Insert = refl
same-test Insert Delete = refl
same-test Insert Replace = refl
same-test Delete Insert = refl
same-test Delete Delete = refl
same-test Delete Replace = refl
same-test Replace Insert = refl
same-test Replace Delete = refl
same-test Replace Replace = refl

none_test : (a : EditKind) → eqb 0 (kind_number a) ≡ false
none_test Insert = refl
none_test Delete = refl
none_test Replace = refl

module _ (F : Format) (x : EditRecord) (r m : ℕ) where
  -- the number of the change's kind
  abbrev k : ℕ
  k = kind_number x.kind

  apart-number : (y : Option EditRecord)
      → apart F k x.place x.old x.new (newest_number r m y) ≡ noted_number (tails.apart F x (tails.tail r m y))
  apart-number None = rw (same-size F x.kind)
  apart-number (Some y) = rw (same-size F x.kind)

  module _ (y : EditRecord) where
    abbrev t : Tail
    t = newest_number r m (Some y)

    abbrev t' : Tails·Tail
    t' = tails.tail r m (Some y)

    abbrev own : Noted
    own = apart F k x.place x.old x.new t

    abbrev own' : Tails·Noted
    own' = tails.apart F x t'

    -- by what the tests say
    by_tests : (a b c : Bool) → cond a (cond b (behind x.old x.new t) (cond c (in_front x.place x.old x.new t) own)) own
        ≡ noted_number (cond a (cond b (tails.behind y x t') (cond c (tails.in_front y x t') own')) own')
    by_tests true true c = refl
    by_tests true false true = refl
    by_tests true false false = apart-number (Some y)
    by_tests false b c = apart-number (Some y)

  by_newest : (j : Bool) (y : Option EditRecord)
      → noted F j k x.place x.old x.new (newest_number r m y) ≡ noted_number (tails.noted_at F j x (tails.tail r m y) y)
  unfolding noted tails.joined
  by_newest j None = rw (none_test x.kind, and-false j) (apart-number None)
  by_newest j (Some y) =
      rw (same-test y.kind x.kind, same-test x.kind Delete)
      (by_tests y (j && same_kind y.kind x.kind) (eqb (y.place + y.new) x.place) (same_kind x.kind Delete && eqb y.place (x.place + x.old)))

pub noted-by-number : (F : Format) (j : Bool) (x : EditRecord) (t : Tails·Tail)
    → noted F j (kind_number x.kind) x.place x.old x.new (tail_number t) ≡ noted_number (tails.noted F j x t)
unfolding tails.noted
noted-by-number F j x t = by_newest F x t.records t.texts j t.newest
