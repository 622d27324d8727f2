-- The dry run by its tests. Assumes nothing.
use Prim.Native.Nat.{ℕ, ◌+◌, ◌-◌, ◌≤◌, ◌<◌}
use native.Mathlib.Omega.{arith}
use mathlib.Core.Path.{◌≡◌, refl, sym, ◌∙◌}
use mathlib.Core.Bool.{Bool, true, false}
use lib.Dec.{eqb}
use denote.Enum.Bare.{sameb}
use borrow.Author.Tests.{eqb-true, eqb-false, eq-eqb, ne_eqb}
use Rattle.std.specs.Prelude.{Option, Some, None}
use Rattle.lists.proofs.Bools.{by_test}
use Rattle.formats.specs.declared.Format.{Format}
use Rattle.log_records.specs.declared.EditKind.{EditKind}
use Rattle.log_records.specs.declared.EditKind.TheVariants.{Insert, Delete, Replace}
use Rattle.log_records.specs.declared.EditRecord.{EditRecord}
use Rattle.log_records.specs.contracts.EditKind.{the_type}
use Rattle.log_recording.specs.Tails.{tail_for, same_kind, apart, behind, in_front, joined, noted_at, noted, InRange}
use Rattle.log_recording.specs.declared.Tail.{Tail}

-- does a cut end where the next one begins?
pub ends_yes : (p n q : ℕ) → p ≤ q → eqb (q - p) n ≡ eqb q (p + n)
ends_yes p n q h =
    by_test (eqb (q - p) n ≡ eqb q (p + n)) (eqb (q - p) n)
    (λ e. let f = eqb-true (q - p) n e in e ∙ sym (eq-eqb q (p + n) (omega arith)))
    (λ e. let f = eqb-false (q - p) n e in e ∙ sym (ne_eqb q (p + n) (λ g. f (omega arith))))

pub ends_no : (p n q : ℕ) → q < p → false ≡ eqb q (p + n)
ends_no p n q h = sym (ne_eqb q (p + n) (λ e. omega arith))

-- whether two kinds are one, as the code tests it
pub same-kinds : (a b : EditKind) → sameb the_type a b ≡ same_kind a b
same-kinds Insert Insert = refl
same-kinds Insert Delete = refl
same-kinds Insert Replace = refl
same-kinds Delete Insert = refl
same-kinds Delete Delete = refl
same-kinds Delete Replace = refl
same-kinds Replace Insert = refl
same-kinds Replace Delete = refl
same-kinds Replace Replace = refl

-- ---- the change x and the newest record y, which is of its kind
module _ (F : Format) (y x : EditRecord) (t : Tail) where
  pub follows : y.place + y.new ≡ x.place → behind y x t ≡ joined F y x t
  unfolding joined
  follows e = rw (eq-eqb (y.place + y.new) x.place e)

  module _ (elsewhere : y.place + y.new ≡ x.place → ⊥) where
    pub before : true ≡ sameb the_type x.kind Delete → true ≡ eqb y.place (x.place + x.old) → in_front y x t ≡ joined F y x t
    unfolding joined
    before e f = rw (ne_eqb (y.place + y.new) x.place elsewhere, sym (e ∙ same-kinds x.kind Delete), sym f)

    pub no_cut : false ≡ sameb the_type x.kind Delete → apart F x t ≡ joined F y x t
    unfolding joined
    no_cut e = rw (ne_eqb (y.place + y.new) x.place elsewhere, sym (e ∙ same-kinds x.kind Delete))

    pub away : true ≡ sameb the_type x.kind Delete → false ≡ eqb y.place (x.place + x.old) → apart F x t ≡ joined F y x t
    unfolding joined
    away e f = rw (ne_eqb (y.place + y.new) x.place elsewhere, sym (e ∙ same-kinds x.kind Delete), sym f)

-- ---- the change x, where it may be joined, or not
module _ (F : Format) (x : EditRecord) (t : Tail) where
  module _ (y : EditRecord) (e : t.newest ≡ Some y) where
    pub may_join : (j : Bool) → j ≡ true → true ≡ sameb the_type y.kind x.kind → joined F y x t ≡ noted F j x t
    unfolding noted
    may_join j f g = rw (e, f, sym (g ∙ same-kinds y.kind x.kind))

    pub other_kind : (j : Bool) → j ≡ true → false ≡ sameb the_type y.kind x.kind → apart F x t ≡ noted F j x t
    unfolding noted
    other_kind j f g = rw (e, f, sym (g ∙ same-kinds y.kind x.kind))

    pub may_not : (j : Bool) → j ≡ false → apart F x t ≡ noted F j x t
    unfolding noted
    may_not j f = rw (e, f)

  pub no_edit : (j : Bool) → t.newest ≡ None → apart F x t ≡ noted F j x t
  unfolding noted
  no_edit j e = rw e

-- a change that is not joined depends on the used lengths alone
pub noted_for : (F : Format) (j : Bool) (x : EditRecord) (t : Tail) → noted F j x (tail_for j t) ≡ noted F j x t
unfolding noted
noted_for F true x t = refl
noted_for F false x t = apart_by t.newest
  where
    apart_by : (y : Option EditRecord) → apart F x t ≡ noted_at F false x t y
    apart_by None = refl
    apart_by (Some y) = refl

pub joined_for : (j : Bool) (t : Tail) → j ≡ true → t ≡ tail_for j t
joined_for j t e = rw e

pub in_range_for : (j : Bool) (t : Tail) (o n : ℕ) → InRange t o n → InRange (tail_for j t) o n
in_range_for true t o n h = h
in_range_for false t o n h = record { records = h.records; texts = h.texts; newest = tt; old = h.old; new = h.new }
