-- The Ends passed and the Begins passed, as two numbers: waiting_for_begin is their difference. Assumes nothing.
use Prim.Native.Nat.{ℕ, zero, suc, ◌+◌, ◌≤◌, ◌<◌}
use native.Mathlib.Omega.{arith}
use mathlib.Core.Path.{◌≡◌, refl, sym, ap, subst, ◌∙◌}
use mathlib.Core.Bool.{true, false}
use Rattle.log_model.specs.Change.{Change, begin, end, edit, turn}
use Rattle.formats.specs.declared.Format.{Format}
use Rattle.log_records.specs.declared.Kind.{Kind}
use Rattle.log_records.specs.declared.Kind.TheVariants.{Begin, End, Edit}
use Rattle.log_records.specs.Records.{numbers_of}
use Rattle.undo.specs.Undo.{Waiting, owed, below, passing, settled}
use Rattle.undo.specs.Steps.{begins_in, ends_in}

-- the counter, by the Ends and the Begins that were passed
abbrev pub Waits : Waiting → ℕ → ℕ → Type 0
Waits (owed n) ends begins = ends ≡ begins + n
Waits (below n) ends begins = begins ≡ ends + suc n

-- a unit is done where the Ends are no more than the Begins
pub settles : (w : Waiting) (ends begins : ℕ) → Waits w ends begins → ends ≤ begins → settled w ≡ true
settles (owed zero) ends begins h i = refl
settles (owed (suc n)) ends begins h i = absurd (omega arith)
settles (below n) ends begins h i = refl

pub unsettled : (w : Waiting) (ends begins : ℕ) → Waits w ends begins → begins < ends → settled w ≡ false
unsettled (owed zero) ends begins h i = absurd (omega arith)
unsettled (owed (suc n)) ends begins h i = refl
unsettled (below n) ends begins h i = absurd (omega arith)

-- ---- a record passed, by its kind
begin_counts : (w : Waiting) (ends begins : ℕ) → Waits w ends begins → Waits (passing begin w) (ends + 0) (begins + 1)
begin_counts (owed zero) ends begins h = omega arith
begin_counts (owed (suc n)) ends begins h = omega arith
begin_counts (below n) ends begins h = omega arith

end_counts : (w : Waiting) (ends begins : ℕ) → Waits w ends begins → Waits (passing end w) (ends + 1) (begins + 0)
end_counts (owed n) ends begins h = omega arith
end_counts (below zero) ends begins h = omega arith
end_counts (below (suc n)) ends begins h = omega arith

none_counts : (w : Waiting) (ends begins : ℕ) → Waits w ends begins → Waits w (ends + 0) (begins + 0)
none_counts (owed n) ends begins h = omega arith
none_counts (below n) ends begins h = omega arith

-- undone
back : (F : Format) (x : Change) (w : Waiting) (ends begins : ℕ) → Waits w ends begins
    → Waits (passing x w) (ends + ends_in (numbers_of F x).kind) (begins + begins_in (numbers_of F x).kind)
back F begin w ends begins h = begin_counts w ends begins h
back F end w ends begins h = end_counts w ends begins h
back F (edit x) w ends begins h = none_counts w ends begins h

-- redone: it is passed turned round
on : (F : Format) (x : Change) (w : Waiting) (ends begins : ℕ) → Waits w ends begins
    → Waits (passing x w) (ends + begins_in (numbers_of F (turn x)).kind) (begins + ends_in (numbers_of F (turn x)).kind)
on F begin w ends begins h = begin_counts w ends begins h
on F end w ends begins h = end_counts w ends begins h
on F (edit x) w ends begins h = none_counts w ends begins h

-- ---- the number that the code adds for a record
pub is_begin : {k : Kind} → k ≡ Begin → 1 ≡ begins_in k
is_begin e = ap begins_in (sym e)

pub no_begin : (k : Kind) → (k ≡ Begin → ⊥) → 0 ≡ begins_in k
no_begin Begin e = absurd (e refl)
no_begin End e = refl
no_begin (Edit x) e = refl

pub is_end : {k : Kind} → k ≡ End → 1 ≡ ends_in k
is_end e = ap ends_in (sym e)

pub no_end : (k : Kind) → (k ≡ End → ⊥) → 0 ≡ ends_in k
no_end Begin e = refl
no_end End e = absurd (e refl)
no_end (Edit x) e = refl

-- at most one of them
pub one_in : (k : Kind) → begins_in k + ends_in k ≤ 1
one_in Begin = omega arith
one_in End = omega arith
one_in (Edit x) = omega arith

-- the code counts a record of the kind k: i is 1 for a Begin, j for an End
module _ (k : Kind) {i j : ℕ} (e : i ≡ begins_in k) (f : j ≡ ends_in k) where
  pub one_of : i + j ≤ 1
  one_of = omega (arith, one_in k)

  module _ (F : Format) (x : Change) (w : Waiting) (ends begins : ℕ) (h : Waits w ends begins) where
    pub counts_back : k ≡ (numbers_of F x).kind → Waits (passing x w) (ends + j) (begins + i)
    counts_back q =
        subst (λ (a : ℕ). Waits (passing x w) (ends + a) (begins + i)) (sym (f ∙ ap ends_in q))
        (subst (λ (a : ℕ). Waits (passing x w) (ends + ends_in (numbers_of F x).kind) (begins + a)) (sym (e ∙ ap begins_in q)) (back F x w ends begins h))

    pub counts_on : k ≡ (numbers_of F (turn x)).kind → Waits (passing x w) (ends + i) (begins + j)
    counts_on q =
        subst (λ (a : ℕ). Waits (passing x w) (ends + a) (begins + j)) (sym (e ∙ ap begins_in q))
        (subst (λ (a : ℕ). Waits (passing x w) (ends + begins_in (numbers_of F (turn x)).kind) (begins + a)) (sym (f ∙ ap ends_in q)) (on F x w ends begins h))
