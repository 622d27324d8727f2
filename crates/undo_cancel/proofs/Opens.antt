-- A group that is open, found by a walk back over the kinds of the records. Assumes nothing.
use Prim.Native.Nat.{ℕ, suc, ◌+◌, ◌-◌, ◌≤◌, ◌<◌}
use native.Mathlib.Omega.{arith}
use mathlib.Core.Path.{◌≡◌, refl, sym, ap, subst, ◌∙◌}
use mathlib.Core.Bool.{true, false, cond}
use mathlib.Core.List.{List, [], ◌∷◌, ◌++◌, reverse, reverse-cons, reverse-reverse, append_assoc, append-nil}
use lib.Dec.{eqb}
use lib.ListN.{length, get_or, length-reverse}
use borrow.Author.Tests.{eq-eqb, ne_eqb}
use Rattle.std.specs.Prelude.{Option, Some, None}
use Rattle.std.proofs.lemmas.Option.{same_Some}
use Rattle.repertoire.specs.Repertoire.{Repertoire}
use Rattle.log_model.specs.Change.{Change, begin, end, edit}
use Rattle.formats.specs.declared.Format.{Format}
use Rattle.log_model.specs.Layout.{record_of, encode_texts, Layout}
use Rattle.log_model.specs.UndoBytes.{undo_records}
use Rattle.log_model.proofs.Decode.{record_pos}
use Rattle.log_model.proofs.Newest.{undo-reverse, undo_nil}
use Rattle.log_model.proofs.UndoBytes.{records-size}
use Rattle.log_model.proofs.Walk.{reads_at, whole-at}
use Rattle.log_records.specs.declared.EditKind.{EditKind}
use Rattle.log_records.specs.declared.Kind.TheVariants.{Begin, End, Edit}
use Rattle.log_records.specs.declared.Record.{Record}
use Rattle.log_records.specs.Records.{numbers_of, record_at}
use Rattle.log_records.specs.Walks.{SizesOf, SizesWritten}
use Rattle.log_records.proofs.Records.{record_behind}
use Rattle.undo_cancel.specs.Cancel.{opens, begins_down}
use Rattle.undo_cancel.specs.Open.{open_begins}

-- ---- with b Begins passed already
abbrev pub open_down : ℕ → ℕ → List Change → Option ℕ
open_down b m u = cond (opens m u) (Some (b + begins_down m u)) None

-- ---- a record by its kind
-- an edit is passed
kind-edit : (F : Format) (c : Change) (k : EditKind) → (numbers_of F c).kind ≡ Edit k → (m : ℕ) (u : List Change) (b : ℕ) → open_down b m (c ∷ u) ≡ open_down b m u
unfolding opens begins_down
kind-edit F begin k e m u b = cc
kind-edit F end k e m u b = cc
kind-edit F (edit x) k e m u b = refl

-- an End closes what is before it
kind-end : (F : Format) (c : Change) → (numbers_of F c).kind ≡ End → (m : ℕ) (u : List Change) (b : ℕ) → open_down b m (c ∷ u) ≡ None
unfolding opens
kind-end F begin e m u b = cc
kind-end F end e m u b = refl
kind-end F (edit x) e m u b = cc

-- a Begin
kind-begin : (F : Format) (c : Change) → (numbers_of F c).kind ≡ Begin → c ≡ begin
kind-begin F begin e = refl
kind-begin F end e = cc
kind-begin F (edit x) e = cc

-- the one of the mark is the last that is counted
begin-mark : (b m : ℕ) (u : List Change) → eqb (length u) m ≡ true → open_down b m (begin ∷ u) ≡ Some (b + 1)
unfolding opens begins_down
begin-mark b m u e = rw e

-- any other is counted
begin_on : (b m : ℕ) (u : List Change) → eqb (length u) m ≡ false → open_down b m (begin ∷ u) ≡ open_down (b + 1) m u
unfolding opens begins_down
begin_on b m u e = let a : b + suc (begins_down m u) ≡ b + 1 + begins_down m u = omega arith in rw (e, a)

-- no record, and all of them
pub down_none : (b m : ℕ) → open_down b m [] ≡ None
unfolding opens
down_none b m = refl

pub down_all : (m : ℕ) (u : List Change) → open_begins m u ≡ open_down 0 m u
unfolding open_begins
down_all m u = let a : 0 + begins_down m u ≡ begins_down m u = omega arith in sym (rw a)

-- ---- a walk back over the list us has come to at: rest is left, passed is behind it
pub record Downto (F : Format) (sizes : List ℕ) (m at left begins : ℕ) (us : List Change) : Type 0 where
  pub rest : List Change
  pub passed : List Change
  pub row : us ≡ reverse rest ++ passed
  pub place : at ≡ length (undo_records F rest)
  pub count : left ≡ length rest
  pub written : SizesOf F sizes rest
  pub same : open_begins m (reverse us) ≡ open_down begins m rest

-- the record that ends at at: its size, where it begins, its numbers
pub record Last (F : Format) (rs : List ℕ) (n at left : ℕ) (rest : List Change) : Type 0 where
  pub change : Change
  pub before : List Change
  pub is : rest ≡ change ∷ before
  pub size : n ≡ length (record_of F change)
  pub within : n ≤ at
  pub some : 0 < n
  pub fewer : left - 1 ≡ length before
  pub whole : at ≤ length rs
  pub more : 0 < left
  pub numbers : record_at F rs (at - n) ≡ Some (numbers_of F change)
  pub place : at - n ≡ length (undo_records F before)

module _ (R : Repertoire) (F : Format) (rs sizes : List ℕ) (m : ℕ) where
  -- in every list that has these records
  abbrev pub Downs : ℕ → ℕ → ℕ → Type 0
  Downs at left begins = (ts : List ℕ) (us : List Change) → Layout R F rs ts us → Downto F sizes m at left begins us

  -- at its beginning
  pub down_first : (count : ℕ) → SizesWritten R F rs count sizes → Downs (length rs) count 0
  down_first count w ts us l =
      record {
        rest = reverse us;
        passed = [];
        row = sym (append-nil (reverse (reverse us)) ∙ reverse-reverse us);
        place = ap length (l.records ∙ sym (undo-reverse F us));
        count = (w ts us l).0 ∙ sym (length-reverse us);
        written = (w ts us l).1;
        same = down_all m (reverse us);
      }

module _ {R : Repertoire} {F : Format} {rs sizes : List ℕ} {m at left begins : ℕ} {ts : List ℕ} {us : List Change} (l : Layout R F rs ts us)
    (d : Downto F sizes m at left begins us) where
  -- no record is left
  pub down_ended : left ≤ 0 → None ≡ open_begins m (reverse us)
  down_ended h = sym (d.same ∙ go d.rest refl)
    where
      go : (u : List Change) → d.rest ≡ u → open_down begins m d.rest ≡ None
      go [] e = ap (open_down begins m) e ∙ down_none begins m
      go (c ∷ u) e = absurd (omega (arith, d.count, ap length e))

  -- where a record is left there are bytes
  pub some_left : 0 < left → 0 < at
  some_left h = go d.rest refl
    where
      go : (u : List Change) → d.rest ≡ u → 0 < at
      go [] e = absurd (omega (arith, d.count, ap length e))
      go (c ∷ u) e = omega (arith, d.place, ap (λ (a : List Change). length (undo_records F a)) e, records-size F c u, record_pos F c)

  -- the change c of the list stands before those that were passed
  row_at : (c : Change) (u : List Change) → d.rest ≡ c ∷ u → us ≡ reverse u ++ (c ∷ d.passed)
  row_at c u e = d.row ∙ ap (λ (a : List Change). reverse a ++ d.passed) e ∙ ap (λ (a : List Change). a ++ d.passed) (reverse-cons c u)
      ∙ append_assoc (reverse u) (c ∷ []) d.passed

  -- its numbers are read there, and its bytes lie in the list
  module _ (c : Change) (u : List Change) (e : d.rest ≡ c ∷ u) (i : ℕ) (p : i ≡ length (undo_records F u)) where
    numbers-at : record_at F rs i ≡ Some (numbers_of F c)
    unfolding undo_records
    numbers-at = record_behind R F rs ts (reverse u) d.passed c i (subst (Layout R F rs ts) (row_at c u e) l) p

    inside_at : i + length (record_of F c) ≤ length rs
    unfolding undo_records
    inside_at =
        let k = subst (Layout R F rs ts) (row_at c u e) l in
        let t = length (encode_texts (reverse u)) in
        omega (arith, (whole-at R F rs ts (reverse u) d.passed c i t k p refl).body, (reads_at R F rs ts (reverse u) d.passed c i t k p refl).size)

  -- where there are bytes there is a record
  pub last : 0 < at → Last F rs (get_or sizes (at - 1) 0) at left d.rest
  last h = go d.rest refl
    where
      go : (u : List Change) → d.rest ≡ u → Last F rs (get_or sizes (at - 1) 0) at left d.rest
      go [] e = absurd (omega (arith, d.place, ap (λ (a : List Change). length (undo_records F a)) e, ap length (undo_nil F)))
      go (c ∷ u) e =
          let p : at ≡ length (undo_records F (c ∷ u)) = d.place ∙ ap (λ (a : List Change). length (undo_records F a)) e in
          let z : get_or sizes (at - 1) 0 ≡ length (record_of F c) = ap (λ (a : ℕ). get_or sizes (a - 1) 0) p ∙ (subst (SizesOf F sizes) e d.written).0 in
          let q : at - get_or sizes (at - 1) 0 ≡ length (undo_records F u) = omega (arith, z, p, records-size F c u) in
          record {
            change = c;
            before = u;
            is = e;
            size = z;
            within = omega (arith, z, p, records-size F c u);
            some = omega (arith, z, record_pos F c);
            fewer = omega (arith, d.count, ap length e);
            whole = omega (arith, z, q, p, records-size F c u, inside_at c u e (at - get_or sizes (at - 1) 0) q);
            more = omega (arith, d.count, ap length e);
            numbers = numbers-at c u e (at - get_or sizes (at - 1) 0) q;
            place = q;
          }

  -- it is read as r
  module _ (h : 0 < at) {r : Record} (q : Some r ≡ record_at F rs (at - get_or sizes (at - 1) 0)) where
    abbrev x : Last F rs (get_or sizes (at - 1) 0) at left d.rest
    x = last h

    kind-is : (numbers_of F x.change).kind ≡ r.kind
    kind-is = ap (λ (a : Record). a.kind) (same_Some (numbers_of F x.change) r (sym x.numbers ∙ sym q))

    -- an End comes before the mark
    pub down_end : r.kind ≡ End → None ≡ open_begins m (reverse us)
    down_end z = sym (d.same ∙ ap (open_down begins m) x.is ∙ kind-end F x.change (kind-is ∙ z) m x.before begins)

    passed_by : (b : ℕ) → open_down begins m (x.change ∷ x.before) ≡ open_down b m x.before → Downto F sizes m (at - get_or sizes (at - 1) 0) (left - 1) b us
    passed_by b e =
        record {
          rest = x.before;
          passed = x.change ∷ d.passed;
          row = row_at x.change x.before x.is;
          place = x.place;
          count = x.fewer;
          written = (subst (SizesOf F sizes) x.is d.written).1;
          same = d.same ∙ ap (open_down begins m) x.is ∙ e;
        }

    -- an edit
    pub down_edit : (k : EditKind) → r.kind ≡ Edit k → Downto F sizes m (at - get_or sizes (at - 1) 0) (left - 1) begins us
    down_edit k z = passed_by begins (kind-edit F x.change k (kind-is ∙ z) m x.before begins)

    module _ (z : r.kind ≡ Begin) where
      is-begin : open_down begins m (x.change ∷ x.before) ≡ open_down begins m (begin ∷ x.before)
      is-begin = ap (λ (a : Change). open_down begins m (a ∷ x.before)) (kind-begin F x.change (kind-is ∙ z))

      -- the Begin of the mark
      pub down_found : left - 1 ≡ m → Some (begins + 1) ≡ open_begins m (reverse us)
      down_found e =
          sym (d.same ∙ ap (open_down begins m) x.is ∙ is-begin ∙ begin-mark begins m x.before (eq-eqb (length x.before) m (sym x.fewer ∙ e)))

      -- another
      pub down_begin : (left - 1 ≡ m → ⊥) → Downto F sizes m (at - get_or sizes (at - 1) 0) (left - 1) (begins + 1) us
      down_begin e = passed_by (begins + 1) (is-begin ∙ begin_on begins m x.before (ne_eqb (length x.before) m (λ g. e (x.fewer ∙ g))))
