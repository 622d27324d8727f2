-- Walks over the records of a list: what each keeps of the changes that it passed, a record more, and the end. Assumes nothing.
use Prim.Native.Nat.{ℕ, ◌+◌, ◌≤◌, ◌<◌}
use native.Mathlib.Omega.{arith}
use mathlib.Core.Path.{◌≡◌, refl, sym, ap, ap₂, ◌∙◌}
use mathlib.Core.Bool.{false}
use mathlib.Core.List.{List, [], ◌∷◌, ◌++◌, reverse}
use lib.ListN.{length, get_or, take, drop, length-append}
use lib.Seq.{take_all, length-take-le}
use Rattle.std.specs.Prelude.{Some, None}
use Rattle.std.proofs.lemmas.Option.{none-some}
use Rattle.lists.proofs.Bools.{by_less}
use Rattle.repertoire.specs.Repertoire.{Repertoire}
use Rattle.log_model.specs.Change.{Change, begin, end, edit, insert, delete, replace}
use Rattle.formats.specs.declared.Format.{Format}
use Rattle.log_model.specs.Layout.{encode_texts, texts_of, size_of, texts_at}
use Rattle.log_model.specs.Holds.{Listed}
use Rattle.log_model.specs.Groups.{is_begin, is_end}
use Rattle.log_model.specs.UndoBytes.{undo_records}
use Rattle.log_model.proofs.Holds.{texts_snoc}
use Rattle.log_model.proofs.Groups.{passed_short}
use Rattle.log_model.proofs.Newest.{reverse_snoc, undo-reverse, undo_nil, passed_nil, passed_over, passed_up_to}
use Rattle.log_model.proofs.Walk.{past, before-end, Upto, Next, Come, come_start, come_next, come_whole}
use Rattle.log_records.specs.declared.Span.{Span}
use Rattle.log_records.specs.declared.Newest.{Newest}
use Rattle.log_records.specs.declared.Kind.{Kind}
use Rattle.log_records.specs.declared.Kind.TheVariants.{Begin, End, Edit}
use Rattle.log_records.specs.declared.Record.{Record}
use Rattle.log_records.specs.Records.{numbers_of, record_by, record_at}
use Rattle.log_records.specs.Walks.{first_of, newest_of, passing, Walks, LastAt, NewestAt}
use Rattle.log_records.proofs.Records.{whole_by, size_is, texts-size-is, kind_at, stands, read_as}

-- ---- what a walk keeps of the changes us
-- their number, and the size of their texts
abbrev pub CountOf : ℕ → ℕ → List Change → Type 0
CountOf n t us = (n ≡ length us) × (t ≡ length (encode_texts us))

module _ (F : Format) where
  -- where the last of them begins
  abbrev pub LastOf : ℕ → List Change → Type 0
  LastOf r us = r ≡ length (undo_records F (drop 1 (reverse us)))

  -- what stands at their end
  abbrev pub NewestOf : Newest → List Change → Type 0
  NewestOf r us = r ≡ newest_of F (reverse us)

-- ---- no change
abbrev pub newest : ℕ → ℕ → ℕ → ℕ → ℕ → Newest
newest c l b o s = record { count = c; last = l; begins = b; begun = o; inside = s }

pub newest-same : (c l b o s c' l' b' o' s' : ℕ) → c ≡ c' → l ≡ l' → b ≡ b' → o ≡ o' → s ≡ s' → newest c l b o s ≡ newest c' l' b' o' s'
newest-same c l b o s c' l' b' o' s' e f g h i = rw (e, f, g, h, i)

newest_nil : (F : Format) → newest 0 0 0 0 0 ≡ newest_of F []
newest_nil F = sym (rw (passed_nil is_begin, passed_nil is_end, undo_nil F))

module _ (R : Repertoire) (F : Format) (rs : List ℕ) where
  pub counts_none : Come R F rs 0 (CountOf 0 0)
  counts_none = come_start R F rs (CountOf 0 0) (refl, refl)

  pub last_none : Come R F rs 0 (LastOf F 0)
  last_none = come_start R F rs (LastOf F 0) (sym (ap length (undo_nil F)))

  pub newest_none : Come R F rs 0 (NewestOf F (newest 0 0 0 0 0))
  newest_none = come_start R F rs (NewestOf F (newest 0 0 0 0 0)) (newest_nil F)

  -- where the newest begins, by what stands at the end
  pub newest_last : (n : Newest) → NewestAt R F rs n → LastAt R F rs n.last
  newest_last n h ts us l = ap (λ (x : Newest). x.last) (h ts us l)

-- ---- a record more: no more Begins than records
pub pass_count : (k : Kind) (at next : ℕ) (n : Newest) → n.begins ≤ n.count
    → ((passing k at next n).count ≡ n.count + 1) × ((passing k at next n).begins ≤ n.count + 1)
pass_count Begin at next n h = (refl, omega arith)
pass_count End at next n h = (refl, omega arith)
pass_count (Edit k) at next n h = (refl, omega arith)

-- ---- what stands at the end, with one change more
module _ (F : Format) (u : List Change) (at next : ℕ) (p : at ≡ length (undo_records F u)) where
  -- where the records of a list end, and where its newest begins
  abbrev end_of : List Change → ℕ
  end_of v = length (undo_records F v)

  abbrev last_of : List Change → ℕ
  last_of v = length (undo_records F (drop 1 v))

  -- no Begin, no End
  plain : (c : Change) → is_begin c ≡ false → is_end c ≡ false → next ≡ end_of (c ∷ u) → newest (length u + 1) at 0 next at ≡ newest_of F (c ∷ u)
  plain c x y q =
      let a = passed_up_to is_begin c u x in
      let b = passed_up_to is_end c u y in
      newest-same _ _ _ _ _ _ _ _ _ _ (omega arith) p (omega (arith, ap length a)) (q ∙ sym (ap end_of a)) (p ∙ sym (ap last_of b))

  newest_more : (c : Change) → next ≡ end_of (c ∷ u) → passing (numbers_of F c).kind at next (newest_of F u) ≡ newest_of F (c ∷ u)
  newest_more begin q =
      let a = passed_over is_begin begin u refl in
      let b = passed_up_to is_end begin u refl in
      newest-same _ _ _ _ _ _ _ _ _ _ (omega arith) p (omega (arith, ap length a, passed_short is_begin u)) (sym (ap end_of a)) (p ∙ sym (ap last_of b))
  newest_more end q =
      let a = passed_up_to is_begin end u refl in
      let b = passed_over is_end end u refl in
      newest-same _ _ _ _ _ _ _ _ _ _ (omega arith) p (omega (arith, ap length a)) (q ∙ sym (ap end_of a)) (sym (ap last_of b))
  newest_more (edit (insert i s)) q = plain (edit (insert i s)) refl refl q
  newest_more (edit (delete i s)) q = plain (edit (delete i s)) refl refl q
  newest_more (edit (replace i o s)) q = plain (edit (replace i o s)) refl refl q

-- ---- one change more
module _ (F : Format) (rs : List ℕ) (at : ℕ) (us : List Change) (c : Change) (x : Next F rs at us c) where
  count_more : (n t m : ℕ) → m ≡ texts_at F rs at (get_or rs at 0) → CountOf n t us → CountOf (n + 1) (t + m) (us ++ (c ∷ []))
  count_more n t m e h = (
    simp length-append (omega arith),
    omega (arith, e, x.texts, h.1, ap length (texts_snoc us c), length-append (encode_texts us) (texts_of c)),
  )

  last_more : LastOf F at (us ++ (c ∷ []))
  last_more = x.place ∙ sym (rw (reverse_snoc us c, undo-reverse F us))

  newest-next : (next : ℕ) (n m : Newest) (k : Kind) → next ≡ at + size_of F (get_or rs at 0) → k ≡ (numbers_of F c).kind → m ≡ passing k at next n
      → NewestOf F n us → NewestOf F m (us ++ (c ∷ []))
  newest-next next n m k e f g h =
      let p : at ≡ length (undo_records F (reverse us)) = x.place ∙ sym (ap length (undo-reverse F us)) in
      let q : next ≡ length (undo_records F (c ∷ reverse us)) = e ∙ x.behind ∙ sym (ap length (undo-reverse F (us ++ (c ∷ []))))
      ∙ ap (λ (v : List Change). length (undo_records F v)) (reverse_snoc us c) in
      g ∙ ap₂ (λ (i : Kind) (v : Newest). passing i at next v) f h ∙ newest_more F (reverse us) at next p c q ∙ sym (ap (newest_of F) (reverse_snoc us c))

-- ---- the record r is passed
module _ (R : Repertoire) (F : Format) (rs : List ℕ) (at : ℕ) (r : Record) (e : Some r ≡ record_at F rs at) where
  -- a whole record stands there
  pub passes : (at < length rs) × (0 < r.size) × (at + r.size ≤ length rs)
  passes =
      let q = whole_by F rs at r e in
      let z = size_is F rs at r e in
      (omega (arith, q.0, q.1), omega (arith, z, q.0), omega (arith, z, q.1))

  pub counts_on : (i t : ℕ) → Come R F rs at (CountOf i t) → Come R F rs (at + r.size) (CountOf (i + 1) (t + (r.old + r.new)))
  counts_on i t =
      come_next R F rs at r.size (CountOf i t) (CountOf (i + 1) (t + (r.old + r.new))) passes.0 (size_is F rs at r e)
      (λ us c x. count_more F rs at us c x i t (r.old + r.new) (texts-size-is F rs at r e))

  pub last_on : (last : ℕ) → Come R F rs at (LastOf F last) → Come R F rs (at + r.size) (LastOf F at)
  last_on last = come_next R F rs at r.size (LastOf F last) (LastOf F at) passes.0 (size_is F rs at r e) (λ us c x y. last_more F rs at us c x)

  pub newest_on : (n m : Newest) → m ≡ passing r.kind at (at + r.size) n → Come R F rs at (NewestOf F n) → Come R F rs (at + r.size) (NewestOf F m)
  newest_on n m g =
      come_next R F rs at r.size (NewestOf F n) (NewestOf F m) passes.0 (size_is F rs at r e)
      (λ us c x. newest-next F rs at us c x (at + r.size) n m r.kind (ap (λ (i : ℕ). at + i) (size_is F rs at r e)) (kind_at F rs at r e c x.kind) g)

-- a walk over a list ends where no whole record stands
pub past_all : (R : Repertoire) (F : Format) (rs : List ℕ) (at : ℕ) (P : List Change → Type 0) → Listed R F rs → Come R F rs at P → None ≡ record_at F rs at
    → length rs ≤ at
past_all R F rs at P l w e =
    by_less (length rs ≤ at) at (length rs)
    (λ h. let q = stands F rs at (come_whole R F rs at P l h w) in absurd (none-some (record_by F rs at q.0) (e ∙ read_as F rs at q.0 q.1)))
    (λ h. h)

-- ---- the first n changes
module _ (R : Repertoire) (F : Format) (rs : List ℕ) (n i at t : ℕ) where
  abbrev reached : Span
  reached = record { count = i; records = at; texts = t }

  is-first : (cs : List Change) (u : Upto F cs at (CountOf i t)) → take n cs ≡ take u.count cs → reached ≡ first_of F n cs
  is-first cs u e =
      let a = u.holds.0 in
      let b = u.place.records in
      let d = u.holds.1 in
      rw e (cc)

  -- they are passed
  pub stops : at < length rs → i ≡ n → Come R F rs at (CountOf i t) → Walks R F rs n reached
  stops h e w ts cs l =
      let u = w ts cs l in
      let x = before-end R F rs ts cs u.count at u.size l u.place h in
      let y : n ≡ u.count = omega (arith, u.holds.0, length-take-le u.count cs (omega arith)) in
      is-first cs u (rw y)

  -- there are no more
  pub ends : length rs ≤ at → i ≤ n → Come R F rs at (CountOf i t) → Walks R F rs n reached
  ends h e w ts cs l =
      let u = w ts cs l in
      let x = take_all u.count cs (past R F rs ts cs u.count at u.size l u.place h) in
      is-first cs u (take_all n cs (omega (arith, u.holds.0, ap length x)) ∙ sym x)
