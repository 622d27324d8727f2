-- The size of each record written at the record's last byte, while a walk passes the records. Assumes nothing.
use Prim.Native.Nat.{ℕ, ◌+◌, ◌-◌, ◌≤◌, ◌<◌}
use native.Mathlib.Omega.{arith}
use mathlib.Core.Path.{◌≡◌, refl, sym, ap, subst, ◌∙◌}
use mathlib.Core.List.{List, [], ◌∷◌, ◌++◌, reverse}
use lib.ListN.{length, get_or, set, length-append}
use lib.Seq.{get_or-set_same, get_or-set_other}
use Rattle.repertoire.specs.Repertoire.{Repertoire}
use Rattle.log_model.specs.Change.{Change}
use Rattle.formats.specs.declared.Format.{Format}
use Rattle.log_model.specs.Layout.{record_of, encode_records, size_of}
use Rattle.log_model.specs.UndoBytes.{undo_records}
use Rattle.log_model.proofs.Decode.{record_pos}
use Rattle.log_model.proofs.Holds.{records_snoc}
use Rattle.log_model.proofs.Newest.{reverse_snoc, undo-reverse}
use Rattle.log_model.proofs.UndoBytes.{records-size}
use Rattle.log_model.proofs.Walk.{Next, Come, come_start, come_next}
use Rattle.log_records.specs.Walks.{SizesOf}

-- what is kept of the changes us: their number, and their records' sizes
abbrev pub WrittenOf : Format → ℕ → List ℕ → List Change → Type 0
WrittenOf F i sizes us = (i ≡ length us) × SizesOf F sizes (reverse us)

-- a byte stored behind the records of u
pub sizes-kept : (F : Format) (sizes : List ℕ) (p v : ℕ) (u : List Change) → length (undo_records F u) ≤ p → SizesOf F sizes u → SizesOf F (set sizes p v) u
sizes-kept F sizes p v [] h s = tt
sizes-kept F sizes p v (c ∷ u) h s =
    let e = records-size F c u in
    let k = record_pos F c in
    (get_or-set_other sizes p (length (undo_records F (c ∷ u)) - 1) v 0 (λ x. omega arith) ∙ s.0, sizes-kept F sizes p v u (omega arith) s.1)

module _ (F : Format) (rs sizes : List ℕ) (at n : ℕ) (us : List Change) (c : Change) (x : Next F rs at us c) (e : n ≡ size_of F (get_or rs at 0)) (r : at + n ≤ length sizes) where
  -- its size is that of its bytes
  bytes_are : n ≡ length (record_of F c)
  bytes_are = omega (arith, x.place, x.behind, ap length (records_snoc F us c), length-append (encode_records F us) (record_of F c))

  -- with it the list ends at at + n
  newest : length (undo_records F (c ∷ reverse us)) ≡ at + n
  newest = omega (arith, records-size F c (reverse us), ap length (undo-reverse F us), x.place, bytes_are)

  -- the record's size is stored at its last byte
  written_more : (i : ℕ) → WrittenOf F i sizes us → WrittenOf F (i + 1) (set sizes (at + n - 1) n) (us ++ (c ∷ []))
  written_more i h =
      let k = record_pos F c in
      let z = bytes_are in (
        simp length-append (omega (arith, h.0)),
        subst (SizesOf F (set sizes (at + n - 1) n)) (sym (reverse_snoc us c)) (
          ap (λ (j : ℕ). get_or (set sizes (at + n - 1) n) (j - 1) 0) newest ∙ get_or-set_same sizes (at + n - 1) n 0 (omega arith) ∙ z,
          sizes-kept F sizes (at + n - 1) n (reverse us) (omega (arith, ap length (undo-reverse F us), x.place)) h.1,
        ),
      )

module _ (R : Repertoire) (F : Format) (rs : List ℕ) where
  pub written_none : (sizes : List ℕ) → Come R F rs 0 (WrittenOf F 0 sizes)
  written_none sizes = come_start R F rs (WrittenOf F 0 sizes) (refl, tt)

  -- a record of n bytes is passed
  pub written_on : (at i n : ℕ) (sizes : List ℕ) → at < length rs → n ≡ size_of F (get_or rs at 0) → at + n ≤ length sizes → Come R F rs at (WrittenOf F i sizes)
      → Come R F rs (at + n) (WrittenOf F (i + 1) (set sizes (at + n - 1) n))
  written_on at i n sizes h e l =
      come_next R F rs at n (WrittenOf F i sizes) (WrittenOf F (i + 1) (set sizes (at + n - 1) n)) h e (λ us c x. written_more F rs sizes at n us c x e l i)
