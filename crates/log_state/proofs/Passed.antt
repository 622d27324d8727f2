-- What holds of a lent log that checks 2 and 8 pass. Assumes nothing.
use Prim.Native.Nat.{ℕ, zero, suc, ◌+◌, ◌≤◌, ◌<◌}
use native.Mathlib.Omega.{arith}
use mathlib.Core.Path.{◌≡◌, refl}
use mathlib.Core.Bool.{Bool, true, false, not, ◌||◌}
use mathlib.Core.List.{List, [], ◌∷◌}
use mathlib.Core.Option.{Option, some, none}
use lib.Dec.{ltb}
use lib.ListN.{length, take, drop}
use lib.Seq.{get_or-drop}
use borrow.Author.Tests.{ltb-false, lt-ltb, le-ltb}
use Rattle.lists.proofs.Bools.{never, or_none}
use Rattle.repertoire.specs.Repertoire.{catalogue}
use Rattle.log_model.specs.Change.{Change}
use Rattle.formats.specs.Formats.{Fit}
use Rattle.formats.specs.declared.Format.{Format}
use Rattle.log_model.specs.Layout.{decode, is_some}
use Rattle.numbers.proofs.Numbers.{Bytes}
use Rattle.log_model.proofs.Sound.{decode_sound}
use Rattle.log_model.proofs.Holds.{holds}
use Rattle.checks.specs.Checks.{both, refusal, own_tests}
use Rattle.checks.proofs.Fit.{refusal-passed}
use Rattle.log_state.specs.Logs.{over_sizes, broken, damaged, log_tests}
use Rattle.log_state.specs.Calls.{Lent, or_nil, undos, redos, checked, Ready}

-- ---- parts of bytes are bytes
pub bytes_take : (n : ℕ) (l : List ℕ) → Bytes l → Bytes (take n l)
bytes_take zero l b i = omega arith
bytes_take (suc n) [] b i = b i
bytes_take (suc n) (x ∷ l) b zero = b zero
bytes_take (suc n) (x ∷ l) b (suc i) = bytes_take n l (λ j. b (suc j)) i

pub bytes_drop : (n : ℕ) (l : List ℕ) → Bytes l → Bytes (drop n l)
bytes_drop n l b i = rw (get_or-drop n l i 0) (b (n + i))

some_is : (o : Option (List Change)) → not (is_some o) ≡ false → o ≡ some (or_nil o)
some_is none e = never _ true refl e
some_is (some cs) e = refl

-- check 2 in its parts
pub record Sized (F : Format) (l : Lent) : Type 0 where
  pub records : length l.records ≤ F.records
  pub texts : length l.texts ≤ F.texts
  pub room : l.log.undo.records + l.log.redo.records ≤ length l.records
  pub space : l.log.undo.texts + l.log.redo.texts ≤ length l.texts

pub sized : (F : Format) (l : Lent) → over_sizes F l.log l.records l.texts ≡ false → Sized F l
unfolding over_sizes
sized F l e =
    let a = or_none (ltb F.records (length l.records)) _ e in
    let b = or_none (ltb F.texts (length l.texts)) _ a.1 in
    let c = or_none (ltb (length l.records) (l.log.undo.records + l.log.redo.records)) _ b.1 in
    record { records = ltb-false _ _ a.0; texts = ltb-false _ _ b.0; room = ltb-false _ _ c.0; space = ltb-false _ _ c.1 }

pub ready : (F : Format) (l : Lent) → Bytes l.records → Fit F → over_sizes F l.log l.records l.texts ≡ false
    → damaged catalogue F l.log l.records l.texts ≡ false → Ready F l
unfolding damaged undos redos
ready F l b w e d =
    let s = sized F l e in
    let u = l.log.undo in
    let r = l.log.redo in
    let r1 = take u.records l.records in
    let t1 = take u.texts l.texts in
    let r2 = take r.records (drop u.records l.records) in
    let t2 = take r.texts (drop u.texts l.texts) in
    let x = or_none (ltb 255 l.log.level) _ d in
    let y = or_none (broken catalogue F r1 t1) (broken catalogue F r2 t2) x.1 in
    record {
      fit = w;
      records = s.records;
      texts = s.texts;
      level = ltb-false _ _ x.0;
      hold =
          holds catalogue F l.records l.texts u.records u.texts r.records r.texts (or_nil (decode catalogue F r1 t1))
          (or_nil (decode catalogue F r2 t2)) s.room s.space
          (decode_sound catalogue F r1 t1 (or_nil (decode catalogue F r1 t1)) (bytes_take u.records l.records b) (some_is (decode catalogue F r1 t1) y.0))
          (decode_sound catalogue F r2 t2 (or_nil (decode catalogue F r2 t2))
          (bytes_take r.records (drop u.records l.records) (bytes_drop u.records l.records b)) (some_is (decode catalogue F r2 t2) y.1));
    }

-- check 4 of a call's own arguments
pub own-passed : (F : Format) (l : Lent) (own : Bool) → checked catalogue F l own ≡ 0 → own ≡ false
own-passed F l own e = (refusal-passed (both (log_tests catalogue F l.log l.records l.texts) (own_tests false own false)) e).foreign

-- ---- the checks of a log by their tests
module _ (F : Format) (l : Lent) (foreign : Bool) where
  abbrev number : ℕ
  number = refusal (both (log_tests catalogue F l.log l.records l.texts) (own_tests false foreign false))

  pub says-sizes : over_sizes F l.log l.records l.texts ≡ true → 2 ≡ number
  unfolding refusal
  says-sizes e = rw e

  module _ (fine : over_sizes F l.log l.records l.texts ≡ false) where
    pub says-foreign : foreign ≡ true → 4 ≡ number
    unfolding refusal
    says-foreign e = rw (fine, e)

    pub says-damaged : foreign ≡ false → damaged catalogue F l.log l.records l.texts ≡ true → 8 ≡ number
    unfolding refusal
    says-damaged e f = rw (fine, e, f)

    pub says-passed : foreign ≡ false → damaged catalogue F l.log l.records l.texts ≡ false → 0 ≡ number
    unfolding refusal
    says-passed e f = rw (fine, e, f)

-- ---- check 8 by its tests: the level v, and whether each of the two lists is one
pub high_level : (v : ℕ) (x y : Bool) → 255 < v → false ≡ not (ltb 255 v || (not x || not y))
high_level v x y h = rw (lt-ltb 255 v h)

module _ (v : ℕ) (h : v ≤ 255) where
  pub sound_is : (x y : Bool) → true ≡ x → true ≡ y → true ≡ not (ltb 255 v || (not x || not y))
  sound_is x y e f = rw (le-ltb 255 v h, ← e, ← f)

  pub undo_bad : (x y : Bool) → false ≡ x → false ≡ not (ltb 255 v || (not x || not y))
  undo_bad x y e = rw (le-ltb 255 v h, ← e)

  pub redo_bad : (x y : Bool) → true ≡ x → false ≡ y → false ≡ not (ltb 255 v || (not x || not y))
  redo_bad x y e f = rw (le-ltb 255 v h, ← e, ← f)
