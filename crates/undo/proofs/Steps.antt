-- One record undone or redone, by the numbers that the code computes. Assumes nothing.
use Prim.Native.Nat.{ℕ, ◌+◌, ◌-◌, ◌≤◌}
use native.Mathlib.Omega.{arith}
use mathlib.Core.Path.{◌≡◌, refl, sym, ap, subst, ◌∙◌}
use mathlib.Core.Bool.{Bool, true, false}
use mathlib.Core.List.{List, ◌∷◌}
use lib.ListN.{length, get_or, drop}
use Rattle.std.specs.Prelude.{None, Some}
use Rattle.std.proofs.lemmas.Option.{same_Some}
use Rattle.repertoire.specs.Repertoire.{catalogue}
use Rattle.log_model.specs.Change.{Change}
use Rattle.formats.specs.declared.Format.{Format}
use Rattle.log_model.specs.Layout.{record_of, texts_of}
use Rattle.log_model.specs.Groups as groups
use Rattle.log_model.specs.UndoBytes.{undo_records, undo_texts}
use Rattle.log_state.specs.declared.Log.{Log}
use Rattle.log_state.proofs.Answers.{state}
use Rattle.edit.specs.Calls.{Lent, state_of, Ready}
use Rattle.log_model.proofs.Newest.{turn-turn}
use Rattle.log_records.specs.declared.Record.{Record}
use Rattle.log_records.specs.Records.{numbers_of, record_at, Carries}
use Rattle.log_records.specs.Walks.{SizesOf}
use Rattle.log_records.proofs.Records.{carried_texts, carried_size}
use Rattle.undo_step.specs.declared.Step.{Step}
use Rattle.undo_step.specs.UndoStep.{undoing, to_undo, UndoneOrRedone}
use Rattle.undo.specs.Steps.{step_state_by, line_of, LastStart, pass_log, Leaves}
use Rattle.undo.proofs.Rows.{Stands}
use Rattle.undo.proofs.Seams.{Seam, newest-records, newest-texts, newest-size, newest-stands, newest_seam, next-stands, next_seam}
use Rattle.undo.proofs.Passes.{numbered, stop_leaves, done-leaves}

-- a record r that was read where the change c stands
module _ {F : Format} {rb tb : List ℕ} {at t : ℕ} {c : Change} (s : Stands F rb tb at t c) where
  module _ {r : Record} (e : Some r ≡ record_at F rb at) where
    pub is_carried : Carries F c r tb t
    is_carried = record { numbers = same_Some r (numbers_of F c) (e ∙ s.read); texts = s.texts }

    pub lengths : r.old + r.new ≡ length (texts_of c)
    lengths = carried_texts F c r tb t is_carried

    pub bytes : r.size ≡ length (record_of F c)
    bytes = carried_size F c r tb t is_carried

    pub space : t + (r.old + r.new) ≤ length tb
    space = omega (arith, lengths, s.space)

-- a record turned round twice
to-undo_twice : (back : Bool) (x : Change) → to_undo back (to_undo back x) ≡ x
to-undo_twice true x = refl
to-undo_twice false x = turn-turn x

-- the record x undone or redone, where it stands as it was written: s is where the walk was, q where it is
module _ (F : Format) (l : Lent) (back : Bool) (x : Change) (f : List Change) {at t : ℕ} (c : Stands F l.records l.texts at t (to_undo back x))
    {r : Record} (e : Some r ≡ record_at F l.records at) (s q : Step) (t' : List ℕ)
    (tried : (G : Format) (c : Change) → Carries G c r l.texts t → UndoneOrRedone
    (undoing (length l.text) (to_undo back c) (step_state_by (state_of catalogue F l) s.undone)) s q l.text t') where
  abbrev v : groups.Log
  v = (state_of catalogue F l).log

  is_tried : UndoneOrRedone (undoing (length l.text) x (step_state_by (state_of catalogue F l) s.undone)) s q l.text t'
  is_tried =
      subst (λ (a : Change). UndoneOrRedone (undoing (length l.text) a (step_state_by (state_of catalogue F l) s.undone)) s q l.text t') (to-undo_twice back x)
      (tried F (to_undo back x) (is_carried c e))

  is-kind : r.kind ≡ (numbers_of F (to_undo back x)).kind
  is-kind = ap (λ (a : Record). a.kind) (is_carried c e).numbers

  pub record_stops : line_of s ≡ l.line → (q.stop ≡ None → ⊥) → (r.kind ≡ (numbers_of F (to_undo back x)).kind)
      × Leaves F l (undoing (length l.text) x (step_state_by (state_of catalogue F l) s.undone)) (pass_log back x f v) q l.log t'
  record_stops i z = (is-kind, stop_leaves F l (pass_log back x f v) (undoing (length l.text) x (step_state_by (state_of catalogue F l) s.undone)) s q t' i is_tried z)

  pub record_passes : {i j : ℕ} {g : Log} → Seam F l (pass_log back x f v) i j → q.stop ≡ None
      → g ≡ state i j (l.log.undo.records + l.log.redo.records - i) (l.log.undo.texts + l.log.redo.texts - j) l.log.level
      → (r.kind ≡ (numbers_of F (to_undo back x)).kind) × Leaves F l (undoing (length l.text) x (step_state_by (state_of catalogue F l) s.undone)) (pass_log back x f v) q g t'
  record_passes {g = g} m z k = (
    is-kind,
    done-leaves F l (pass_log back x f v) (undoing (length l.text) x (step_state_by (state_of catalogue F l) s.undone)) s q g t'
        (numbered (length l.text) x (step_state_by (state_of catalogue F l) s.undone)) is_tried z (k ∙ m.state) m.bytes,
  )

-- ---- the newest record, by the size n that is written
module _ {F : Format} {l : Lent} (h : Ready F l) (sizes : List ℕ) (z : SizesOf F sizes (state_of catalogue F l).log.undo) {x : Change}
    {u : List Change} (e : (state_of catalogue F l).log.undo ≡ x ∷ u) where
  abbrev ur : ℕ
  ur = l.log.undo.records

  abbrev n : ℕ
  n = get_or sizes (ur - 1) 0

  pub size-within : n ≤ ur
  size-within = omega (arith, newest-size h e sizes z, newest-records h e)

  pub starts_by_size : LastStart F l (ur - n)
  starts_by_size =
      let i : ur - n ≡ length (undo_records F u) = omega (arith, newest-size h e sizes z, newest-records h e) in
      i ∙ sym (ap (λ (v : List Change). length (undo_records F (drop 1 v))) e)

-- ---- the newest record, by where it begins
module _ {F : Format} {l : Lent} (h : Ready F l) {start : ℕ} (b : LastStart F l start) {x : Change} {u : List Change}
    (e : (state_of catalogue F l).log.undo ≡ x ∷ u) where
  start_is : start ≡ length (undo_records F u)
  start_is = b ∙ ap (λ (v : List Change). length (undo_records F (drop 1 v))) e

  -- it stands there
  pub at-start : Stands F l.records l.texts start (length (undo_texts u)) x
  at-start = newest-stands h e start_is refl

  module _ {r : Record} (i : Some r ≡ record_at F l.records start) where
    long : r.old + r.new ≡ length (texts_of x)
    long = lengths at-start i

    pub texts-within : r.old + r.new ≤ l.log.undo.texts
    texts-within = omega (arith, long, newest-texts h e)

    first-is : l.log.undo.texts - (r.old + r.new) ≡ length (undo_texts u)
    first-is = omega (arith, long, newest-texts h e)

    pub stands_there : Stands F l.records l.texts start (l.log.undo.texts - (r.old + r.new)) x
    stands_there = newest-stands h e start_is first-is

    pub seam_there : Seam F l (pass_log true x u (state_of catalogue F l).log) start (l.log.undo.texts - (r.old + r.new))
    seam_there = newest_seam h e start_is first-is

-- ---- the next record, which stands at the seam
module _ {F : Format} {l : Lent} (h : Ready F l) {x : Change} {d : List Change} (e : (state_of catalogue F l).log.redo ≡ x ∷ d) where
  module _ {r : Record} (i : Some r ≡ record_at F l.records l.log.undo.records) where
    pub next-space : l.log.undo.texts + (r.old + r.new) ≤ length l.texts
    next-space = space (next-stands h e) i

    pub next_seam_there : Seam F l (pass_log false x d (state_of catalogue F l).log) (l.log.undo.records + r.size) (l.log.undo.texts + (r.old + r.new))
    next_seam_there =
        next_seam h e
        (ap (λ (a : ℕ). l.log.undo.records + a) (bytes (next-stands h e) i))
        (ap (λ (a : ℕ). l.log.undo.texts + a) (lengths (next-stands h e) i))
