-- Copies put in where they stand, and recorded from there. Assumes nothing.
use Prim.Native.Nat.{ℕ, ◌+◌, ◌-◌, ◌*◌, ◌≤◌}
use native.Mathlib.Omega.{arith}
use mathlib.Core.Path.{◌≡◌, sym, ap, ap₂, subst, ◌∙◌}
use mathlib.Core.Bool.{true, false}
use mathlib.Core.List.{List, [], ◌∷◌, ◌++◌}
use lib.Dec.{eqb}
use lib.ListN.{length, take, drop, take-append-drop}
use lib.Seq.{length-take-le, take_at, drop_at}
use borrow.Author.Tests.{le-ltb, eqb-true, eqb-false}
use Rattle.std.specs.Prelude.{Result, Ok, is_ok, IfOk}
use Rattle.lists.proofs.Bools.{by_test, never}
use Rattle.numbers.proofs.Read.{top_max}
use Rattle.utf8.specs.Chars.{In}
use Rattle.repertoire.specs.Repertoire.{catalogue}
use Rattle.repertoire.specs.Text.{is_text}
use Rattle.buffer.specs.Edit.{inserted, cut, copies}
use Rattle.buffer.proofs.Copies.{copies_length}
use Rattle.formats.specs.declared.Format.{Format}
use Rattle.log_model.specs.Change.{Change, insert}
use Rattle.log_model.specs.Recording.{note}
use Rattle.log_model.specs.UndoBytes.{fits}
use Rattle.log_records.specs.declared.EditKind.TheVariants.{Insert}
use Rattle.log_recording.specs.Tails.{tail_of, InRange}
use Rattle.log_recording.specs.declared.Tail.{Tail}
use Rattle.log_state.specs.Calls as log
use Rattle.log_state.specs.Outcomes.{record_out}
use Rattle.log_state.specs.declared.LogAnswer.{LogAnswer}
use Rattle.edit.specs.declared.EditAnswer.{EditAnswer}
use Rattle.edit.specs.Plan.{pasted, made, recorded, once, list_after, too_long, blank, change_out}
use Rattle.edit.specs.Calls.{Lent, log_lent, text_of, sizes_of, state_of, says, Edited, Ready}
use Rattle.edit.specs.Room.{room_put}
use Rattle.edit.proofs.Answers.{cursor_in, length-kept, ten}
use Rattle.edit.proofs.Parts.{an_insert, raw_part}
use Rattle.edit.proofs.Made as made-laws
use Rattle.edit.proofs.Once.{once-paste, noted-insert}
use Rattle.edit.proofs.PlannedChanges.{blank-insert}
use Rattle.edit.proofs.Rooms.{Roomy, dry_now, dry_in_range, dry_put}
use Rattle.edit.proofs.Splice.{splice-length}
use Rattle.edit_insert.proofs.Copied.{copies-text}
use Rattle.edit_insert.proofs.Puts.{carried}

module _ (F : Format) (l : Lent) (h : Ready F l) (s : List ℕ) (is : is_text catalogue s ≡ true) (n : ℕ) (room : length s * n ≤ length l.text - l.line.len) where
  abbrev pos : ℕ
  pos = l.line.cursor

  abbrev t : List ℕ
  t = text_of l

  abbrev x : List ℕ
  x = copies n s

  abbrev u : List Change
  u = (state_of catalogue F l).log.undo

  size : length x ≡ length s * n
  size = copies_length n s

  text_x : is_text catalogue x ≡ true
  text_x = copies-text catalogue n s is

  i : In t pos pos
  i = cursor_in F l h

  short : too_long (length l.text) (pasted pos x ∷ []) t ≡ false
  unfolding too_long
  short = rw (le-ltb (length l.text) (length (made (pasted pos x) t)) (omega (arith, splice-length t pos pos x i.0 i.1, length-kept F l h, h.used, size)))

  -- ---- 10 by the dry run
  module _ (r₀ : Result Tail Tail) (e₀ : r₀ ≡ Ok (tail_of F u)) where
    now_roomy : Roomy catalogue F (sizes_of l) u r₀
    now_roomy = subst (Roomy catalogue F (sizes_of l) u) (sym e₀) (dry_now F l h)

    pub copies_in_range : IfOk r₀ (λ x. InRange x 0 (length s * n))
    copies_in_range = dry_in_range F l h u r₀ now_roomy 0 (length s * n) (top_max F.width h.log.fit.width.most) (omega arith)
        (omega (arith, h.limit, h.log.fit.text, h.used))

    module _ (r₁ : Result Tail Tail) (e₁ : r₁ ≡ room_put F (sizes_of l) pos (length s * n) r₀) where
      room-is : is_ok r₁ ≡ fits F (sizes_of l) (recorded catalogue (pasted pos x) t u)
      room-is =
          subst (λ (r : Result Tail Tail). is_ok r ≡ fits F (sizes_of l) (recorded catalogue (pasted pos x) t u)) (ap (λ (m : ℕ). room_put F (sizes_of l) pos m r₀) size ∙ sym e₁)
          (dry_put F l h u r₀ now_roomy t h.text (omega (arith, length-kept F l h, h.used)) pos x (i, text_x)).fit

      pub copies_full : is_ok r₁ ≡ false → (r : EditAnswer) → r ≡ says 10 l.line l.log
          → Edited F l (carried F l (once (pasted pos x) (pos + length x))) r l.text l.records l.texts
      unfolding list_after
      copies_full e r q = ten F l (once (pasted pos x) (pos + length x)) r short (sym room-is ∙ e) q

      -- ---- the copies in the text, and recorded from there
      module _ (fit : is_ok r₁ ≡ true) (some : length s * n ≡ 0 → ⊥) (t' : List ℕ) (et : take (l.line.len + length s * n) t' ≡ inserted t pos x) where
        there : blank (insert pos x) ≡ false
        there = blank-insert pos x (omega (arith, size, some))

        as_noted : recorded catalogue (pasted pos x) t u ≡ note false (insert pos x) u
        as_noted = noted-insert pos x u ∙ rw there

        -- what is recorded is what stands there
        pub new_is : take (pos + length s * n - pos) (drop pos t') ≡ x
        unfolding inserted
        new_is =
            let k : length (take pos t) ≡ pos = length-take-le pos t i.1 in
            let e : length x ≡ pos + length s * n - pos = omega (arith, size) in
            sym (raw_part t' (l.line.len + length s * n) pos (pos + length s * n) (omega (arith, h.within)))
            ∙ ap (λ (y : List ℕ). take (pos + length s * n - pos) (drop pos y)) et
            ∙ ap (take (pos + length s * n - pos)) (drop_at (take pos t) (x ++ drop pos t) pos k)
            ∙ take_at x (drop pos t) (pos + length s * n - pos) e

        pub new-text : is_text catalogue (take (pos + length s * n - pos) (drop pos t')) ≡ true
        new-text = ap (is_text catalogue) new_is ∙ text_x

        module _ (a : LogAnswer) (rb tb : List ℕ) (q₀ : log.Logged F (log_lent l)
            (record_out F (sizes_of l) (note false (insert pos (take (pos + length s * n - pos) (drop pos t'))) u) (log.value_of catalogue F (log_lent l))) a rb tb) where
          q : log.Logged F (log_lent l) (record_out F (sizes_of l) (note false (insert pos x) u) (log.value_of catalogue F (log_lent l))) a rb tb
          q = subst (λ (y : List ℕ). log.Logged F (log_lent l) (record_out F (sizes_of l) (note false (insert pos y) u) (log.value_of catalogue F (log_lent l))) a rb tb) new_is q₀

          taken : a.number ≡ 0
          taken =
              by_test (a.number ≡ 0) (eqb a.number 0) (λ e. eqb-true a.number 0 e)
              (λ e. never (a.number ≡ 0) (is_ok r₁) fit
              (room-is ∙ ap (fits F (sizes_of l)) as_noted
              ∙ (made-laws.was_refused F (log_lent l) (note false (insert pos x) u) (log.value_of catalogue F (log_lent l)) a rb tb q (eqb-false a.number 0 e)).full))

          pub copies-made : (r : EditAnswer) → r ≡ says 0 (record { len = l.line.len + length s * n; cursor = pos + length s * n }) a.log
              → Edited F l (carried F l (once (pasted pos x) (pos + length x))) r t' rb tb
          unfolding cut
          copies-made r e =
              let z : l.line.len - (pos - pos) ≡ l.line.len = omega arith in
              let w : l.line.len - (pos - pos) + length x ≡ l.line.len + length s * n = omega (arith, size) in
              let p = pos + length x in
              let m =
              made-laws.made F l h false (insert pos x) Insert pos pos x p (an_insert t pos x) (omega arith) h.within (omega (arith, size)) there a rb tb q taken l.text t'
              (ap (λ (k : ℕ). take k l.text) z ∙ sym (take-append-drop pos t))
              (ap (λ (k : ℕ). take k t') w ∙ et ∙ ap (λ (k : ℕ). inserted (take k l.text) pos x) (sym z)) in
              made-laws.edited_as F l _ r _ t' rb tb (e ∙ ap₂ (λ (j k : ℕ). says 0 (record { len = j; cursor = k }) a.log) (sym w) (ap (λ (k : ℕ). pos + k) (sym size)))
              (made-laws.outcome_as F l (change_out F (sizes_of l) (length l.text) false (insert pos x) p (state_of catalogue F l)) _ _ t' rb tb
              (once-paste catalogue F (sizes_of l) (length l.text) p (state_of catalogue F l) pos x) m)
