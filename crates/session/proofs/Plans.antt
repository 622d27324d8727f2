-- Every edit is a plan that suits the text, where the checks pass, and leaves the cursor between characters. Assumes nothing.
use Rattle.std.proofs.Common.{Option, Some, None}
use Prim.Native.Nat.{ℕ, ◌+◌, ◌-◌}
use mathlib.Core.Path.{◌≡◌, refl}
use mathlib.Core.Bool.{Bool, true, false, cond, not}
use mathlib.Core.List.{List}
use lib.Dec.{ltb}
use lib.ListN.{length}
use borrow.Author.Tests.{ltb-false, not-false}
use Rattle.lists.proofs.Bools.{never}
use Rattle.utf8.specs.Chars.{boundary, In}
use Rattle.repertoire.specs.Repertoire.{Repertoire, Lawful}
use Rattle.repertoire.specs.Text.{is_text, is_char}
use Rattle.keymap.specs.Codes.{codes, movement_of}
use Rattle.keymap.specs.declared.Movement.{Movement}
use Rattle.keymap.specs.declared.Movement.TheVariants as m
use Rattle.checks.specs.Checks.{Tests, own_tests}
use Rattle.checks.specs.Outcome.{Outcome}
use Rattle.checks.proofs.Fit.{Passed}
use Rattle.motion_ranges.specs.Ranges.{is_foreign}
use Rattle.formats.specs.declared.Format.{Format}
use Rattle.edit.specs.Plan.{State, Plan, once, nothing, cutting, swapping}
use Rattle.edit.specs.Calls.{Lent, text_of, checked, edit_call}
use Rattle.edit.proofs.Tests.{own-passed}
use Rattle.edit.proofs.Suits.{PlanSuits, nothing_plan, cutting_suits, cutting-cursor, swapping_suits, swapping-cursor}
use Rattle.edit_kill.specs.Kills.{kill_range, cut_plan, kill_of, kill_by, places_plan}
use Rattle.edit_kill.proofs.Suits.{kill_suits, kill-cursor, delete_suits, delete-cursor}
use Rattle.edit_range.specs.Ranges.{range_tests, replace_tests}
use Rattle.edit_range.proofs.Tests.{range_in}
use Rattle.edit_insert.specs.Inserts.{text_tests, insert_plan, yank_plan, yank_pop_plan, update_plan}
use Rattle.edit_insert.proofs.Suits.{insert_suits, insert-cursor, yank_suits, yank-cursor, yank_pop_suits, yank_pop_cursor, update_suits}
use Rattle.edit_insert.proofs.Suits.{update-cursor}
use Rattle.edit_transpose.specs.TransposeChars.{transpose_chars_plan}
use Rattle.edit_case.specs.EditWord.{edit_word_plan, action_of, edit_word_by}
use Rattle.edit_case.specs.declared.WordAction.{WordAction}
use Rattle.edit_transpose.proofs.CharPlans.{transpose_chars_suits}
use Rattle.edit_case.proofs.Plans.{edit-word_suits}
use Rattle.edit_transpose.specs.TransposeWords.{transpose_words_plan}
use Rattle.edit_transpose.proofs.WordPlans.{transpose_words_suits}
use Rattle.edit_indent_plans.specs.Touched.{touched, splits}
use Rattle.edit_indent_plans.specs.IndentPlans.{indent_plan, lines_in}
use Rattle.edit_indent.specs.Indents.{indent_tests, indent_of, indent_by}
use Rattle.edit_indent_plans.proofs.Suits.{indent_suits}
use Rattle.edit_indent_plans.proofs.Cursors.{plan_cursor}
use Rattle.calls.specs.Calls.{EditCall, edit_outcome}
use Rattle.calls.specs.Calls as asked

-- an outcome is that of a plan, tried by the call's own tests too; where all pass, the plan suits the text and its cursor stands between characters
pub record Planned (R : Repertoire) (F : Format) (l : Lent) (o : Outcome State) : Type 0 where
  pub own : Tests
  pub plan : Plan
  pub is : o ≡ edit_call R F l own plan
  pub suits : checked R F l own ≡ 0 → PlanSuits R (text_of l) plan

module _ (R : Repertoire) (law : Lawful R) (F : Format) (l : Lent) (v : is_text R (text_of l) ≡ true)
    (i : In (text_of l) l.line.cursor l.line.cursor) (len : l.line.len ≡ length (text_of l)) where
  abbrev t : List ℕ
  t = text_of l

  abbrev pos : ℕ
  pos = l.line.cursor

  -- a call by its tests and its plan
  by_plan : (own : Tests) (p : Plan) → (Passed own → PlanSuits R t p) → Planned R F l (edit_call R F l own p)
  by_plan own p f = record { own = own; plan = p; is = refl; suits = λ e. f (own-passed R F l own e) }

  -- a code that names nothing
  unnamed : Planned R F l (edit_call R F l (own_tests true false false) (nothing pos))
  unnamed = by_plan (own_tests true false false) (nothing pos) (λ q. nothing_plan R t pos i)

  -- ---- the calls that cut by a movement
  -- kill of a movement, and the calls that are one
  killed : (mvt : Movement) → Planned R F l (kill_of R F l mvt)
  killed mvt = by_plan (own_tests false (is_foreign R mvt) false) (cut_plan pos (kill_range R t pos mvt)) (λ q. (kill_suits R t v pos i mvt, kill-cursor R t v pos i mvt))

  -- by its codes
  killed_by : (c : Option Movement) → Planned R F l (kill_by R F l c)
  killed_by (Some mvt) = killed mvt
  killed_by None = unnamed

  -- delete
  deleted : (n : ℕ) → Planned R F l (edit_outcome R F l (asked.delete n))
  deleted n =
      by_plan (own_tests false false false) (places_plan pos (kill_range R t pos (m.ForwardChar n)))
      (λ q. (delete_suits R t v pos i (m.ForwardChar n), delete-cursor R t v pos i (m.ForwardChar n)))

  -- ---- the calls with places of their own
  -- delete_range
  range_deleted : (a b : ℕ) → Planned R F l (edit_outcome R F l (asked.delete_range a b))
  range_deleted a b =
      by_plan (range_tests R F l a b) (once (cutting a b) a)
      (λ q. let j = range_in l a b len q.place q.split in (cutting_suits R t a b j, cutting-cursor R t a b j))

  -- replace
  replaced : (a b : ℕ) (s : List ℕ) → Planned R F l (edit_outcome R F l (asked.replace a b s))
  replaced a b s =
      by_plan (replace_tests R F l a b s) (once (swapping a b s) (a + length s))
      (λ q.
      let j = range_in l a b len q.place q.split in
      let w = not-false (is_text R s) q.foreign in
      (swapping_suits R t a b j s w, swapping-cursor R t a b j s w))

  -- ---- the calls that put in a character or a text that 4 passes
  -- insert
  inserted : (c n : ℕ) → Planned R F l (edit_outcome R F l (asked.insert c n))
  inserted c n =
      by_plan (own_tests false (not (is_char R c)) false) (insert_plan pos c n)
      (λ q. let w = not-false (is_char R c) q.foreign in (insert_suits R t pos i c n w, insert-cursor R t pos i c n w))

  -- yank
  yanked : (s : List ℕ) (n : ℕ) → Planned R F l (edit_outcome R F l (asked.yank s n))
  yanked s n =
      by_plan (text_tests R F l s false false) (yank_plan pos s n)
      (λ q. let w = not-false (is_text R s) q.foreign in (yank_suits R t pos i s n w, yank-cursor R t pos i s n w))

  -- yank_pop
  yank_popped : (size : ℕ) (s : List ℕ) → Planned R F l (edit_outcome R F l (asked.yank_pop size s))
  yank_popped size s =
      by_plan (text_tests R F l s (ltb pos size) (not (boundary t (pos - size)))) (yank_pop_plan pos size s)
      (λ q.
      let w = not-false (is_text R s) q.foreign in
      let b = not-false (boundary t (pos - size)) q.split in
      (yank_pop_suits R t pos i size s w b, yank_pop_cursor R t pos i size s w b))

  -- update
  updated : (s : List ℕ) (p : ℕ) → Planned R F l (edit_outcome R F l (asked.update s p))
  updated s p =
      by_plan (text_tests R F l s (ltb (length s) p) (not (boundary s p))) (update_plan t s p)
      (λ q.
      let w = not-false (is_text R s) q.foreign in
      (update_suits R t v s p w, update-cursor R t v s p w (ltb-false (length s) p q.place) (not-false (boundary s p) q.split)))

  -- ---- the calls that put in what they have cut
  -- transpose_chars
  chars-transposed : Planned R F l (edit_outcome R F l asked.transpose_chars)
  chars-transposed = by_plan (own_tests false false false) (transpose_chars_plan R t pos) (λ q. transpose_chars_suits R t v pos i)

  -- transpose_words
  words_transposed : (n : ℕ) → Planned R F l (edit_outcome R F l (asked.transpose_words n))
  words_transposed n = by_plan (own_tests false false false) (transpose_words_plan R t n pos) (λ q. transpose_words_suits R t v pos i n)

  -- edit_word, by its code
  word-edited : (c : Option WordAction) → Planned R F l (edit_word_by R F l c)
  word-edited (Some w) = by_plan (own_tests false false false) (edit_word_plan R t w pos) (λ q. edit-word_suits R t v pos i law w)
  word-edited None = unnamed

  -- ---- lines indented and dedented
  module _ (amount : ℕ) where
    abbrev lines : Movement → List (List ℕ)
    lines mvt = lines_in t (touched R t pos mvt)

    -- a dedent's cuts are tried by 6
    whole : (mvt : Movement) (dedent : Bool) → cond dedent (splits R amount (lines mvt)) false ≡ false → dedent ≡ true → splits R amount (lines mvt) ≡ false
    whole mvt true s e = s
    whole mvt false s e = never _ false e refl

    -- indent of a movement
    indented : (dedent : Bool) (mvt : Movement) → Planned R F l (indent_of R F l amount dedent mvt)
    indented dedent mvt =
        by_plan (indent_tests R t pos mvt amount dedent) (indent_plan R amount dedent pos (touched R t pos mvt).start (lines mvt))
        (λ q.
        let s = whole mvt dedent q.split in
        (indent_suits R law.space amount t pos v i.2 i.1 mvt dedent s, plan_cursor R law.space amount t pos v i.2 i.1 mvt dedent s))

    -- by its codes
    indented_by : (dedent : Bool) (c : Option Movement) → Planned R F l (indent_by R F l amount dedent c)
    indented_by dedent (Some mvt) = indented dedent mvt
    indented_by dedent None = unnamed

  -- every edit
  pub planned : (x : EditCall) → Planned R F l (edit_outcome R F l x)
  planned (asked.update s p) = updated s p
  planned (asked.insert c n) = inserted c n
  planned (asked.yank s n) = yanked s n
  planned (asked.yank_pop size s) = yank_popped size s
  planned (asked.delete n) = deleted n
  planned (asked.backspace n) = killed (m.BackwardChar n)
  planned asked.kill_line = killed m.EndOfLine
  planned asked.kill_buffer = killed m.EndOfBuffer
  planned asked.discard_line = killed m.BeginningOfLine
  planned asked.discard_buffer = killed m.BeginningOfBuffer
  planned asked.transpose_chars = chars-transposed
  planned (asked.delete_prev_word w n) = killed_by (movement_of (codes 3 n 0 w 0 0))
  planned (asked.delete_word at w n) = killed_by (movement_of (codes 4 n at w 0 0))
  planned (asked.delete_to s c n) = killed_by (movement_of (codes 5 n 0 0 s c))
  planned (asked.edit_word a) = word-edited (action_of a)
  planned (asked.transpose_words n) = words_transposed n
  planned (asked.replace a b s) = replaced a b s
  planned (asked.delete_range a b) = range_deleted a b
  planned (asked.kill c) = killed_by (movement_of c)
  planned (asked.indent c amount dedent) = indented_by amount dedent (movement_of c)
