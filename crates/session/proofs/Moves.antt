-- A movement leaves the cursor between characters and the line as long as it was, and keeps the invariant. Assumes nothing.
use Rattle.std.proofs.Common.{Option, Some, None}
use Prim.Native.Nat.{ℕ, zero, suc, ◌≤◌}
use native.Mathlib.Omega.{arith}
use mathlib.Core.Path.{◌≡◌, refl, sym, ap, subst}
use mathlib.Core.Bool.{Bool, true, false, cond, not}
use mathlib.Core.List.{List}
use lib.Dec.{eqb}
use lib.ListN.{length}
use borrow.Author.Tests.{ltb-false, not-false}
use Rattle.std.specs.Prelude.{Option, None, Some}
use Rattle.utf8.specs.Chars.{valid, boundary, In}
use Rattle.utf8.proofs.Boundary.{boundary-zero, boundary_end}
use Rattle.repertoire.specs.Repertoire.{Repertoire}
use Rattle.repertoire.specs.Text.{is_text, is_char}
use Rattle.repertoire.proofs.Text.{text-valid}
use Rattle.keymap.specs.Codes.{word_of, at_of, search_of, movement_of}
use Rattle.keymap.specs.declared.Word.{Word}
use Rattle.keymap.specs.declared.At as stops
use Rattle.keymap.specs.declared.CharSearch.{CharSearch}
use Rattle.keymap.specs.declared.Movement.{Movement}
use Rattle.motion.specs.Steps.{next_pos, prev_pos}
use Rattle.motion.specs.Search.{search_char_pos}
use Rattle.motion.proofs.Places.{next_pos_place, prev_pos_place, search-place}
use Rattle.motion_words.specs.Words.{prev_word_pos, next_word_pos}
use Rattle.motion_words.proofs.Places.{prev_word-place, next-word-place}
use Rattle.motion_lines.specs.Lines.{start_of_line, end_of_line, places}
use Rattle.motion_lines.specs.Columns.{line_up, line_down}
use Rattle.motion_lines.proofs.Places.{start_of_line-place, end_of_line-place, line_up_place, line_down_place}
use Rattle.checks.specs.Outcome.{Outcome, refused, answered, called, leaves}
use Rattle.checks.specs.Checks.{Tests, no_tests, both, refusal, own_tests}
use Rattle.checks.specs.Answers.{moved_to, place_of}
use Rattle.checks.specs.declared.Line.{Line}
use Rattle.checks.proofs.Fit.{fit}
use Rattle.motion_calls.specs.Moves as moves
use Rattle.motion_calls.specs.Moves.{lent, move_call, elsewhere, place_tests, prompt_tests}
use Rattle.motion_ranges.specs.Ranges.{copied}
use Rattle.motion_calls.specs.Copy.{ranged, copy_by, copy_tests}
use Rattle.formats.specs.declared.Format.{Format}
use Rattle.formats.specs.Formats.{format_for}
use Rattle.edit.specs.Plan.{State}
use Rattle.edit.specs.Calls.{Lent, text_of, state_of}
use Rattle.calls.specs.Calls.{MoveCall, move_outcome, moved_by, outcome_of}
use Rattle.calls.specs.Calls as asked
use Rattle.session.proofs.Invariant.{Inv}
use Rattle.motion_lines.specs.declared.Span.{Span}

-- the line that a movement leaves: its cursor stands between characters, and it is as long as it was
pub record Within (l : Lent) (o : Outcome Line) : Type 0 where
  pub place : In (text_of l) (leaves o l.line).cursor (leaves o l.line).cursor
  pub len : (leaves o l.line).len ≡ l.line.len

module _ (R : Repertoire) (F : Format) (l : Lent) (is : is_text R (text_of l) ≡ true) (i : In (text_of l) l.line.cursor l.line.cursor)
    (len : l.line.len ≡ length (text_of l)) where
  abbrev t : List ℕ
  t = text_of l

  abbrev pos : ℕ
  pos = l.line.cursor

  abbrev v : valid t ≡ true
  v = text-valid R t is

  abbrev Stands : Outcome Line → Type 0
  Stands o = Within l o

  -- the line as it was
  as_it_was : (o : Outcome Line) → leaves o l.line ≡ l.line → Stands o
  as_it_was o e = record { place = rw e i; len = ap (λ (x : Line). x.len) e }

  -- with the cursor at a place
  placed : (p : ℕ) → (p ≤ length t) × (boundary t p ≡ true) → Stands (moved_to l.line (Some p))
  placed p h = record { place = (omega arith, h.0, h.1, h.1); len = refl }

  -- a call that leaves the cursor there where its checks pass
  called-stands : (own : Tests) (o : Outcome Line) → (refusal (both (lent R l.text l.line) own) ≡ 0 → Stands o) → Stands (move_call R l.text l.line own o)
  unfolding move_call
  called-stands own o f = by_number (refusal (both (lent R l.text l.line) own)) f
    where
      by_number : (n : ℕ) → (n ≡ 0 → Stands o) → Stands (called n o)
      by_number zero g = g refl
      by_number (suc n) g = as_it_was (refused (suc n)) refl

  -- a place in the text, between characters
  abbrev Place : ℕ → Type 0
  Place p = (p ≤ length t) × (boundary t p ≡ true)

  -- at the cursor or before it
  back_place : (p : ℕ) → (p ≤ pos) × (boundary t p ≡ true) → Place p
  back_place p h = let a = h.0 in let b = i.1 in (omega arith, h.1)

  -- at the cursor or behind it
  on_place : (p : ℕ) → (pos ≤ p) × (p ≤ length t) × (boundary t p ≡ true) → Place p
  on_place p h = (h.1, h.2)

  -- at the place found, or where it was
  moved-stands : (f : Option ℕ) → ((p : ℕ) → f ≡ Some p → Place p) → Stands (moved_to l.line f)
  moved-stands (Some p) g = placed p (g p refl)
  moved-stands None g = as_it_was (moved_to l.line None) refl

  -- to the place found, where no check refuses
  goes : (own : Tests) (f : Option ℕ) → ((p : ℕ) → f ≡ Some p → Place p) → Stands (move_call R l.text l.line own (moved_to l.line f))
  goes own f g = called-stands own (moved_to l.line f) (λ e. moved-stands f g)

  -- to a place, unless the cursor is there
  goes_to : (p : ℕ) → Place p → Stands (move_call R l.text l.line no_tests (moved_to l.line (elsewhere l.line p)))
  goes_to p h = called-stands no_tests (moved_to l.line (elsewhere l.line p)) (λ e. at_place (eqb pos p))
    where
      at_place : (b : Bool) → Stands (moved_to l.line (cond b None (Some p)))
      at_place true = as_it_was (moved_to l.line None) refl
      at_place false = placed p h

  -- the line as it is
  stays : (own : Tests) (o : Outcome Line) → leaves o l.line ≡ l.line → Stands (move_call R l.text l.line own o)
  stays own o e = called-stands own o (λ z. as_it_was o e)

  -- a place answered leaves the line as it was
  place-line : (f : Option ℕ) → leaves (place_of l.line f) l.line ≡ l.line
  place-line (Some p) = refl
  place-line None = refl

  -- so do two places
  ranged-line : (r : Option Span) → leaves (ranged l.line r) l.line ≡ l.line
  ranged-line (Some x) = refl
  ranged-line None = refl

  -- a code that names nothing
  unnamed : Stands (moves.unnamed R l.text l.line)
  unnamed = stays (own_tests true false false) _ refl

  -- ---- by codes
  -- copy changes nothing
  copy-stands : (m : Option Movement) → Stands (copy_by R l.text l.line m)
  copy-stands (Some mvt) = stays (copy_tests R l.text l.line mvt) (ranged l.line (copied R t pos mvt)) (ranged-line (copied R t pos mvt))
  copy-stands None = unnamed

  -- words back
  prev_word-stands : (n : ℕ) (w : Option Word) → Stands (moves.prev_word_by R l.text l.line n w)
  prev_word-stands n (Some w) =
      goes no_tests (prev_word_pos R t pos w n) (λ p e. back_place p (prev_word-place R t pos w n p v i.2 i.1 e))
  prev_word-stands n None = unnamed

  -- words on
  next-word-stands : (n : ℕ) (a : Option stops.At) (w : Option Word) → Stands (moves.next_word_by R l.text l.line n a w)
  next-word-stands n (Some a) (Some w) =
      goes no_tests (next_word_pos R t pos a w n) (λ p e. on_place p (next-word-place R t pos a w n p v i.2 i.1 e))
  next-word-stands n (Some a) None = unnamed
  next-word-stands n None w = unnamed

  -- to a character
  search-stands : (c n : ℕ) (s : Option CharSearch) → Stands (moves.search_by R l.text l.line c n s)
  search-stands c n (Some cs) =
      goes (own_tests false (not (is_char R c)) false) (search_char_pos R t pos cs n) (λ p e. search-place R t pos cs n p v i.2 i.1 e)
  search-stands c n None = unnamed

  -- set_pos is tried by its own 5 and 6
  set_pos_stands : (p : ℕ) → Stands (moves.set_pos R l.text l.line p)
  set_pos_stands p =
      called-stands (place_tests t l.line.len p) (moved_to l.line (Some p))
      (λ e.
      let q = (fit R (format_for (length l.text)) l.text l.line (place_tests t l.line.len p) e).1 in
      let h = ltb-false l.line.len p q.place in
      let b = not-false (boundary t p) q.split in
      placed p (omega (arith, len), b))

  -- every movement
  pub move_keeps : (x : MoveCall) → Within l (move_outcome R l.text l.line x)
  move_keeps (asked.next_pos n) = stays no_tests _ (place-line (next_pos R t pos n))
  move_keeps (asked.copy m) = copy-stands (movement_of m)
  move_keeps asked.is_cursor_at_end = stays no_tests _ refl
  move_keeps asked.is_end_of_input = stays no_tests _ refl
  move_keeps (asked.set_pos p) = set_pos_stands p
  move_keeps (asked.move_forward n) = goes no_tests (next_pos R t pos n) (λ p e. on_place p (next_pos_place R t pos n p v i.2 i.1 e))
  move_keeps (asked.move_backward n) = goes no_tests (prev_pos R t pos n) (λ p e. back_place p (prev_pos_place R t pos n p v i.2 i.1 e))
  move_keeps asked.move_buffer_start = goes_to 0 (omega arith, boundary-zero t)
  move_keeps asked.move_buffer_end = goes_to l.line.len (omega arith, subst (λ (n : ℕ). boundary t n ≡ true) (sym len) (boundary_end t v))
  move_keeps asked.move_home = goes_to (start_of_line t pos) (back_place (start_of_line t pos) (start_of_line-place t pos v i.1))
  move_keeps asked.move_end = goes_to (end_of_line t pos) (on_place (end_of_line t pos) (end_of_line-place t pos v i.2 i.1))
  move_keeps (asked.move_to_prev_word w n) = prev_word-stands n (word_of w)
  move_keeps (asked.move_to_next_word at w n) = next-word-stands n (at_of at) (word_of w)
  move_keeps (asked.move_to_line_up n prompt) = goes (prompt_tests prompt) (line_up R t pos n prompt) (λ p e. line_up_place R t pos n prompt p v i.2 i.1 e)
  move_keeps (asked.move_to_line_down n prompt) = goes (prompt_tests prompt) (line_down R t pos n prompt) (λ p e. line_down_place R t pos n prompt p v i.2 i.1 e)
  move_keeps (asked.move_to s c n) = search-stands c n (search_of s c)

  -- ---- the invariant
  module _ (Q : List ℕ → Type 0) (t₀ : List ℕ) (s : State) (g : List ℕ) (q : Inv R F Q t₀ s g) (e : state_of R F l ≡ s) where
    -- the cursor alone is another
    cursor_keeps : (p : ℕ) → In t p p → Inv R F Q t₀ (record { text = t; cursor = p; log = (state_of R F l).log }) g
    cursor_keeps p h =
        let w = subst (λ (x : State). Inv R F Q t₀ x g) (sym e) q in
        record { here = w.here; goal = w.goal; forth = w.forth; nested = w.nested; cursor = h; undo-numbers = w.undo-numbers; redo-numbers = w.redo-numbers }

    -- a movement that is refused changes nothing
    outcome_keeps : (o : Outcome Line) → Stands o → Inv R F Q t₀ (leaves (moved_by R F l o) s) g
    outcome_keeps (refused k) h = q
    outcome_keeps (answered k a b x) h = cursor_keeps x.cursor h.place

    -- a movement keeps the invariant
    pub moved_keeps : (x : MoveCall) → Inv R F Q t₀ (leaves (outcome_of R F l (asked.move x)) s) g
    moved_keeps x = outcome_keeps (move_outcome R l.text l.line x) (move_keeps x)
