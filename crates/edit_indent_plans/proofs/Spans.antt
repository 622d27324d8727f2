-- The lines that a movement touches: of a text and a boundary in it, they begin and end at boundaries. Assumes nothing.
use mathlib.Core.Path.{◌≡◌, refl, sym, ap, subst, ◌∙◌}
use mathlib.Core.Bool.{true}
use mathlib.Core.List.{List}
use Prim.Native.Nat.{ℕ, ◌≤◌}
use native.Mathlib.Omega.{arith}
use lib.ListN.{length}
use Rattle.std.specs.Prelude.{Option, None, Some}
use Rattle.utf8.specs.Chars.{valid, boundary, In}
use Rattle.utf8.proofs.Boundary.{boundary-zero, boundary_end}
use Rattle.repertoire.specs.Repertoire.{Repertoire}
use Rattle.keymap.specs.declared.Movement.{Movement}
use Rattle.keymap.specs.declared.Movement.TheVariants as m
use Rattle.motion_words.specs.Words.{prev_word_pos, next_word_pos}
use Rattle.motion_words.proofs.Places.{next-word-place, prev_word-place}
use Rattle.motion_lines.specs.Lines.{start_of_line, n_lines_up, n_lines_down, places}
use Rattle.motion_lines.proofs.Places.{start_of_line-place, lines_up_place, lines_down_place}
use Rattle.motion_ranges.specs.Ranges.{up_to, back_to}
use Rattle.motion_ranges.proofs.Places.{up_in, back_in}
use Rattle.motion_lines.specs.declared.Span.{Span}
use Rattle.edit_indent_plans.specs.Touched.{span, or_cursor, span_of, last_newline, touched}
use Rattle.edit_indent_plans.proofs.Newlines.{last_in, last_place}

-- ---- both places of a span lie in the text and are boundaries
abbrev pub Inside : List ℕ → Span → Type 0
Inside s r = In s r.start r.end

module _ (R : Repertoire) (s : List ℕ) (pos : ℕ) (v : valid s ≡ true) (k : boundary s pos ≡ true) (h : pos ≤ length s) where
  here : Inside s (span pos pos)
  here = (omega arith, h, k, k)

  places_in : (r : Option Span) → ((a b : ℕ) → r ≡ places a b → In s a b) → Inside s (or_cursor pos r)
  places_in (Some x) g = g x.start x.end refl
  places_in None g = here

  pub span_in : (mvt : Movement) → Inside s (span_of R s pos mvt)
  span_in m.WholeLine = here
  span_in m.BeginningOfLine = here
  span_in m.EndOfLine = here
  span_in (m.BackwardWord n w) =
      places_in (back_to pos 0 (prev_word_pos R s pos w n)) (λ a b e. back_in s pos a b k h (prev_word_pos R s pos w n) e (λ p q. prev_word-place R s pos w n p v k h q))
  span_in (m.ForwardWord n at w) =
      places_in (up_to pos 0 (next_word_pos R s pos at w n)) (λ a b e. up_in s pos a b k h (next_word_pos R s pos at w n) e (λ p q. next-word-place R s pos at w n p v k h q))
  span_in (m.ViCharSearch n cs) = here
  span_in m.ViFirstPrint = here
  span_in (m.BackwardChar n) = here
  span_in (m.ForwardChar n) = here
  span_in (m.LineUp n) = places_in (n_lines_up s pos n) (λ a b q. lines_up_place s pos n a b v k h q)
  span_in (m.LineDown n) = places_in (n_lines_down s pos n) (λ a b q. lines_down_place s pos n a b v k h q)
  span_in m.WholeBuffer = (omega arith, omega arith, boundary-zero s, boundary_end s v)
  span_in m.BeginningOfBuffer = (omega arith, h, boundary-zero s, k)
  span_in m.EndOfBuffer = (h, omega arith, k, boundary_end s v)

  pub touched_in : (mvt : Movement) → Inside s (touched R s pos mvt)
  touched_in mvt =
      let r = span_in mvt in
      let a = (span_of R s pos mvt).start in
      let b = (span_of R s pos mvt).end in
      let r0 = r.0 in
      let r1 = r.1 in
      let x = start_of_line-place s a v (omega arith) in
      let y = last_in s b r1 in
      (omega arith, y.1, x.1, last_place s b v r1)

-- the lines that the code finds, from the span of the movement
pub touched_as : (R : Repertoire) (s : List ℕ) (pos : ℕ) (mvt : Movement) (q : Span) (a b : ℕ) → q ≡ span_of R s pos mvt
    → a ≡ start_of_line s q.start → b ≡ last_newline s q.end → span a b ≡ touched R s pos mvt
touched_as R s pos mvt q a b e f g =
    let x : a ≡ (touched R s pos mvt).start = f ∙ ap (λ (z : Span). start_of_line s z.start) e in
    let y : b ≡ (touched R s pos mvt).end = g ∙ ap (λ (z : Span). last_newline s z.end) e in
    ap (λ (i : ℕ). span i b) x ∙ ap (span (touched R s pos mvt).start) y

-- where the code looks
pub span_as : (R : Repertoire) (s : List ℕ) (pos : ℕ) (mvt : Movement) (q : Span) → valid s ≡ true → boundary s pos ≡ true → pos ≤ length s → q ≡ span_of R s pos mvt → Inside s q
span_as R s pos mvt q v k h e = subst (Inside s) (sym e) (span_in R s pos v k h mvt)
