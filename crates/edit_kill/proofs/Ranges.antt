-- What kill cuts lies in the text, between its characters. Assumes nothing.
use mathlib.Core.Path.{◌≡◌, refl}
use mathlib.Core.Bool.{true}
use mathlib.Core.List.{List}
use Prim.Native.Nat.{ℕ, ◌≤◌}
use native.Mathlib.Omega.{arith}
use lib.ListN.{length}
use Rattle.std.specs.Prelude.{Option, None, Some}
use Rattle.std.specs.Option.{option_or}
use Rattle.utf8.specs.Chars.{valid, boundary, In}
use Rattle.repertoire.specs.Repertoire.{Repertoire}
use Rattle.keymap.specs.declared.Movement.{Movement}
use Rattle.keymap.specs.declared.Movement.TheVariants as m
use Rattle.motion.specs.Steps.{next_pos, prev_pos}
use Rattle.motion.proofs.Places.{next_pos_place, prev_pos_place}
use Rattle.motion_lines.specs.Lines.{start_of_line, end_of_line, places}
use Rattle.motion_lines.proofs.Places.{start_of_line-place, end_of_line-place}
use Rattle.motion_ranges.specs.Ranges.{up_to, back_to, between, starts_after}
use Rattle.motion_ranges.proofs.Places.{of_nowhere, of_between, up_in, back_in, copied-place}
use Rattle.edit_kill.specs.Kills.{kill_line, discard_line, kill_range}
use Rattle.motion_lines.specs.declared.Span.{Span}

-- ---- a range's two places
else_in : (P : ℕ → ℕ → Type 0) (q r : Option Span) (a b : ℕ) → option_or q r ≡ places a b → (q ≡ places a b → P a b) → (r ≡ places a b → P a b) → P a b
else_in P (Some x) r a b e f g = f e
else_in P None r a b e f g = g e

module _ (R : Repertoire) (s : List ℕ) (v : valid s ≡ true) (a b : ℕ) where
  line_in : (pos : ℕ) → boundary s pos ≡ true → pos ≤ length s → kill_line R s pos ≡ places a b → In s a b
  unfolding kill_line
  line_in pos k h e =
      let z = end_of_line-place s pos v k h in
      else_in (In s) (between pos (end_of_line s pos)) (up_to pos 0 (next_pos R s pos 1)) a b e
      (λ q. of_between (In s) a b pos (end_of_line s pos) q (z.0, z.1, k, z.2))
      (λ q. up_in s pos a b k h (next_pos R s pos 1) q (λ p f. next_pos_place R s pos 1 p v k h f))

  discard_in : (pos : ℕ) → boundary s pos ≡ true → pos ≤ length s → discard_line R s pos ≡ places a b → In s a b
  unfolding discard_line
  discard_in pos k h e =
      let z = start_of_line-place s pos v h in
      else_in (In s) (between (start_of_line s pos) pos) (back_to pos 0 (prev_pos R s pos 1)) a b e
      (λ q. of_between (In s) a b (start_of_line s pos) pos q (z.0, h, z.1, k))
      (λ q. back_in s pos a b k h (prev_pos R s pos 1) q (λ p f. prev_pos_place R s pos 1 p v k h f))

  module _ (pos : ℕ) (k : boundary s pos ≡ true) (h : pos ≤ length s) where
    pub kill_in : (mvt : Movement) → kill_range R s pos mvt ≡ places a b → In s a b
    unfolding starts_after
    kill_in m.WholeLine e = let z = start_of_line-place s pos v h in line_in (start_of_line s pos) z.1 (let y = z.0 in omega arith) e
    kill_in m.BeginningOfLine e = discard_in pos k h e
    kill_in m.EndOfLine e = line_in pos k h e
    kill_in (m.BackwardWord n w) e = copied-place R s pos (m.BackwardWord n w) a b v k h refl e
    kill_in (m.ForwardWord n at w) e = copied-place R s pos (m.ForwardWord n at w) a b v k h refl e
    kill_in (m.ViCharSearch n cs) e = copied-place R s pos (m.ViCharSearch n cs) a b v k h refl e
    kill_in m.ViFirstPrint e = of_nowhere (In s) a b e
    kill_in (m.BackwardChar n) e = copied-place R s pos (m.BackwardChar n) a b v k h refl e
    kill_in (m.ForwardChar n) e = copied-place R s pos (m.ForwardChar n) a b v k h refl e
    kill_in (m.LineUp n) e = copied-place R s pos (m.LineUp n) a b v k h refl e
    kill_in (m.LineDown n) e = copied-place R s pos (m.LineDown n) a b v k h refl e
    kill_in m.WholeBuffer e = copied-place R s pos m.WholeBuffer a b v k h refl e
    kill_in m.BeginningOfBuffer e = copied-place R s pos m.BeginningOfBuffer a b v k h refl e
    kill_in m.EndOfBuffer e = copied-place R s pos m.EndOfBuffer a b v k h refl e
