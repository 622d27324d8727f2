-- The plans of the calls that cut suit the text, and leave the cursor between characters: over any repertoire. Assumes nothing.
use Prim.Native.Nat.{ℕ}
use mathlib.Core.Path.{◌≡◌, refl}
use mathlib.Core.Bool.{true}
use mathlib.Core.List.{List}
use Rattle.std.specs.Prelude.{Option, None, Some}
use Rattle.utf8.specs.Chars.{In}
use Rattle.repertoire.specs.Repertoire.{Repertoire}
use Rattle.repertoire.specs.Text.{is_text}
use Rattle.repertoire.proofs.Text.{text-valid}
use Rattle.keymap.specs.declared.Movement.{Movement}
use Rattle.edit.specs.Plan.{text_after, AllSuit}
use Rattle.edit.proofs.Suits.{nothing_suits, nothing-cursor, cutting_suits, cutting-cursor}
use Rattle.edit_kill.specs.Kills.{kill_range, cut_plan, places_plan}
use Rattle.edit_kill.proofs.Ranges.{kill_in}
use Rattle.motion_lines.specs.declared.Span.{Span}
use Rattle.motion_lines.specs.Lines.{places}

module _ (R : Repertoire) (t : List ℕ) (is : is_text R t ≡ true) (pos : ℕ) (i : In t pos pos) (mvt : Movement) where
  in_range : (a b : ℕ) → kill_range R t pos mvt ≡ places a b → In t a b
  in_range a b e = kill_in R t (text-valid R t is) a b pos i.2 i.1 mvt e

  suits : (r : Option Span) → kill_range R t pos mvt ≡ r → AllSuit R (cut_plan pos r).changes t
  suits (Some x) e = cutting_suits R t x.start x.end (in_range x.start x.end e)
  suits None e = nothing_suits R t pos

  cursor : (r : Option Span) → kill_range R t pos mvt ≡ r → In (text_after (cut_plan pos r).changes t) (cut_plan pos r).cursor (cut_plan pos r).cursor
  cursor (Some x) e = cutting-cursor R t x.start x.end (in_range x.start x.end e)
  cursor None e = nothing-cursor R t pos i

  -- kill, and all calls that kill by a movement
  pub kill_suits : AllSuit R (cut_plan pos (kill_range R t pos mvt)).changes t
  kill_suits = suits (kill_range R t pos mvt) refl

  pub kill-cursor : In (text_after (cut_plan pos (kill_range R t pos mvt)).changes t) (cut_plan pos (kill_range R t pos mvt)).cursor (cut_plan pos (kill_range R t pos mvt)).cursor
  kill-cursor = cursor (kill_range R t pos mvt) refl

  -- delete makes the same change and answers places too
  same : (r : Option Span) → AllSuit R (cut_plan pos r).changes t → AllSuit R (places_plan pos r).changes t
  same (Some x) h = h
  same None h = h

  same-cursor : (r : Option Span) → In (text_after (cut_plan pos r).changes t) (cut_plan pos r).cursor (cut_plan pos r).cursor
      → In (text_after (places_plan pos r).changes t) (places_plan pos r).cursor (places_plan pos r).cursor
  same-cursor (Some x) h = h
  same-cursor None h = h

  pub delete_suits : AllSuit R (places_plan pos (kill_range R t pos mvt)).changes t
  delete_suits = same (kill_range R t pos mvt) kill_suits

  pub delete-cursor : In (text_after (places_plan pos (kill_range R t pos mvt)).changes t) (places_plan pos (kill_range R t pos mvt)).cursor
      (places_plan pos (kill_range R t pos mvt)).cursor
  delete-cursor = same-cursor (kill_range R t pos mvt) kill-cursor
