-- Document 02, order 3: "Where no tab is measured, a line move gives the answer it gave before". Assumes nothing.
use mathlib.Core.Path.{◌≡◌, ap}
use mathlib.Core.Bool.{false}
use mathlib.Core.List.{List}
use Prim.Native.Nat.{ℕ, ◌+◌}
use Rattle.lists.specs.Lists.{part}
use Rattle.repertoire.specs.Repertoire.{Repertoire}
use Rattle.layout.specs.Width.{has_tab}
use Rattle.layout.proofs.Columns.{width-plain}
use Rattle.motion_lines.specs.Lines.{start_of_line}
use Rattle.motion_lines.specs.Columns.{offset, line_up_from, line_up, line_down_from, line_down, measured, plain_line_up, plain_line_down}

module _ (R : Repertoire) (s : List ℕ) (pos n prompt : ℕ) (none : has_tab (measured s pos) ≡ false) where
  pub line_up_as_before : line_up R s pos n prompt ≡ plain_line_up R s pos n prompt
  unfolding line_up plain_line_up
  line_up_as_before = ap (line_up_from R s pos n prompt) (width-plain R 0 (part s (start_of_line s pos) pos) none)

  pub line_down_as_before : line_down R s pos n prompt ≡ plain_line_down R s pos n prompt
  unfolding line_down plain_line_down
  line_down_as_before =
      let start = offset (start_of_line s pos) prompt in
      ap (λ (w : ℕ). line_down_from R s pos n (w + start)) (width-plain R start (part s (start_of_line s pos) pos) none)
