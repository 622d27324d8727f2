-- Order 1 of document 02: the calls that a key stands for, by the values of 01's calls (calls/specs/Calls).
use Rattle.std.specs.Prelude.{ℕ}
use Rattle.keymap.specs.declared.Word.TheVariants as word
use Rattle.keymap.specs.declared.At.TheVariants as stop
use Rattle.keymap.specs.declared.Movement.{Movement}
use Rattle.keymap.specs.declared.Movement.TheVariants as m
use Rattle.kill_ring.specs.declared.Mode.{Mode}
use Rattle.kill_ring.specs.declared.Mode.TheVariants.{Append, Prepend}
use Rattle.key_press.specs.declared.Press.{Press}
use Rattle.key_press.specs.declared.Press.TheVariants as p
use Rattle.key_press.specs.declared.MoveKey.{MoveKey}
use Rattle.key_press.specs.declared.MoveKey.TheVariants as mk
use Rattle.key_press.specs.declared.EditKey.{EditKey}
use Rattle.key_press.specs.declared.EditKey.TheVariants as ek
use Rattle.key_press.specs.declared.KillKey.{KillKey}
use Rattle.key_press.specs.declared.KillKey.TheVariants as kk
use Rattle.calls.specs.Calls.{EditCall, MoveCall, Asked, edit, move, undo}
use Rattle.calls.specs.Calls as calls

pub data KeyCalls : Type 0 where
  unbound : KeyCalls
  -- a call on the line; the ring is reset
  line : Asked → KeyCalls
  -- a kill, by its movement: what it cuts goes to the ring
  kill : EditCall → Movement → Mode → KeyCalls
  -- the ring's text, n times; the ring's text in the place of the one yanked before
  yank : ℕ → KeyCalls
  yank_pop : KeyCalls

-- "ESC b, f and d use Emacs words (AfterEnd), control w Big ones". Codes: Big 0, Emacs 1; AfterEnd 2; Capitalize 0, Lowercase 1, Uppercase 2
abbrev pub move_for : MoveKey → MoveCall
move_for mk.Home = calls.move_home
move_for mk.End = calls.move_end
move_for (mk.Backward n) = calls.move_backward n
move_for (mk.Forward n) = calls.move_forward n
move_for (mk.PrevWord n) = calls.move_to_prev_word 1 n
move_for (mk.NextWord n) = calls.move_to_next_word 2 1 n

abbrev pub edit_for : EditKey → EditCall
edit_for (ek.Typed c n) = calls.insert c n
edit_for (ek.Delete n) = calls.delete n
edit_for ek.TransposeChars = calls.transpose_chars
edit_for (ek.TransposeWords n) = calls.transpose_words n
edit_for ek.Capitalize = calls.edit_word 0
edit_for ek.Lowercase = calls.edit_word 1
edit_for ek.Uppercase = calls.edit_word 2

abbrev pub kill_for : KillKey → EditCall
kill_for kk.Line = calls.kill_line
kill_for kk.Discard = calls.discard_line
kill_for (kk.PrevWord n) = calls.delete_prev_word 0 n
kill_for (kk.Word n) = calls.delete_word 2 1 n

-- a kill's movement, and "forward ones appended and backward ones prepended"
abbrev pub movement_for : KillKey → Movement
movement_for kk.Line = m.EndOfLine
movement_for kk.Discard = m.BeginningOfLine
movement_for (kk.PrevWord n) = m.BackwardWord n word.Big
movement_for (kk.Word n) = m.ForwardWord n stop.AfterEnd word.Emacs

abbrev pub mode_for : KillKey → Mode
mode_for kk.Line = Append
mode_for kk.Discard = Prepend
mode_for (kk.PrevWord n) = Prepend
mode_for (kk.Word n) = Append

abbrev pub kill_by : KillKey → KeyCalls
kill_by k = kill (kill_for k) (movement_for k) (mode_for k)

abbrev pub stands_for : Press → KeyCalls
stands_for p.Unbound = unbound
stands_for (p.Move k) = line (move (move_for k))
stands_for (p.Edit k) = line (edit (edit_for k))
stands_for (p.Undo n) = line (undo n)
stands_for (p.Kill k) = kill_by k
stands_for (p.Yank n) = yank n
stands_for p.YankPop = yank_pop
