-- Worked examples of order 1, computed from the definition of a key's call, log and ring included, with a ring of one slot. Assumes nothing.
use Prim.Native.Nat.{ℕ, ◌-◌}
use mathlib.Core.Path.{◌≡◌, refl}
use mathlib.Core.List.{List, [], ◌∷◌, ◌++◌}
use lib.ListN.{length, replicate}
use Rattle.numbers.specs.Numbers.{le}
use Rattle.utf8.specs.Utf8.{within, one, two, lead3, three, lead4, four, first_of, first}
use Rattle.utf8.specs.Chars.{chars_from, valid_from, start_before}
use Rattle.utf8.specs.Encode.{scalar, size, encode, encode_all}
use Rattle.repertoire.specs.Repertoire.{catalogue, is_member, is_control, is_mark, is_alnum, is_white}
use Rattle.repertoire.specs.Text.{is_text, is_char}
use Rattle.cluster.specs.Clusters.{joined, clusters}
use Rattle.motion.specs.Steps.{next_pos}
use Rattle.motion_lines.specs.Lines.{start_of_line, before_newline, end_of_line}
use Rattle.buffer.specs.Edit.{copies}
use Rattle.formats.specs.Formats.{format_for, log_format}
use Rattle.checks.specs.Checks.{refusal}
use Rattle.checks.specs.Outcome.{Outcome, refused, answered}
use Rattle.motion_calls.specs.Moves.{move_call}
use Rattle.log_model.specs.Change.{Change, edit, insert, delete}
use Rattle.log_model.specs.Groups.{Log}
use Rattle.log_model.specs.Layout.{encode_records, encode_texts, size_of, texts_at, change_at, whole_at, decode_at}
use Rattle.log_model.specs.Recording.{note, record_insert, record_insert_str, record_delete}
use Rattle.log_model.specs.UndoBytes.{undo_records, undo_texts, all_numbers_fit, fits}
use Rattle.log_state.specs.Logs.{over_sizes, damaged}
use Rattle.log_state.specs.Calls.{undos, redos, row, log_of}
use Rattle.edit.specs.Plan.{State, splice, text_after, list_after, too_long, edited}
use Rattle.edit.specs.Calls.{Lent, lent}
use Rattle.edit_kill.specs.Kills.{kill_line, discard_line}
use Rattle.undo_step.specs.UndoStep.{misfit, exchanging, undoing}
use Rattle.undo.specs.Undo.{walk, undo_out}
use Rattle.kill_ring.specs.Ring as ring
use Rattle.kill_ring.specs.Calls as rings
use Rattle.kill_ring.specs.declared.Action.{Action}
use Rattle.kill_ring.specs.declared.Action.TheVariants.{Kill, Yank, Other}
use Rattle.key_press.specs.Keys.{with_digit, value, behind, is_counted, count_of, key_in, control, escaped, press_of, foreign_key}
use Rattle.key_model.specs.Keyed.{KeyState, key_state, key_call}

abbrev key : Lent → rings.Lent → List ℕ → Outcome KeyState
key l g s = key_call catalogue log_format l g s

abbrev state : List ℕ → ℕ → List Change → State
state t p u = record { text = t; cursor = p; log = record { undo = u; redo = []; level = 0 } }

abbrev buffer : ℕ → List ℕ → List ℕ
buffer n s = s ++ replicate (n - length s) 0

abbrev lending : State → Lent
lending s =
    lent (buffer 6 s.text) (buffer 16 (encode_records log_format (row log_format s.log))) (buffer 16 (encode_texts (row log_format s.log)))
    (record { len = length s.text; cursor = s.cursor }) (log_of log_format s.log)

-- a ring of one slot
abbrev slot : List ℕ → Action → ring.KillRing
slot s a = record { size = 1; slots = s ∷ []; index = 0; action = a }

abbrev ringing : ring.KillRing → List ℕ → rings.Lent
ringing v s = rings.lent (buffer 4096 s) (le 2 (length s)) (rings.ring_of v)

abbrev wrecked : rings.Lent
wrecked = rings.lent (buffer 4096 []) (0 ∷ 0 ∷ []) (record { size = 1; count = 0; index = 0; action = 3; yanked = 0 })

abbrev abcd : List ℕ
abcd = 0x61 ∷ 0x62 ∷ 0x63 ∷ 0x64 ∷ []

abbrev ab : List ℕ
ab = 0x61 ∷ 0x62 ∷ []

abbrev cd : List ℕ
cd = 0x63 ∷ 0x64 ∷ []

-- one record undone, and the one that stops
abbrev stopped : Log
stopped = record { undo = edit (insert 9 (0x7A ∷ [])) ∷ []; redo = edit (delete 1 (0x62 ∷ [])) ∷ []; level = 0 }

pub record Computed : Type 0 where
  -- C-k: "ab|cd", nothing killed before it
  pub k1 :
      key (lending (state abcd 2 [])) (ringing (slot (0x78 ∷ []) Other) (0x78 ∷ [])) (0x0B ∷ [])
      ≡ answered 0 0 0 (key_state (state ab 2 (edit (delete 2 cd) ∷ [])) (slot cd Kill))
  -- C-u after a kill: in front of it
  pub k2 :
      key (lending (state abcd 2 [])) (ringing (slot (0x78 ∷ []) Kill) (0x78 ∷ [])) (0x15 ∷ [])
      ≡ answered 0 0 0 (key_state (state cd 0 (edit (delete 0 ab) ∷ [])) (slot (0x61 ∷ 0x62 ∷ 0x78 ∷ []) Kill))
  -- C-k at the end: 1, the ring as it is
  pub k3 :
      key (lending (state ab 2 [])) (ringing (slot cd Kill) cd) (0x0B ∷ [])
      ≡ answered 1 0 0 (key_state (state ab 2 []) (slot cd Kill))
  -- C-f at the end: 1, and a reset
  pub k4 :
      key (lending (state ab 2 [])) (ringing (slot cd Kill) cd) (0x06 ∷ [])
      ≡ answered 1 0 0 (key_state (state ab 2 []) (slot cd Other))
  -- ESC 2 C-y: two copies, the size is one slot's; three do not fit: 9
  pub k5 :
      key (lending (state ab 2 [])) (ringing (slot cd Kill) cd) (0x1B ∷ 0x32 ∷ 0x19 ∷ [])
      ≡ answered 0 0 0 (key_state (state (0x61 ∷ 0x62 ∷ 0x63 ∷ 0x64 ∷ 0x63 ∷ 0x64 ∷ []) 6 (edit (insert 2 (0x63 ∷ 0x64 ∷ 0x63 ∷ 0x64 ∷ [])) ∷ [])) (slot cd (Yank 2)))
  pub k6 : key (lending (state ab 2 [])) (ringing (slot cd Kill) cd) (0x1B ∷ 0x33 ∷ 0x19 ∷ []) ≡ refused 9
  -- ESC y: a size above the cursor is 5
  pub k7 : key (lending (state ab 1 [])) (ringing (slot cd (Yank 2)) cd) (0x1B ∷ 0x79 ∷ []) ≡ refused 5
  -- a stopped undo: 12, the record handled stays handled, the ring stays
  pub k8 :
      key (lending (state ab 2 (edit (insert 1 (0x62 ∷ [])) ∷ edit (insert 9 (0x7A ∷ [])) ∷ []))) (ringing (slot cd Kill) cd) (0x1B ∷ 0x32 ∷ 0x1F ∷ [])
      ≡ answered 12 0 0 (key_state (record { text = 0x61 ∷ []; cursor = 1; log = stopped }) (slot cd Kill))
  -- 13; the ring's 8 before it; 4 before 8
  pub k9 : key (lending (state ab 2 [])) (ringing (slot cd Kill) cd) (0x07 ∷ []) ≡ refused 13
  pub k10 : key (lending (state ab 2 [])) wrecked (0x07 ∷ []) ≡ refused 8
  pub k11 : key (lending (state ab 2 [])) wrecked (0x1B ∷ 0xC2 ∷ 0xB5 ∷ []) ≡ refused 4

pub computed : Computed
unfolding format_for within one two lead3 three lead4 four first_of first chars_from valid_from start_before scalar size encode encode_all is_member is_control
    is_mark is_alnum is_white is_text is_char refusal move_call size_of texts_at change_at whole_at decode_at note record_insert record_insert_str record_delete
    undo_records undo_texts all_numbers_fit fits over_sizes damaged undos redos splice text_after list_after too_long edited misfit exchanging undoing walk
    undo_out ring.put_at ring.kill_out ring.yank_out ring.yank_pop_out rings.slots_from rings.any_over rings.over_sizes rings.action_breaks rings.any_foreign
    rings.damaged joined clusters next_pos start_of_line before_newline end_of_line copies kill_line discard_line
    with_digit value behind is_counted count_of key_in control escaped press_of foreign_key key_call
computed =
    record { k1 = refl; k2 = refl; k3 = refl; k4 = refl; k5 = refl; k6 = refl; k7 = refl; k8 = refl; k9 = refl; k10 = refl; k11 = refl }
