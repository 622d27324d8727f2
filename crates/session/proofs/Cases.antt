-- Document 01's cases marked P, in one table, computed from the definitions that the contracts cite. Assumes nothing.
use mathlib.Core.Path.{◌≡◌, refl}
use mathlib.Core.List.{List, [], ◌∷◌, ◌++◌}
use Prim.Native.Nat.{ℕ}
use Rattle.utf8.specs.Utf8.{within, one, two, lead3, three, lead4, four, first_of, first}
use Rattle.utf8.specs.Chars.{chars_from, valid_from, start_before}
use Rattle.utf8.specs.Encode.{scalar, size, encode, encode_all}
use Rattle.repertoire.specs.Repertoire.{catalogue, is_member, is_control, is_mark, is_alnum, is_white, is_lowercase, is_uppercase, upper_of}
use Rattle.repertoire.specs.Repertoire.{lower_of, width_of}
use Rattle.repertoire.specs.Text.{is_text, is_char}
use Rattle.repertoire.specs.Case.{case_all, cased}
use Rattle.cluster.specs.Clusters.{joined, clusters}
use Rattle.keymap.specs.Codes.{codes, word_list, at_list, search_list, movements}
use Rattle.layout.specs.Width.{advance, column_after, columns_after, width}
use Rattle.motion.specs.Steps.{sizes, next_pos, prev_pos}
use Rattle.motion.specs.Search.{matches, nth_match, after_cluster, match_forward, match_backward}
use Rattle.motion.specs.Trim.{first_alnum, skip_whitespace}
use Rattle.motion_words.specs.Rules.{is_start_of_word, lands_behind}
use Rattle.motion_words.specs.Walk.{indices_from, grapheme_indices, scan, walk}
use Rattle.motion_words.specs.Words.{lands_on, next_word, no_word, landed, next_word_pos, prev_word, prev_word_pos}
use Rattle.motion_lines.specs.Lines.{start_of_line, before_newline, end_of_line, lines_down, n_lines_down}
use Rattle.motion_lines.specs.Columns.{nth_cluster, line_above, line_below, line_up, line_down}
use Rattle.checks.specs.Checks.{refusal}
use Rattle.checks.specs.Outcome.{answered}
use Rattle.motion_ranges.specs.Ranges.{copied, starts_after}
use Rattle.motion_calls.specs.Copy.{copy_call}
use Rattle.motion_calls.specs.Moves.{move_call, move_forward, move_to_prev_word, move_to_next_word, move_to, move_to_line_up}
use Rattle.log_model.specs.Change.{edit, insert, delete}
use Rattle.formats.specs.Formats.{format_for, log_format}
use Rattle.log_model.specs.Layout.{size_of, texts_at, change_at, whole_at, decode_at}
use Rattle.log_model.specs.Recording.{note, record_insert, record_insert_str, record_delete}
use Rattle.log_model.specs.UndoBytes.{undo_records, undo_texts, all_numbers_fit, fits}
use Rattle.log_model.specs.Groups.{end_all, ends_any}
use Rattle.log_state.specs.Logs.{over_sizes, damaged}
use Rattle.log_state.specs.Calls.{undos, redos}
use Rattle.log_state.specs.Outcomes.{begin_out, end_out}
use Rattle.edit.specs.Plan.{splice, text_after, list_after, too_long, edited}
use Rattle.buffer.specs.Edit.{copies}
use Rattle.edit_case.specs.EditWord.{action_list, edit_word_call}
use Rattle.edit_transpose.specs.TransposeWords.{transpose_words_call}
use Rattle.undo_step.specs.UndoStep.{misfit, exchanging, undoing as UndoStep·undoing}
use Rattle.undo.specs.Undo as undos
use Rattle.undo_cancel.specs.Cancel as cancels
use Rattle.kill_ring.specs.declared.Action.TheVariants.{Yank}
use Rattle.kill_ring.specs.Ring as ring
use Rattle.kill_ring.specs.Calls as ringCalls
use Rattle.session.proofs.PlayedRing as playedRing
use Rattle.session.proofs.Played.{at, state, lending, typing, beginning, ending, undoing, cancelling, truncating, after}

-- "e", U+0301, "x"
abbrev marked : List ℕ
marked = 0x65 ∷ 0xCC ∷ 0x81 ∷ 0x78 ∷ []

-- "a\r\nb"
abbrev crlf : List ℕ
crlf = 0x61 ∷ 0x0D ∷ 0x0A ∷ 0x62 ∷ []

-- "parish box"
abbrev parish : List ℕ
parish = 0x70 ∷ 0x61 ∷ 0x72 ∷ 0x69 ∷ 0x73 ∷ 0x68 ∷ 0x20 ∷ 0x62 ∷ 0x6F ∷ 0x78 ∷ []

-- "banana"
abbrev banana : List ℕ
banana = 0x62 ∷ 0x61 ∷ 0x6E ∷ 0x61 ∷ 0x6E ∷ 0x61 ∷ []

-- "ab\nc\nlong"
abbrev lines : List ℕ
lines = 0x61 ∷ 0x62 ∷ 0x0A ∷ 0x63 ∷ 0x0A ∷ 0x6C ∷ 0x6F ∷ 0x6E ∷ 0x67 ∷ []

-- "a\nb\nc"
abbrev abc : List ℕ
abc = 0x61 ∷ 0x0A ∷ 0x62 ∷ 0x0A ∷ 0x63 ∷ []

-- "straße"
abbrev straße : List ℕ
straße = 0x73 ∷ 0x74 ∷ 0x72 ∷ 0x61 ∷ 0xC3 ∷ 0x9F ∷ 0x65 ∷ []

-- "STRASSE"
abbrev STRASSE : List ℕ
STRASSE = 0x53 ∷ 0x54 ∷ 0x52 ∷ 0x41 ∷ 0x53 ∷ 0x53 ∷ 0x45 ∷ []

-- "box"
abbrev box : List ℕ
box = 0x62 ∷ 0x6F ∷ 0x78 ∷ []

-- "parish"
abbrev first_word : List ℕ
first_word = 0x70 ∷ 0x61 ∷ 0x72 ∷ 0x69 ∷ 0x73 ∷ 0x68 ∷ []

-- a ring of 2 with the slots c and b, its index, after a yank of one byte
abbrev cb : ℕ → ring.KillRing
cb i = record { size = 2; slots = (0x63 ∷ []) ∷ (0x62 ∷ []) ∷ []; index = i; action = Yank 1 }

-- codes: words Big 0, Emacs 1, Vi 2; stops Start 0, BeforeEnd 1, AfterEnd 2; search Forward 0; movement LineDown 10; case action Uppercase 2
pub record Cases : Type 0 where
  -- forward 1 from 0: 3; forward 5: 4
  pub p1 : (move_forward catalogue marked (at 4 0) 1 ≡ answered 0 0 0 (at 4 3)) × (move_forward catalogue marked (at 4 0) 5 ≡ answered 0 0 0 (at 4 4))
  -- forward 1 from 1: 3, from 2: 3; forward 0: nothing
  pub p2 :
      (move_forward catalogue crlf (at 4 1) 1 ≡ answered 0 0 0 (at 4 3)) × (move_forward catalogue crlf (at 4 2) 1 ≡ answered 0 0 0 (at 4 3)) ×
      (move_forward catalogue crlf (at 4 1) 0 ≡ answered 1 0 0 (at 4 1))
  -- word back 1, Emacs, from 10: 7, from 7: 0
  pub p3 :
      (move_to_prev_word catalogue parish (at 10 10) 1 1 ≡ answered 0 0 0 (at 10 7)) × (move_to_prev_word catalogue parish (at 10 7) 1 1 ≡ answered 0 0 0 (at 10 0))
  -- word forward 1 from 0, Emacs: Start 7, AfterEnd 6; Vi BeforeEnd 5
  pub p4 :
      (move_to_next_word catalogue parish (at 10 0) 0 1 1 ≡ answered 0 0 0 (at 10 7)) × (move_to_next_word catalogue parish (at 10 0) 2 1 1 ≡ answered 0 0 0 (at 10 6)) ×
      (move_to_next_word catalogue parish (at 10 0) 1 2 1 ≡ answered 0 0 0 (at 10 5))
  -- forward 0: Emacs AfterEnd 10, Vi Start nothing
  pub p5 :
      (move_to_next_word catalogue parish (at 10 0) 2 1 0 ≡ answered 0 0 0 (at 10 10)) × (move_to_next_word catalogue parish (at 10 0) 0 2 0 ≡ answered 1 0 0 (at 10 0))
  -- at 1, Forward a, n 2 or 9: 5; n 0: nothing
  pub p6 :
      (move_to catalogue banana (at 6 1) 0 0x61 2 ≡ answered 0 0 0 (at 6 5)) × (move_to catalogue banana (at 6 1) 0 0x61 9 ≡ answered 0 0 0 (at 6 5)) ×
      (move_to catalogue banana (at 6 1) 0 0x61 0 ≡ answered 1 0 0 (at 6 1))
  -- at 2, copy LineDown 1: places 1 to 5
  pub p7 : copy_call catalogue abc (at 5 2) (codes 10 1 0 0 0 0) ≡ answered 0 1 5 (at 5 2)
  -- at 9, prompt 0, line up 2: 4
  pub p8 : move_to_line_up catalogue lines (at 9 9) 2 0 ≡ answered 0 0 0 (at 9 4)
  -- at 0, upper: "STRASSE", cursor 7
  pub p9 :
      edit_word_call catalogue log_format (lending (state straße 0 [])) 2
      ≡ answered 0 0 0 (state STRASSE 7 (edit (insert 0 STRASSE) ∷ edit (delete 0 straße) ∷ []))
  -- at 10, transpose_words 1: "parish box", cursor 10
  pub p10 :
      transpose_words_call catalogue log_format (lending (state (box ++ (0x20 ∷ first_word)) 10 [])) 1
      ≡ answered 0 0 0 (state parish 10 (edit (insert 0 first_word) ∷ edit (delete 0 box) ∷ edit (insert 4 box) ∷ edit (delete 4 first_word) ∷ []))
  -- type a, b, space, c: two records, "ab" and " c"; undo 1 leaves "ab"
  pub p11 :
      (after (typing 0x61 ∷ typing 0x62 ∷ typing 0x20 ∷ typing 0x63 ∷ []) ≡ state (0x61 ∷ 0x62 ∷ 0x20 ∷ 0x63 ∷ []) 4
      (edit (insert 2 (0x20 ∷ 0x63 ∷ [])) ∷ edit (insert 0 (0x61 ∷ 0x62 ∷ [])) ∷ []))
      × ((after (typing 0x61 ∷ typing 0x62 ∷ typing 0x20 ∷ typing 0x63 ∷ undoing 1 ∷ [])).text ≡ 0x61 ∷ 0x62 ∷ [])
  -- type q; begin; truncate to the mark that it answered; begin; type r; end; undo 1: empty text. With cancel for truncate: "q"
  pub p12 :
      ((after (typing 0x71 ∷ beginning ∷ truncating ∷ beginning ∷ typing 0x72 ∷ ending ∷ undoing 1 ∷ [])).text ≡ [])
      × ((after (typing 0x71 ∷ beginning ∷ cancelling ∷ beginning ∷ typing 0x72 ∷ ending ∷ undoing 1 ∷ [])).text ≡ 0x71 ∷ [])
  -- ring of 2, kills a, b, c with resets: yank c, pops b, c
  pub p13 :
      (ringCalls.yank_call catalogue (playedRing.lending (playedRing.after 2
      (playedRing.killing (0x61 ∷ []) ∷ playedRing.resetting ∷ playedRing.killing (0x62 ∷ []) ∷ playedRing.resetting ∷ playedRing.killing
      (0x63 ∷ []) ∷ []))) ≡ answered 0 0 0 (cb 0))
      × (ringCalls.yank_pop_call catalogue (playedRing.lending (cb 0)) ≡ answered 0 1 1 (cb 1))
      × (ringCalls.yank_pop_call catalogue (playedRing.lending (cb 1)) ≡ answered 0 0 1 (cb 0))

pub cases : Cases
unfolding within one two lead3 three lead4 four first_of first chars_from valid_from start_before scalar size is_member is_control is_mark is_alnum is_white
    width_of is_text is_char joined clusters word_list at_list search_list column_after columns_after width sizes next_pos prev_pos matches nth_match
    after_cluster match_forward match_backward is_start_of_word lands_behind indices_from grapheme_indices scan walk lands_on next_word no_word landed next_word_pos
    prev_word prev_word_pos start_of_line before_newline end_of_line nth_cluster line_above line_below line_up line_down lines_down n_lines_down movements copied
    starts_after refusal move_call is_lowercase is_uppercase upper_of lower_of encode encode_all case_all cased first_alnum skip_whitespace size_of texts_at change_at
    whole_at decode_at note record_insert record_insert_str record_delete undo_records undo_texts all_numbers_fit fits over_sizes damaged undos redos splice
    text_after list_after too_long edited copies action_list begin_out end_out end_all ends_any misfit exchanging UndoStep·undoing undos.walk undos.undo_out
    cancels.opens cancels.walk_to cancels.begins_down cancels.cancel_out ring.put_at ring.kill_out ring.yank_out ring.yank_pop_out ringCalls.slots_from
    ringCalls.any_over ringCalls.over_sizes ringCalls.action_breaks ringCalls.any_foreign ringCalls.damaged ringCalls.mode_list format_for advance
cases =
    record {
      p1 = (refl, refl);
      p2 = (refl, refl, refl);
      p3 = (refl, refl);
      p4 = (refl, refl, refl);
      p5 = (refl, refl);
      p6 = (refl, refl, refl);
      p7 = refl;
      p8 = refl;
      p9 = refl;
      p10 = refl;
      p11 = (refl, refl);
      p12 = (refl, refl);
      p13 = (refl, refl, refl);
    }
