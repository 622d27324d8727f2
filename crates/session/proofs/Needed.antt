-- That each condition of demand 3 is needed: the smallest lists of calls that break a conclusion without it, computed. Assumes nothing.
use mathlib.Core.Path.{◌≡◌, refl}
use mathlib.Core.List.{[], ◌∷◌}
use Prim.Native.Nat.{ℕ}
use Rattle.utf8.specs.Utf8.{within, one, two, lead3, three, lead4, four, first_of, first}
use Rattle.utf8.specs.Chars.{chars_from, valid_from, start_before}
use Rattle.utf8.specs.Encode.{scalar, size, encode}
use Rattle.repertoire.specs.Repertoire.{is_member, is_control, is_mark, is_alnum}
use Rattle.repertoire.specs.Text.{is_text, is_char}
use Rattle.cluster.specs.Clusters.{joined, clusters}
use Rattle.motion.specs.Steps.{sizes, prev_pos}
use Rattle.motion_ranges.specs.Ranges.{copied}
use Rattle.checks.specs.Checks.{refusal}
use Rattle.checks.specs.Outcome.{answered}
use Rattle.formats.specs.Formats.{format_for}
use Rattle.log_model.specs.Change.{begin, end, edit, insert, delete}
use Rattle.log_model.specs.Layout.{size_of, texts_at, change_at, whole_at, decode_at}
use Rattle.log_model.specs.Recording.{note, record_insert, record_delete}
use Rattle.log_model.specs.UndoBytes.{undo_records, undo_texts, all_numbers_fit, fits}
use Rattle.log_model.specs.Groups.{end_all, ends_any}
use Rattle.log_state.specs.Logs.{over_sizes, damaged}
use Rattle.log_state.specs.Calls.{undos, redos}
use Rattle.log_state.specs.Outcomes.{begin_out, end_out}
use Rattle.edit.specs.Plan.{splice, text_after, list_after, too_long, edited}
use Rattle.undo_step.specs.UndoStep.{misfit, exchanging, undoing as UndoStep·undoing}
use Rattle.undo.specs.Undo.{walk, undo_out}
use Rattle.undo_redo.specs.Redo.{redo_out}
use Rattle.calls.specs.Calls as calls
use Rattle.kill_ring.specs.Calls as rings
use Rattle.key_press.specs.Keys.{with_digit, value, behind, is_counted, count_of, key_in, control, escaped, press_of, foreign_key}
use Rattle.key_model.specs.Keyed.{key_call}
use Rattle.session.proofs.Played.{state, lending_in, asking, pressing, typing, beginning, ending, undoing, redoing, played, after}

-- a letter, and a space, which is a record of its own
abbrev a : ℕ
a = 0x61

abbrev space : ℕ
space = 0x20

pub record Needed : Type 0 where
  -- undo where a group is open: type a, begin, undo 1, end leaves an End without a Begin. Undo 1 takes both records as one unit, redo 1 gives back the first alone
  pub in_group :
      ((after (typing a ∷ beginning ∷ undoing 1 ∷ ending ∷ [])).log.undo ≡ end ∷ edit (insert 0 (a ∷ [])) ∷ [])
      × ((after (typing a ∷ beginning ∷ undoing 1 ∷ ending ∷ undoing 1 ∷ redoing 1 ∷ [])).log.undo ≡ edit (insert 0 (a ∷ [])) ∷ [])
  -- and C-_ is undo: type a, begin, C-_, end
  pub key_in_group : ((after (typing a ∷ beginning ∷ pressing (0x1F ∷ []) ∷ ending ∷ [])).log.undo ≡ end ∷ edit (insert 0 (a ∷ [])) ∷ [])
  -- a group open at the end: begin, type a, end, begin. Undo 1 and undo 1 empty the list, undo 2 stops behind the End
  pub group_open :
      ((after (beginning ∷ typing a ∷ ending ∷ beginning ∷ undoing 1 ∷ undoing 1 ∷ [])).log.undo ≡ [])
      × ((after (beginning ∷ typing a ∷ ending ∷ beginning ∷ undoing 2 ∷ [])).log.undo ≡ edit (insert 0 (a ∷ [])) ∷ begin ∷ [])
  -- a text buffer that shrinks: "a" cut from a buffer of one byte, and undone in one of none: 9
  pub smaller :
      undoing 1 0 (lending_in 0 (played (asking (calls.edit (calls.backspace 1)) ∷ []) 0 (state (a ∷ []) 1 [])))
      ≡ answered 9 0 0 (state [] 0 (edit (delete 0 (a ∷ [])) ∷ []))
  -- n above the units: type a, type a space, undo 1 leaves one unit and the text "a". Undo 2 and redo 2 give "a "
  pub above-units :
      ((after (typing a ∷ typing space ∷ undoing 1 ∷ [])).text ≡ a ∷ [])
      × ((after (typing a ∷ typing space ∷ undoing 1 ∷ undoing 2 ∷ redoing 2 ∷ [])).text ≡ a ∷ space ∷ [])
  -- n = 0: undo 0 is undo 1, and redo 0 is nothing
  pub zero : ((after (typing a ∷ undoing 0 ∷ redoing 0 ∷ [])).text ≡ [])

pub needed : Needed
unfolding format_for within one two lead3 three lead4 four first_of first chars_from valid_from start_before scalar size encode is_member is_control is_mark
    is_alnum is_text is_char joined clusters sizes prev_pos copied refusal size_of texts_at change_at whole_at decode_at note record_insert record_delete
    undo_records undo_texts all_numbers_fit fits end_all ends_any over_sizes damaged undos redos begin_out end_out splice text_after list_after too_long edited misfit
    exchanging UndoStep·undoing walk undo_out redo_out rings.slots_from rings.any_over rings.over_sizes rings.action_breaks rings.any_foreign rings.damaged
    with_digit value behind is_counted count_of key_in control escaped press_of foreign_key key_call
needed = record { in_group = (refl, refl); key_in_group = refl; group_open = (refl, refl); smaller = refl; above-units = (refl, refl); zero = refl }
